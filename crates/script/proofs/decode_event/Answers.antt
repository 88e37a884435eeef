use mathlib.Core.Path.{◌≡◌}
use borrow.Author.Tests.{ne_eqb}
use Rattle.wire.specs.Wire.{f32_at}
use Rattle.script.specs.Script.{kind_of, decode_event_of}
use Rattle.script.proofs.Laws.{event_told, event_not}
use Rattle.script.proofs.decode_event.Goals as goal
use Rattle.script.proofs.decode_event.Goals.{After-byte_at-3}

-- by its kind, where its length and its zero bytes are right
told :
    (c : After-byte_at-3) →
    let b = c.args.bytes.now in
    kind_of c.byte_at-3.result c.byte_at-value.result (f32_at b 4) (f32_at b 8) ≡ decode_event_of b
told c = event_told _ c.byte_at.ensures c.byte_at-2.ensures c.byte_at-value.ensures c.byte_at-3.ensures c.if-not-tidy.false

pub returns-then-not-tidy : goal.returns-then-not-tidy
returns-then-not-tidy c = event_not _ c.byte_at.ensures c.byte_at-2.ensures c.if-not-tidy.true

pub returns-in-0 : goal.returns-in-0
unfolding kind_of
returns-in-0 c = rw c.in-0.is at (told (goal.at.returns-in-0 c).After-byte_at-3)

pub returns-in-1 : goal.returns-in-1
unfolding kind_of
returns-in-1 c = rw c.in-1.is at (told (goal.at.returns-in-1 c).After-byte_at-3)

pub returns-in-2 : goal.returns-in-2
unfolding kind_of
returns-in-2 c = rw c.in-2.is at (told (goal.at.returns-in-2 c).After-byte_at-3)

pub returns-in-3 : goal.returns-in-3
unfolding kind_of
returns-in-3 c = rw c.in-3.is at (told (goal.at.returns-in-3 c).After-byte_at-3)

pub returns-in-4 : goal.returns-in-4
unfolding kind_of
returns-in-4 c = rw (c.f32_at.ensures, c.f32_at-in-4.ensures) (rw c.in-4.is at (told (goal.at.returns-in-4 c).After-byte_at-3))

pub returns-in-5 : goal.returns-in-5
unfolding kind_of
returns-in-5 c = rw c.in-5.is at (told (goal.at.returns-in-5 c).After-byte_at-3)

pub returns-in_default : goal.returns-in_default
unfolding kind_of
returns-in_default c =
    let r = c.in_default.in_default-own.rest in
    rw (ne_eqb _ _ r.0.0.0.0.0.1, ne_eqb _ _ r.0.0.0.0.1, ne_eqb _ _ r.0.0.0.1, ne_eqb _ _ r.0.0.1, ne_eqb _ _ r.0.1, ne_eqb _ _ r.1) at (told (goal.at.returns-in_default c).After-byte_at-3)
