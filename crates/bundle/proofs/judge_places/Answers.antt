use mathlib.Core.Path.{sym, ap, ◌∙◌}
use lib.ListN.{drop_of_length-le}
use Rattle.std.specs.Prelude.{Err}
use borrow.Author.Rules.{rules}
use Rattle.answers.proofs.Laws.{handed_on, unless_done, unless_refused}
use Rattle.bundle.specs.Opening.{judge_places_of}
use Rattle.bundle.proofs.Laws.{judge_on, judge_off}
use Rattle.bundle.proofs.judge_places.Goals as goal

pub returns-in_err-unless : goal.returns-in_err-unless
returns-in_err-unless c =
    let a = c.args in
    let off = unless_refused _ _ (sym c.unless.ensures ∙ c.in_err-unless.was) in
    let unusable = judge_off a.buffer a.bytes.now a.places.now c.loop-place.place-index c.loop-place-test.true (sym c.usable_at.ensures ∙ off.0) in
    handed_on _ c.from_residual.ensures ∙ sym (c.loop-place.invariant ∙ unusable ∙ ap Err off.1)

pub loop-place-preserved : goal.loop-place-preserved
loop-place-preserved c =
    let a = c.args in
    let on = unless_done _ _ (sym c.unless.ensures ∙ c.in_ok-unless.was) in
    c.loop-place.invariant ∙ judge_on a.buffer a.bytes.now a.places.now c.loop-place.place-index c.loop-place-test.true (sym c.usable_at.ensures ∙ on)

pub returns : goal.returns
unfolding judge_places_of
returns c =
    let a = c.args in
    sym (c.loop-place.invariant ∙ ap (judge_places_of a.buffer a.bytes.now) (drop_of_length-le a.places.now {i = c.loop-place.place-index} (search rules)))
