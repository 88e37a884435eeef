use mathlib.Core.Path.{refl, sym, ◌∙◌}
use mathlib.Core.Bool.{true≢false}
use native.Mathlib.Omega.{arith}
use Rattle.script.proofs.Laws.{all_stop, events_next, events_end}
use Rattle.run.proofs.sample_next.Goals as goal

pub returns-then-count-i : goal.returns-then-count-i
returns-then-count-i c = rw (events_end _ _ _ c.if-count-i.true) refl

pub returns-in_default : goal.returns-in_default
returns-in_default c = absurd (true≢false (sym c.requires.readable ∙ all_stop _ _ _ (omega arith) (sym c.event_at.ensures ∙ c.in_default.is)))

pub returns : goal.returns
returns c = rw (c.is_sample.ensures, events_next _ _ _ c.if-count-i.false c.in-Some.event (sym c.event_at.ensures ∙ c.in-Some.is)) refl
