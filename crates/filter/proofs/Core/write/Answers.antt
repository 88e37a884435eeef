use mathlib.Core.Path.{sym, ◌∙◌}
use Rattle.answers.proofs.Laws.{handed_on}
use Rattle.filter.specs.Core.{core_write_of}
use Rattle.filter.proofs.Core.write.Goals as goal

pub returns-in_err-check : goal.returns-in_err-check
unfolding core_write_of
returns-in_err-check c =
    let checked = sym c.check.ensures ∙ c.in_err-check.was in
    record { value = handed_on _ c.from_residual.ensures ∙ simp checked; core_after = simp checked }

pub returns-in_err-judge : goal.returns-in_err-judge
unfolding core_write_of
returns-in_err-judge c =
    let checked = sym c.check.ensures ∙ c.in_ok-check.was in
    let judged = sym c.judge.ensures ∙ c.in_err-judge.was in
    record { value = handed_on _ c.from_residual-in_err-judge.ensures ∙ simp (checked, judged); core_after = simp (checked, judged) }

pub returns : goal.returns
unfolding core_write_of
returns c =
    let checked = sym c.check.ensures ∙ c.in_ok-check.was in
    let judged = sym c.judge.ensures ∙ c.in_ok-judge.was in
    record { value = simp (checked, judged, c.change.ensures.value); core_after = simp (checked, judged, c.change.ensures.core_after) }
