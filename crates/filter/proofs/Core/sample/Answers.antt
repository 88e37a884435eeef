use mathlib.Core.Path.{sym, ◌∙◌}
use Rattle.answers.proofs.Laws.{handed_on}
use Rattle.filter.specs.Core.{core_sample_of}
use Rattle.filter.proofs.Core.sample.Goals as goal

pub returns-in_err-judge_lent : goal.returns-in_err-judge_lent
unfolding core_sample_of
returns-in_err-judge_lent c =
    let lent = sym c.judge_lent.ensures ∙ c.in_err-judge_lent.was in
    record { value = handed_on _ c.from_residual.ensures ∙ simp lent; core_after = simp lent }

pub returns-in_err-judge : goal.returns-in_err-judge
unfolding core_sample_of
returns-in_err-judge c =
    let lent = sym c.judge_lent.ensures ∙ c.in_ok-judge_lent.was in
    let judged = sym c.judge.ensures ∙ c.in_err-judge.was in
    record { value = handed_on _ c.from_residual-in_err-judge.ensures ∙ simp (lent, judged); core_after = simp (lent, judged) }

pub returns : goal.returns
unfolding core_sample_of
returns c =
    let lent = sym c.judge_lent.ensures ∙ c.in_ok-judge_lent.was in
    let judged = sym c.judge.ensures ∙ c.in_ok-judge.was in
    record { value = simp (lent, judged, c.take.ensures.value); core_after = simp (lent, judged, c.take.ensures.core_after) }
