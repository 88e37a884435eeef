use mathlib.Core.Path.{sym, ◌∙◌}
use Rattle.answers.proofs.Laws.{handed_on}
use Rattle.filter.specs.Core.{take_of}
use Rattle.filter.proofs.Core.take.Goals as goal

pub returns-in_err-sampled : goal.returns-in_err-sampled
unfolding take_of
returns-in_err-sampled c =
    let refused = sym (simp c.summer_slot.ensures at c.filter_sample.ensures) ∙ c.in_err-sampled.was in
    record { value = handed_on _ c.from_residual.ensures ∙ simp refused; core_after = simp refused }

pub returns : goal.returns
unfolding take_of
returns c =
    let taken = sym (simp c.summer_slot.ensures at c.filter_sample.ensures) ∙ c.in_ok-sampled.was in
    record { value = simp taken; core_after = simp taken }
