use mathlib.Core.Path.{sym, ◌∙◌}
use Rattle.answers.proofs.Laws.{handed_on}
use Rattle.turns.specs.Turns.{take_tick_of}
use Rattle.turns.proofs.take_tick.Goals as goal

pub returns-in_err-ticked : goal.returns-in_err-ticked
unfolding take_tick_of
returns-in_err-ticked c =
    let refused = sym (simp (c.settings_of.ensures, c.voices_of.ensures) at c.clock.ensures) ∙ c.in_err-ticked.was in
    record { value = handed_on _ c.from_residual.ensures ∙ simp refused; core_after = simp refused }

pub returns : goal.returns
unfolding take_tick_of
returns c =
    let taken = sym (simp (c.settings_of.ensures, c.voices_of.ensures) at c.clock.ensures) ∙ c.in_ok-ticked.was in
    record { value = simp taken; core_after = simp taken }
