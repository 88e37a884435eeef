use mathlib.Core.Path.{sym, ◌∙◌}
use native.Mathlib.Omega.{arith}
use Rattle.answers.proofs.Laws.{handed_on}
use Rattle.control.specs.Registers.{of_registers}
use Rattle.refresh.proofs.Parts.{filter_refused, gain_read}
use Rattle.refresh.proofs.judge_registers.Goals as goal

pub returns-in_err-judge_filter : goal.returns-in_err-judge_filter
returns-in_err-judge_filter c =
    let a = c.args in
    let e = simp c.effective_cutoff-effective.ensures at c.judge_filter.ensures in
    handed_on _ c.from_residual.ensures ∙ filter_refused a.bundle.now (of_registers a.registers) (omega (arith, c.well_formed.1)) (sym e ∙ c.in_err-judge_filter.was)

pub returns : goal.returns
returns c =
    let a = c.args in
    let e = simp c.effective_cutoff-effective.ensures at c.judge_filter.ensures in
    simp (c.read_mode_output_gain.ensures, c.effective_cutoff-effective.ensures)
    (gain_read a.bundle.now (of_registers a.registers) (omega (arith, c.well_formed.1)) (sym e ∙ c.in_ok-judge_filter.was))
