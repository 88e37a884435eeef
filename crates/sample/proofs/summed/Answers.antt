use mathlib.Core.Path.{◌∙◌}
use Rattle.answers.proofs.Laws.{handed_on}
use Rattle.sample.specs.Parts.{above_of}
use Rattle.sample.proofs.summed.Goals as goal

pub returns-in_err-level : goal.returns-in_err-level
unfolding above_of
returns-in_err-level c =
    let e = simp c.average.ensures at c.read_curve.ensures in
    handed_on _ c.from_residual.ensures ∙ simp (← e, c.in_err-level.was)

pub returns-in_err-resting : goal.returns-in_err-resting
unfolding above_of
returns-in_err-resting c =
    let e = simp c.average.ensures at c.read_curve.ensures in
    handed_on _ c.from_residual-in_err-resting.ensures ∙ simp (← e, c.in_ok-level.was, c.in_err-resting.was)

pub returns : goal.returns
unfolding above_of
returns c =
    let e = simp c.average.ensures at c.read_curve.ensures in
    simp (← e, c.in_ok-level.was, c.in_ok-resting.was)
