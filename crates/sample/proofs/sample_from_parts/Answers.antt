use mathlib.Core.Path.{sym, ◌∙◌}
use Rattle.answers.proofs.Laws.{handed_on}
use Rattle.sample.specs.Parts.{stepped_of}
use Rattle.sample.proofs.Parts.{taken_parts}
use Rattle.sample.proofs.sample_from_parts.Goals as goal

pub returns-in_err-fed : goal.returns-in_err-fed
unfolding stepped_of
returns-in_err-fed c = handed_on _ c.from_residual.ensures ∙ simp (sym c.core_input.ensures ∙ c.in_err-fed.was)

pub returns-in_default : goal.returns-in_default
unfolding stepped_of
returns-in_default c =
    let a = c.args in
    simp (
      sym c.core_input.ensures ∙ c.in_ok-fed.was,
      c.in_default.is,
      c.taken.ensures,
      c.at_rest.ensures,
      taken_parts a.gains.now a.input_drives.now a.feedback_drives.now a.core a.mode_output_gain,
    )

pub returns : goal.returns
unfolding stepped_of
returns c =
    let a = c.args in
    simp (
      sym c.core_input.ensures ∙ c.in_ok-fed.was,
      c.in-Some.is,
      c.taken-2.ensures,
      c.moved-moved.ensures,
      c.tracked_energy-energy.ensures,
      c.fed_energy.ensures,
      taken_parts a.gains.now a.input_drives.now a.feedback_drives.now a.core a.mode_output_gain,
    )
