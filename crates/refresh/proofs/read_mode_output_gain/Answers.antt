use mathlib.Core.Path.{sym, ◌∙◌}
use mathlib.Core.Bool.{◌&&◌}
use native.Mathlib.Omega.{arith}
use lib.Ieee.Scale.{finite}
use Rattle.answers.specs.declared.Refusal.TheVariants.{Domain}
use Rattle.answers.proofs.Laws.{handed_on, unless_done, unless_refused}
use Rattle.bundle.proofs.Reading.{first_refused, test_passed, test_failed}
use Rattle.controls.specs.Controls.{refresh_register_output_state_of}
use Rattle.controls.specs.Judging.{finite_output_of}
use Rattle.finite.proofs.Finite.{output_finite}
use Rattle.refresh.specs.Refresh.{judge_gain_of}
use Rattle.refresh.proofs.read_mode_output_gain.Goals as goal

pub returns-in_err-gain : goal.returns-in_err-gain
unfolding judge_gain_of
returns-in_err-gain c = handed_on _ c.from_residual.ensures ∙ first_refused _ _ _ _ (sym c.in_err-gain.was ∙ c.read_gain.ensures)

pub returns-in_err-unless : goal.returns-in_err-unless
unfolding judge_gain_of
returns-in_err-unless c =
    let r = c.args.r in
    let off = unless_refused _ _ (sym c.unless.ensures ∙ c.in_err-unless.was) in
    handed_on _ c.from_residual-in_err-unless.ensures
    ∙ rw (← off.1) (test_failed _ _ (λ x. finite x && finite_output_of (refresh_register_output_state_of r)) Domain (sym c.in_ok-gain.was ∙ c.read_gain.ensures)
    (simp (sym c.is_finite.ensures ∙ off.0)))

pub returns : goal.returns
unfolding judge_gain_of
returns c =
    let r = c.args.r in
    test_passed _ _ (λ x. finite x && finite_output_of (refresh_register_output_state_of r)) Domain (sym c.in_ok-gain.was ∙ c.read_gain.ensures)
    (simp (sym c.is_finite.ensures ∙ unless_done _ _ (sym c.unless.ensures ∙ c.in_ok-unless.was), output_finite r (omega arith) (omega arith)))
