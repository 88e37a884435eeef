use mathlib.Core.Path.{sym, ◌∙◌}
use Rattle.answers.proofs.Laws.{handed_on, unless_done, unless_refused}
use Rattle.clock.specs.Clock.{clocked_of}
use Rattle.clock.proofs.clocked.Goals as goal

pub returns-in_err-unless : goal.returns-in_err-unless
unfolding clocked_of
returns-in_err-unless c =
    let off = unless_refused _ _ (sym c.unless.ensures ∙ c.in_err-unless.was) in
    handed_on _ c.from_residual.ensures
    ∙ simp (
      ← c.charged-charged.ensures,
      ← c.combined_activity.ensures,
      ← c.common_mode_displacement-displacement.ensures,
      ← c.bypass_output_gain-gain.ensures,
      ← c.stage_argument-stage.ensures,
      ← c.node_charge-charge.ensures,
      ← c.is_finite.ensures,
      ← c.is_finite-2.ensures,
      ← c.is_finite-3.ensures,
      off.0,
      off.1,
    )

pub returns : goal.returns
unfolding clocked_of
returns c =
    simp (
      ← c.charged-charged.ensures,
      ← c.combined_activity.ensures,
      ← c.common_mode_displacement-displacement.ensures,
      ← c.bypass_output_gain-gain.ensures,
      ← c.stage_argument-stage.ensures,
      ← c.node_charge-charge.ensures,
      ← c.decayed-transients.ensures,
      ← c.is_finite.ensures,
      ← c.is_finite-2.ensures,
      ← c.is_finite-3.ensures,
      unless_done _ _ (sym c.unless.ensures ∙ c.in_ok-unless.was),
    )
