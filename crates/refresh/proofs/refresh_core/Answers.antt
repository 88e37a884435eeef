use Rattle.controls.specs.Controls.{refresh_filter_controls_of}
use Rattle.refresh.specs.Refresh.{refresh_core_of}
use Rattle.refresh.proofs.Words.{gains_read}
use Rattle.refresh.proofs.refresh_core.Goals as goal

pub returns : goal.returns
unfolding refresh_core_of refresh_filter_controls_of
returns c =
    let a = c.args in
    simp (
      c.resonance_output_gain.ensures,
      c.modulation_scale.ensures,
      c.feedback_scale.ensures,
      c.band_pass_low_coupling.ensures,
      c.high_pass_low_coupling.ensures,
      c.f32_of-2.ensures,
      c.f32_of.ensures,
      c.gains_of.ensures,
      c.resonance_part-r.ensures,
      c.of_u16-position.ensures,
      c.u32_at-modulation.ensures,
      c.source_gain_modulation_place.ensures,
      c.u32_at-damping.ensures,
      c.damping_place.ensures,
      c.sixteen_at-gains.ensures,
      c.integrator_gain_place.ensures,
      gains_read a.bundle.now a.cutoff a.resonance,
    )
