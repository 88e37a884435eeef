-- The three refresh calls of filter.rs, operation by operation: what is kept of the registers for the samples that follow.
use Rattle.std.specs.Prelude.{ℕ, ◌%◌, cond, ◌&&◌, List, eqb, pos, Float}
use Rattle.std.specs.Float.{binary32}
use Rattle.std.specs.Float.Ieee.{of_int}
use Rattle.constants.specs.Values as K
use Rattle.constants.specs.Drives.{sixteen, input_drives_of, feedback_drives_of}
use Rattle.floats.specs.Arithmetic.{◌⊕◌, ◌⊖◌, ◌⊗◌, ◌⊘◌, f32}
use Rattle.floats.specs.Floats.{clamp_of}
use Rattle.response.specs.Levels.{filter_output_common_mode_of}
use Rattle.response.specs.Gain.{filter_mode_output_gain_of, symmetric_gain_of, is_single_mode_of, mode_index_of}
use Rattle.bundle.specs.Layout.{integrator_gain_place, damping_place, source_gain_modulation_place, highpass_loading_place, directional_power_place}
use Rattle.bundle.specs.Opening.{entry_at}
use Rattle.control.specs.declared.FilterRegisters.{FilterRegisters}
use Rattle.control.specs.declared.State.{State}
use Rattle.control.specs.Registers.{effective_cutoff_of}
use Rattle.controls.specs.declared.FilterControls.{FilterControls}
use Rattle.controls.specs.declared.OutputControls.{OutputControls}
use Rattle.controls.specs.declared.ControlCache.{ControlCache}

abbrev one : Float
one = f32 0x3f80_0000

-- ---- `refresh_filter_controls`, at the effective cutoff

-- FILTER_HIGHPASS_LOW_COUPLING_ZERO / (1.0 + position / FILTER_HIGHPASS_LOW_COUPLING_DECAY)
abbrev pub high_pass_low_coupling_of : Float → Float
high_pass_low_coupling_of position = K.filter_highpass_low_coupling_zero ⊘ (one ⊕ position ⊘ K.filter_highpass_low_coupling_decay)

abbrev pub band_pass_low_coupling_of : Float → Float
band_pass_low_coupling_of position =
    let square = position ⊗ position in
    K.filter_bandpass_low_coupling_max ⊗ square ⊘ (square ⊕ K.filter_bandpass_low_coupling_knee ⊗ K.filter_bandpass_low_coupling_knee)

-- resonance as f32 / 15.0
abbrev pub resonance_part_of : ℕ → Float
resonance_part_of resonance = of_int binary32 (pos resonance) ⊘ f32 0x4170_0000

-- 0.78 + 0.30 * resonance_position
abbrev pub feedback_scale_of : Float → Float
feedback_scale_of r = f32 0x3f47_ae14 ⊕ f32 0x3e99_999a ⊗ r

abbrev pub modulation_scale_of : Float → Float
modulation_scale_of r = K.filter_source_resonance_floor ⊕ (one ⊖ K.filter_source_resonance_floor) ⊗ r ⊗ r

-- ((resonance_position - 8.0 / 15.0) / (7.0 / 15.0)).clamp(0.0, 1.0)
abbrev pub lift_position_of : Float → Float
lift_position_of r = clamp_of ((r ⊖ f32 0x4100_0000 ⊘ f32 0x4170_0000) ⊘ (f32 0x40e0_0000 ⊘ f32 0x4170_0000)) (f32 0) one

abbrev pub resonance_output_gain_of : Float → Float
resonance_output_gain_of lift = one ⊕ K.sid_resonance_output_lift ⊗ lift ⊗ lift

abbrev pub gain_at : List ℕ → ℕ → ℕ → ℕ → Float
gain_at bundle code resonance bin = entry_at bundle (integrator_gain_place code resonance bin)

unfoldable pub integrator_gain_of : List ℕ → ℕ → ℕ → List Float
integrator_gain_of bundle code resonance = sixteen (gain_at bundle code resonance)

unfoldable pub refresh_filter_controls_of : List ℕ → ℕ → ℕ → FilterControls
refresh_filter_controls_of bundle cutoff resonance =
    let position = of_int binary32 (pos cutoff) in
    let r = resonance_part_of resonance in
    record {
      effective_cutoff_index = cutoff;
      integrator_gain = integrator_gain_of bundle cutoff resonance;
      input_drive = input_drives_of;
      feedback_drive = feedback_drives_of;
      damping = entry_at bundle (damping_place resonance);
      source_gain_modulation = entry_at bundle (source_gain_modulation_place cutoff);
      high_pass_low_coupling = high_pass_low_coupling_of position;
      band_pass_low_coupling = band_pass_low_coupling_of position;
      resonance_position = r;
      resonance_index = resonance;
      resonance_feedback_scale = feedback_scale_of r;
      source_modulation_resonance_scale = modulation_scale_of r;
      resonance_output_gain = resonance_output_gain_of (lift_position_of r);
    }

-- ---- `refresh_mode_output_gain`: the gain reads the effective cutoff, the loading curves the written one

unfoldable pub directional_of : List ℕ → FilterRegisters → Float
directional_of bundle r =
    let m = r.mode % 8 in
    cond (is_single_mode_of m)
    (symmetric_gain_of (mode_index_of m) r.cutoff ⊗ entry_at bundle (directional_power_place (mode_index_of m) r.cutoff r.cutoff_dac_displacement_codes))
    one

unfoldable pub refresh_mode_output_gain_of : List ℕ → FilterRegisters → ℕ → Float
refresh_mode_output_gain_of bundle r effective =
    filter_mode_output_gain_of r.mode r.resonance effective (entry_at bundle (highpass_loading_place effective)) ⊗ directional_of bundle r

-- ---- `refresh_register_output_state`

unfoldable pub refresh_register_output_state_of : FilterRegisters → OutputControls
refresh_register_output_state_of r =
    let common = filter_output_common_mode_of r.mode r.cutoff in
    let volume = of_int binary32 (pos r.volume) in
    let fraction = volume ⊘ f32 0x4170_0000 in
    record {
      filter_common_mode = common;
      volume_fraction = fraction;
      two_voice_volume_gain_offset =
          K.sid_mixer_two_voice_volume_gain_at_code_9 ⊖ one ⊕ K.sid_mixer_two_voice_volume_gain_per_code ⊗ (volume ⊖ f32 0x4110_0000);
      combined_common_mode_gain = K.combined_output_common_mode ⊗ fraction;
      pure_bypass_common_mode_gain = K.pure_bypass_output_common_mode ⊗ fraction;
      scaled_filter_common_mode = common ⊗ fraction;
      frozen_dac_bias_mode = eqb r.cutoff 2047 && eqb r.resonance 0 && eqb r.routing 3;
    }

-- ---- all three

unfoldable pub controls_of : List ℕ → State → ControlCache
controls_of bundle s =
    let effective = effective_cutoff_of s in
    record {
      filter = refresh_filter_controls_of bundle effective s.registers.resonance;
      mode_output_gain = refresh_mode_output_gain_of bundle s.registers effective;
      output = refresh_register_output_state_of s.registers;
    }
