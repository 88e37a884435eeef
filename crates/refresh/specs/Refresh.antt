-- What the refresh calls give as the code makes it, by the part that a write changes, and what is refused of each part. The calls themselves are defined in
-- crates/controls: Controls.antt and Judging.antt.
use Rattle.std.specs.Prelude.{ℕ, false, cond, ◌&&◌, List, eqb, ℤ, get_or, replicate, Float, Err, is_ok, Result, Ok}
use Rattle.std.specs.Float.{binary32}
use Rattle.std.specs.Float.Ieee.{of_bits}
use Rattle.std.specs.Float.Ieee.Scale.{finite}
use Rattle.constants.specs.Drives.{sixteen}
use Rattle.answers.specs.declared.Refusal.TheVariants.{Domain}
use Rattle.answers.specs.Answers.{first_of, unless_of, Answer, done}
use Rattle.floats.specs.Arithmetic.{◌⊗◌, f32}
use Rattle.bundle.specs.Layout.{highpass_loading_place, directional_power_place}
use Rattle.bundle.specs.Opening.{entry_at}
use Rattle.bundle.specs.Reading.{read_of}
use Rattle.response.specs.Gain.{is_single_mode_of, mode_index_of, symmetric_gain_of}
use Rattle.control.specs.declared.FilterRegisters.{FilterRegisters}
use Rattle.control.specs.declared.State.{State}
use Rattle.control.specs.Registers.{effective_cutoff_of}
use Rattle.controls.specs.declared.FilterControls.{FilterControls}
use Rattle.controls.specs.declared.ControlCache.{ControlCache}
use Rattle.controls.specs.Controls.{refresh_filter_controls_of, refresh_mode_output_gain_of, refresh_register_output_state_of, controls_of}
use Rattle.controls.specs.Judging.{judge_if_of, judge_mode_of, finite_output_of, judge_controls_of}
use Rattle.refresh.specs.declared.CoreControls.{CoreControls}
use Rattle.refresh.specs.declared.CoreRefreshed.{CoreRefreshed}
use Rattle.answers.specs.declared.Refusal.{Refusal}
use Rattle.std.specs.Result.{result_and, result_unwrap_or}

-- ---- `refresh_filter_controls`

-- the numbers that a sample reads
abbrev pub core_controls_of : FilterControls → CoreControls
core_controls_of f =
    record {
      damping = f.damping;
      source_gain_modulation = f.source_gain_modulation;
      high_pass_low_coupling = f.high_pass_low_coupling;
      band_pass_low_coupling = f.band_pass_low_coupling;
      resonance_feedback_scale = f.resonance_feedback_scale;
      source_modulation_resonance_scale = f.source_modulation_resonance_scale;
      resonance_output_gain = f.resonance_output_gain;
    }

unfoldable pub refresh_core_of : List ℕ → ℕ → ℕ → CoreRefreshed
refresh_core_of bundle cutoff resonance =
    let f = refresh_filter_controls_of bundle cutoff resonance in
    record { integrator_gain = f.integrator_gain; core = core_controls_of f }

-- the floats of sixteen words
abbrev pub gains_of : List ℕ → List Float
gains_of w = sixteen (λ bin. of_bits binary32 (get_or w bin 0))

-- ---- `refresh_mode_output_gain`

-- the highpass loading, which mode 4 reads
abbrev pub read_loading_of : List ℕ → ℕ → ℕ → Result Float Refusal
read_loading_of bundle m effective =
    read_of (judge_if_of (eqb m 4) bundle (highpass_loading_place effective)) (cond (eqb m 4) (entry_at bundle (highpass_loading_place effective)) (f32 0x3f80_0000))

-- the loading curves at a cutoff, where a single output is selected
abbrev pub read_directional_of : List ℕ → ℕ → ℕ → ℤ → Result Float Refusal
read_directional_of bundle m cutoff displacement =
    let place = directional_power_place (mode_index_of m) cutoff displacement in
    read_of (judge_if_of (is_single_mode_of m) bundle place)
    (cond (is_single_mode_of m) (symmetric_gain_of (mode_index_of m) cutoff ⊗ entry_at bundle place) (f32 0x3f80_0000))

abbrev pub read_gain_of : List ℕ → FilterRegisters → ℕ → Result Float Refusal
read_gain_of bundle r effective = read_of (judge_mode_of bundle r effective) (refresh_mode_output_gain_of bundle r effective)

-- 3 of the entries, then 6 of the gain and of what `refresh_register_output_state` works out
unfoldable pub judge_gain_of : List ℕ → FilterRegisters → ℕ → Answer
judge_gain_of bundle r effective =
    first_of (judge_mode_of bundle r effective)
    (unless_of (finite (refresh_mode_output_gain_of bundle r effective) && finite_output_of (refresh_register_output_state_of r)) Domain)

abbrev pub read_mode_output_gain_of : List ℕ → FilterRegisters → ℕ → Result Float Refusal
read_mode_output_gain_of bundle r effective = read_of (judge_gain_of bundle r effective) (refresh_mode_output_gain_of bundle r effective)

-- ---- all three

-- the gain of a state, and 0 where it is refused
abbrev pub state_gain_of : List ℕ → State → Float
state_gain_of bundle s = result_unwrap_or (read_mode_output_gain_of bundle s.registers (effective_cutoff_of s)) (f32 0)

-- what the controls of a state refuse, or its gain
abbrev pub judged_of : List ℕ → State → Result Float Refusal
judged_of bundle s = read_of (judge_controls_of bundle s) (refresh_mode_output_gain_of bundle s.registers (effective_cutoff_of s))

abbrev pub no_controls : ControlCache
no_controls =
    let zeros = replicate 16 (f32 0) in
    record {
      filter =
          record {
            effective_cutoff_index = 0;
            integrator_gain = zeros;
            input_drive = zeros;
            feedback_drive = zeros;
            damping = f32 0;
            source_gain_modulation = f32 0;
            high_pass_low_coupling = f32 0;
            band_pass_low_coupling = f32 0;
            resonance_position = f32 0;
            resonance_index = 0;
            resonance_feedback_scale = f32 0;
            source_modulation_resonance_scale = f32 0;
            resonance_output_gain = f32 0;
          };
      mode_output_gain = f32 0;
      output =
          record {
            filter_common_mode = f32 0;
            volume_fraction = f32 0;
            two_voice_volume_gain_offset = f32 0;
            combined_common_mode_gain = f32 0;
            pure_bypass_common_mode_gain = f32 0;
            scaled_filter_common_mode = f32 0;
            frozen_dac_bias_mode = false;
          };
    }

-- what they refuse, or the controls
abbrev pub refresh_of : List ℕ → State → Result ControlCache Refusal
refresh_of bundle s = result_and (judge_controls_of bundle s) (Ok (controls_of bundle s))
