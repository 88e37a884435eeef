-- The sample on parts of the controls: the tables of the operating bins and the core's numbers apart, and the summer's rest worked out before.
-- Parts.antt of proofs/ shows that on the parts of a `ControlCache` and a topology's rest it is `filter_sample_of`.
use Rattle.std.specs.Prelude.{ℕ, false, cond, ◌&&◌, List, Float, Err, Result, Ok, Option, Some, None}
use Rattle.std.specs.Float.Ieee.Scale.{finite}
use Rattle.constants.specs.Values as K
use Rattle.answers.specs.declared.Refusal.TheVariants.{InputNotFinite}
use Rattle.answers.specs.declared.Buffer.TheVariants.{Bundle, Curves}
use Rattle.floats.specs.Arithmetic.{◌⊖◌, ◌⊗◌, f32}
use Rattle.integrator.specs.declared.IntegratorState.{IntegratorState}
use Rattle.mixing.specs.declared.MixingTopology.{MixingTopology}
use Rattle.bundle.specs.Opening.{judge_places_of}
use Rattle.bundle.specs.Reading.{read_of}
use Rattle.curves.specs.Sampling.{sample_curve_of, sample_curve_places_of, summer_resting_output_of, summer_resting_places_of}
use Rattle.controls.specs.declared.FilterControls.{FilterControls}
use Rattle.controls.specs.declared.ControlCache.{ControlCache}
use Rattle.refresh.specs.declared.CoreControls.{CoreControls}
use Rattle.sample.specs.declared.Sampled.{Sampled}
use Rattle.sample.specs.Sample.{summer_inputs_of, average_of, is_idle_of, fed_energy_of, tracked_energy_of, moved_of, at_rest_of, taken_of}
use Rattle.answers.specs.declared.Refusal.{Refusal}

-- ---- the controls that parts make, with 0 in the fields that no sample reads

abbrev pub filter_of : List Float → List Float → List Float → CoreControls → FilterControls
filter_of gains input_drives feedback_drives core =
    record {
      effective_cutoff_index = 0;
      integrator_gain = gains;
      input_drive = input_drives;
      feedback_drive = feedback_drives;
      damping = core.damping;
      source_gain_modulation = core.source_gain_modulation;
      high_pass_low_coupling = core.high_pass_low_coupling;
      band_pass_low_coupling = core.band_pass_low_coupling;
      resonance_position = f32 0;
      resonance_index = 0;
      resonance_feedback_scale = core.resonance_feedback_scale;
      source_modulation_resonance_scale = core.source_modulation_resonance_scale;
      resonance_output_gain = core.resonance_output_gain;
    }

abbrev pub cache_of : List Float → List Float → List Float → CoreControls → Float → ControlCache
cache_of gains input_drives feedback_drives core gain =
    record {
      filter = filter_of gains input_drives feedback_drives core;
      mode_output_gain = gain;
      output =
          record {
            filter_common_mode = f32 0;
            volume_fraction = f32 0;
            two_voice_volume_gain_offset = f32 0;
            combined_common_mode_gain = f32 0;
            pure_bypass_common_mode_gain = f32 0;
            scaled_filter_common_mode = f32 0;
            frozen_dac_bias_mode = false;
          };
    }

-- ---- `summer_transfer`

-- the summer's rest for a topology
abbrev pub rest_of : List ℕ → MixingTopology → Result Float Refusal
rest_of bundle t =
    let inputs = summer_inputs_of t.filter_input_count in
    read_of (judge_places_of Bundle bundle (summer_resting_places_of inputs)) (summer_resting_output_of bundle inputs)

abbrev pub summer_curve_of : List ℕ → ℕ → MixingTopology → Float → Result Float Refusal
summer_curve_of curves slot t sum =
    read_of (judge_places_of Curves curves (sample_curve_places_of slot (average_of t sum))) (sample_curve_of curves slot (average_of t sum))

-- the curve above the rest; the curve's entries are judged first
unfoldable pub above_of : Result Float Refusal → Result Float Refusal → Result Float Refusal
above_of (Err refusal) rest = Err refusal
above_of (Ok x) (Err refusal) = Err refusal
above_of (Ok x) (Ok rest) = Ok (x ⊖ rest)

abbrev pub summed_of : List ℕ → ℕ → MixingTopology → Result Float Refusal → Float → Result Float Refusal
summed_of curves slot t rest sum = above_of (summer_curve_of curves slot t sum) rest

-- ---- the sample

-- a level as what the core is fed, which is nothing where it is idle
abbrev pub fed_level_of : Result Float Refusal → Result (Option Float) Refusal
fed_level_of (Ok x) = Ok (Some x)
fed_level_of (Err refusal) = Err refusal

-- 5, and 3 where the sample is not idle
unfoldable pub core_input_of : List ℕ → ℕ → MixingTopology → Result Float Refusal → IntegratorState → Float → Float → Result (Option Float) Refusal
core_input_of curves slot t rest s sum energy =
    cond (finite sum && finite energy)
    (cond (is_idle_of t.filter_input_count s) (Ok None) (fed_level_of (summed_of curves slot t rest sum)))
    (Err InputNotFinite)

-- `advance_filter_core` from what the summer gives, and `select_filter_output`
unfoldable pub stepped_of : MixingTopology → ControlCache → ℕ → IntegratorState → Float → Result (Option Float) Refusal → Result Sampled Refusal
stepped_of t c mode s energy (Ok None) = taken_of c t.filter_output_count mode (at_rest_of s)
stepped_of t c mode s energy (Err refusal) = Err refusal
stepped_of t c mode s energy (Ok (Some x)) =
    taken_of c t.filter_output_count mode
    (moved_of c.filter s (x ⊗ K.filter_input_gain)
    (tracked_energy_of s.filter_source_energy (fed_energy_of t.filter_input_count t.filter_input_reciprocal energy)))

abbrev pub sample_from_parts_of : List ℕ → ℕ → MixingTopology → ControlCache → Result Float Refusal → ℕ → IntegratorState → Float → Float → Result Sampled Refusal
sample_from_parts_of curves slot t c rest mode s sum energy = stepped_of t c mode s energy (core_input_of curves slot t rest s sum energy)
