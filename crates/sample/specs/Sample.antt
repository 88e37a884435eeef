-- The filter's step for one sample, operation by operation from filter.rs: `summer_transfer`, `advance_filter_core`, `select_filter_output`,
-- and the refusals 5, 3 and 6 in that order.
use Rattle.std.specs.Prelude.{ℕ, ◌+◌, ◌%◌, min, Bool, cond, ◌&&◌, List, eqb, ltb, pos, get_or, Float, Err, is_ok, Option, Some, None, Result, Ok}
use Rattle.std.specs.Float.{nan, binary32}
use Rattle.std.specs.Float.Ieee.{eq, of_int}
use Rattle.std.specs.Float.Ieee.Scale.{finite}
use Rattle.constants.specs.Values as K
use Rattle.answers.specs.declared.Refusal.TheVariants.{InputNotFinite, Domain}
use Rattle.answers.specs.declared.Buffer.TheVariants.{Bundle, Curves}
use Rattle.std.specs.Result.{result_and}
use Rattle.answers.specs.Answers.{first_of, unless_of, Answer, done}
use Rattle.floats.specs.Arithmetic.{◌⊕◌, ◌⊖◌, ◌⊗◌, ◌⊘◌, f32}
use Rattle.integrator.specs.declared.IntegratorState.{IntegratorState}
use Rattle.integrator.specs.declared.FilterOutputs.{FilterOutputs}
use Rattle.integrator.specs.declared.Coefficients.{Coefficients}
use Rattle.integrator.specs.Integrator.{saturate_of, four_substeps_of}
use Rattle.response.specs.declared.TablePosition.{TablePosition}
use Rattle.response.specs.Levels.{interpolate_of, filter_mode_quiescent_level_of}
use Rattle.response.specs.Position.{operating_position_of}
use Rattle.mixing.specs.declared.MixingTopology.{MixingTopology}
use Rattle.bundle.specs.Opening.{judge_places_of}
use Rattle.curves.specs.declared.CurvePoint.{CurvePoint}
use Rattle.curves.specs.Sampling.{sample_curve_of, sample_curve_places_of, curve_point_of, summer_resting_output_of, summer_resting_places_of}
use Rattle.controls.specs.declared.FilterControls.{FilterControls}
use Rattle.controls.specs.declared.ControlCache.{ControlCache}
use Rattle.sample.specs.declared.Outputs.{Outputs}
use Rattle.sample.specs.declared.Sampled.{Sampled}
use Rattle.integrator.specs.declared.Advanced.{Advanced}
use Rattle.answers.specs.declared.Refusal.{Refusal}

abbrev one : Float
one = f32 0x3f80_0000

-- ---- `summer_transfer`

-- 2 + filter_input_count. A count above 4, which no routing has, counts as 4.
abbrev pub summer_inputs_of : ℕ → ℕ
summer_inputs_of count = 2 + min count 4

-- curves.summer[input_count], by its slot in a buffer of all 31 curves. What follows takes the slot, so that the buffer may hold other curves.
abbrev pub summer_slot_of : MixingTopology → ℕ
summer_slot_of t = summer_inputs_of t.filter_input_count

-- (input_sum + 2.0 * quiescent) * summer_input_reciprocal
abbrev pub average_of : MixingTopology → Float → Float
average_of t sum = (sum ⊕ f32 0x4000_0000 ⊗ filter_mode_quiescent_level_of) ⊗ t.summer_input_reciprocal

unfoldable pub summer_transfer_of : List ℕ → List ℕ → ℕ → MixingTopology → Float → Float
summer_transfer_of bundle curves slot t sum =
    let inputs = summer_inputs_of t.filter_input_count in
    sample_curve_of curves slot (average_of t sum) ⊖ summer_resting_output_of bundle inputs

-- the same, with the place of the average on the curve
unfoldable pub summer_point_of : List ℕ → List ℕ → ℕ → MixingTopology → Float → CurvePoint
summer_point_of bundle curves slot t sum =
    let at = curve_point_of curves slot (average_of t sum) in
    record { value = summer_transfer_of bundle curves slot t sum; index = at.index; fraction = at.fraction }

-- what it reads: two entries of the curve, then four of the surface for the resting output
unfoldable pub judge_summer_of : List ℕ → List ℕ → ℕ → MixingTopology → Float → Answer
judge_summer_of bundle curves slot t sum =
    let inputs = summer_inputs_of t.filter_input_count in
    first_of (judge_places_of Curves curves (sample_curve_places_of slot (average_of t sum))) (judge_places_of Bundle bundle (summer_resting_places_of inputs))

-- ---- `advance_filter_core`

-- no filter input, and energy and both capacitors equal to 0, of either sign
abbrev pub is_idle_of : ℕ → IntegratorState → Bool
is_idle_of count s = eqb count 0 && eq s.filter_source_energy (f32 0) && eq s.band_state (f32 0) && eq s.low_state (f32 0)

-- the energy of one input, where there is one
abbrev pub fed_energy_of : ℕ → Float → Float → Float
fed_energy_of count reciprocal energy = cond (ltb 0 count) (energy ⊗ reciprocal) energy

-- the tracked energy moves towards what is fed
abbrev pub tracked_energy_of : Float → Float → Float
tracked_energy_of tracked fed = tracked ⊕ K.filter_source_energy_tracking ⊗ (fed ⊖ tracked)

-- `interpolate`, between the two operating bins
abbrev pub between_bins : List Float → TablePosition → Float
between_bins values at = interpolate_of (get_or values at.lower nan) (get_or values at.upper nan) at.fraction

-- source_gain_modulation * source_energy_drive * source_modulation_resonance_scale
abbrev pub shift_of : Float → Float → Float → Float
shift_of modulation scale energy = modulation ⊗ (energy ⊘ (energy ⊕ K.filter_source_energy_knee)) ⊗ scale

-- a1 = 1.0 / (1.0 + g * (g + damping)), a2 = g * a1, a3 = g * g * a1
abbrev pub coefficients_of : Float → Float → Float → Coefficients
coefficients_of damping feedback_drive g =
    let a1 = one ⊘ (one ⊕ g ⊗ (g ⊕ damping)) in
    record { damping = damping; feedback_drive = feedback_drive; a1 = a1; a2 = g ⊗ a1; a3 = g ⊗ g ⊗ a1 }

-- From the filter's input and the new energy: the bins by the old capacitors, then four substeps from them.
unfoldable pub moved_of : FilterControls → IntegratorState → Float → Float → Option Advanced
moved_of f s input energy =
    let at = operating_position_of input s.band_state s.low_state in
    let feedback_drive = between_bins f.feedback_drive at ⊗ f.resonance_feedback_scale in
    let input_drive = between_bins f.input_drive at in
    let g = between_bins f.integrator_gain at ⊕ shift_of f.source_gain_modulation f.source_modulation_resonance_scale energy in
    four_substeps_of (record { band_state = s.band_state; low_state = s.low_state; filter_source_energy = energy })
    (saturate_of input input_drive)
    (coefficients_of f.damping feedback_drive g)

-- idle: FilterOutputs::default(), and the state kept
abbrev pub at_rest_of : IntegratorState → Option Advanced
at_rest_of s = Some (record { outputs = record { high_pass = f32 0; band_pass = f32 0; low_pass = f32 0 }; state = s })

unfoldable pub advance_filter_core_of : List ℕ → List ℕ → ℕ → MixingTopology → FilterControls → IntegratorState → Float → Float → Option Advanced
advance_filter_core_of bundle curves slot t f s sum energy =
    cond (is_idle_of t.filter_input_count s) (at_rest_of s)
    (moved_of f s (summer_transfer_of bundle curves slot t sum ⊗ K.filter_input_gain)
    (tracked_energy_of s.filter_source_energy (fed_energy_of t.filter_input_count t.filter_input_reciprocal energy)))

-- ---- `select_filter_output`

-- an output at the mixer: about the quiescent level, with its amplifier's polarity
abbrev pub level_of : Float → ℕ → Float
level_of value i = filter_mode_quiescent_level_of ⊕ value ⊗ get_or K.filter_mode_polarity i nan

-- by the mode's lower three bits
unfoldable pub mode_sum_of : ℕ → Float → Float → Float → Float
mode_sum_of m low band high =
    cond (eqb m 0) (f32 0)
    (cond (eqb m 1) low
    (cond (eqb m 2) band
    (cond (eqb m 3) (low ⊕ band)
    (cond (eqb m 4) high
    (cond (eqb m 5) (low ⊕ high)
    (cond (eqb m 6) (band ⊕ high)
    (low ⊕ band ⊕ high)))))))

unfoldable pub mixed_of : FilterControls → ℕ → FilterOutputs → Float
mixed_of f mode o =
    mode_sum_of (mode % 8) (level_of o.low_pass 0)
    (level_of (o.band_pass ⊕ f.band_pass_low_coupling ⊗ o.low_pass) 1)
    (level_of (o.high_pass ⊕ f.high_pass_low_coupling ⊗ o.low_pass) 2)

-- filter_output_count. A count above 3, which no mode has, counts as 3.
abbrev pub selected_outputs_of : ℕ → ℕ
selected_outputs_of count = min count 3

-- the gain acts about the outputs' level at rest
unfoldable pub select_filter_output_of : ControlCache → ℕ → ℕ → FilterOutputs → Float
select_filter_output_of c count mode o =
    let resting = filter_mode_quiescent_level_of ⊗ of_int binary32 (pos (selected_outputs_of count)) in
    resting ⊕ (mixed_of c.filter mode o ⊖ resting) ⊗ c.mode_output_gain ⊗ c.filter.resonance_output_gain

-- ---- the sample

-- 5
abbrev pub judge_input_of : Float → Float → Answer
judge_input_of sum energy = unless_of (finite sum && finite energy) InputNotFinite

-- 3: an idle sample reads nothing
abbrev pub judge_reads_of : List ℕ → List ℕ → ℕ → MixingTopology → IntegratorState → Float → Answer
judge_reads_of bundle curves slot t s sum = cond (is_idle_of t.filter_input_count s) done (judge_summer_of bundle curves slot t sum)

unfoldable pub judge_sample_of : List ℕ → List ℕ → ℕ → MixingTopology → IntegratorState → Float → Float → Answer
judge_sample_of bundle curves slot t s sum energy = first_of (judge_input_of sum energy) (judge_reads_of bundle curves slot t s sum)

-- the four numbers that a sample gives are finite
abbrev pub outputs_finite : Outputs → Bool
outputs_finite o = finite o.high && finite o.band && finite o.low && finite o.selected

-- the outputs with the selected value, or 6
unfoldable pub taken_of : ControlCache → ℕ → ℕ → Option Advanced → Result Sampled Refusal
taken_of c count mode None = Err Domain
taken_of c count mode (Some a) =
    let selected = select_filter_output_of c count mode a.outputs in
    cond (finite selected)
    (Ok (record { outputs = record { high = a.outputs.high_pass; band = a.outputs.band_pass; low = a.outputs.low_pass; selected = selected }; state = a.state }))
    (Err Domain)

unfoldable pub filter_sample_of : List ℕ → List ℕ → ℕ → MixingTopology → ControlCache → ℕ → IntegratorState → Float → Float → Result Sampled Refusal
filter_sample_of bundle curves slot t c mode s sum energy =
    let judged = judge_sample_of bundle curves slot t s sum energy in
    result_and judged (taken_of c t.filter_output_count mode (advance_filter_core_of bundle curves slot t c.filter s sum energy))
