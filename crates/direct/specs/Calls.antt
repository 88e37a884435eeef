-- What the direct calls answer, each in the order of the table in docs/FORMATS.md: 1, 2, 4, 10, 5, 3, 6 for what it takes.
use Rattle.std.specs.Prelude.{ℕ, ◌%◌, Bool, false, ◌&&◌, cond, List, [], ◌∷◌, eqb, leb, Float, Err, is_ok}
use Rattle.std.specs.Float.Ieee.Scale.{finite}
use Rattle.answers.specs.declared.Buffer.TheVariants.{Bundle, Curves}
use Rattle.answers.specs.declared.Refusal.TheVariants.{InputNotFinite, Domain, Argument}
use Rattle.std.specs.Prelude.{Result, Ok}
use Rattle.std.specs.Result.{result_and}
use Rattle.answers.specs.declared.Refusal.{Refusal}
use Rattle.answers.specs.Answers.{first_of, unless_of, Answer}
use Rattle.floats.specs.Arithmetic.{f32}
use Rattle.integrator.specs.declared.IntegratorState.{IntegratorState}
use Rattle.integrator.specs.declared.FilterOutputs.{FilterOutputs}
use Rattle.integrator.specs.declared.Coefficients.{Coefficients}
use Rattle.integrator.specs.declared.Advanced.{Advanced}
use Rattle.integrator.specs.Integrator.{saturate_of, advance_of}
use Rattle.response.specs.declared.TablePosition.{TablePosition}
use Rattle.response.specs.Levels.{normalise_voltage_of, volume_dac_conductance_code_of, filter_output_common_mode_of}
use Rattle.response.specs.Position.{operating_position_of}
use Rattle.response.specs.Gain.{filter_mode_output_gain_of}
use Rattle.mixing.specs.declared.MixingTopology.{MixingTopology}
use Rattle.mixing.specs.Topology.{topology_of}
use Rattle.bundle.specs.Layout.{highpass_loading_place}
use Rattle.bundle.specs.Opening.{check_of, entry_at, judge_places_of}
use Rattle.curves.specs.declared.AnalogueLoadPosition.{AnalogueLoadPosition}
use Rattle.curves.specs.declared.CurvePoint.{CurvePoint}
use Rattle.curves.specs.Sampling.{load_position_of, sample_places_of, sample_of, sample_curve_places_of, curve_point_of, no_point}
use Rattle.curves.specs.Building.{judge_length_of}
use Rattle.transfers.specs.Transfers.{mixer_slot_of, mixer_point_of, judge_mixer_of, volume_slot_of, volume_point_of, judge_volume_of}
use Rattle.sample.specs.Sample.{summer_slot_of, summer_point_of, judge_summer_of}

-- ---- what they share

-- A value where nothing is refused. The last refusal is 6, for a value that is not finite.
unfoldable pub finite_value_of : Float → Result Float Refusal
finite_value_of value = result_and (unless_of (finite value) Domain) (Ok value)

abbrev pub judged_value_of : Answer → Float → Result Float Refusal
judged_value_of judged value = result_and judged (finite_value_of value)

-- The same for a point, by its value.
unfoldable pub finite_point_of : CurvePoint → Result CurvePoint Refusal
finite_point_of point = result_and (unless_of (finite point.value) Domain) (Ok point)

abbrev pub judged_point_of : Answer → CurvePoint → Result CurvePoint Refusal
judged_point_of judged point = result_and judged (finite_point_of point)

-- ---- the analogue surface and its curves

-- `load_position`: 10
unfoldable pub load_position_call_of : Float → Result AnalogueLoadPosition Refusal
load_position_call_of conductance = result_and (unless_of (finite conductance) Argument) (Ok (load_position_of conductance))

-- `sample`: 1, 2, 10, 3, 6
unfoldable pub sample_call_of : List ℕ → Float → Float → Result Float Refusal
sample_call_of bundle conductance input =
    judged_value_of
    (first_of (check_of bundle)
    (first_of (unless_of (finite conductance && finite input) Argument)
    (judge_places_of Bundle bundle (sample_places_of conductance input))))
    (sample_of bundle conductance input)

-- `sample_curve`: 4, 10, 3, 6. A curve is a number of 0 to 30.
unfoldable pub sample_curve_answer_of : List ℕ → ℕ → Float → Answer
sample_curve_answer_of curves curve input =
    first_of (judge_length_of curves)
    (first_of (unless_of (leb curve 30 && finite input) Argument)
    (judge_places_of Curves curves (sample_curve_places_of curve input)))

unfoldable pub sample_curve_call_of : List ℕ → ℕ → Float → Result CurvePoint Refusal
sample_curve_call_of curves curve input = judged_point_of (sample_curve_answer_of curves curve input) (curve_point_of curves curve input)

-- ---- the transfers

-- `summer_transfer`: 1, 2, 4, 10, 5, 3, 6. The summer's last curve is that of four inputs with the two that are always there.
unfoldable pub summer_answer_of : List ℕ → List ℕ → MixingTopology → Float → Answer
summer_answer_of bundle curves t sum =
    first_of (check_of bundle)
    (first_of (judge_length_of curves)
    (first_of (unless_of (leb t.filter_input_count 4 && finite t.summer_input_reciprocal) Argument)
    (first_of (unless_of (finite sum) InputNotFinite)
    (judge_summer_of bundle curves (summer_slot_of t) t sum))))

unfoldable pub summer_transfer_call_of : List ℕ → List ℕ → MixingTopology → Float → Result CurvePoint Refusal
summer_transfer_call_of bundle curves t sum = judged_point_of (summer_answer_of bundle curves t sum) (summer_point_of bundle curves (summer_slot_of t) t sum)

-- `mixer_transfer`: 4, 10, 3, 6. A count above 7 is a 10 of `judge_mixer_of`.
unfoldable pub mixer_answer_of : List ℕ → MixingTopology → Float → Answer
mixer_answer_of curves t sum =
    first_of (judge_length_of curves)
    (first_of (unless_of (finite t.mixer_input_reciprocal && finite sum) Argument)
    (judge_mixer_of curves (mixer_slot_of t.mixer_input_count) t sum))

unfoldable pub mixer_transfer_call_of : List ℕ → MixingTopology → Float → Result CurvePoint Refusal
mixer_transfer_call_of curves t sum = judged_point_of (mixer_answer_of curves t sum) (mixer_point_of curves (mixer_slot_of t.mixer_input_count) t sum)

-- `volume_transfer`: 4, 10, 3, 6
unfoldable pub volume_answer_of : List ℕ → ℕ → Float → Answer
volume_answer_of curves volume value =
    first_of (judge_length_of curves)
    (first_of (unless_of (leb volume 15 && finite value) Argument)
    (judge_volume_of curves (volume_slot_of volume) value))

unfoldable pub volume_transfer_call_of : List ℕ → ℕ → Float → Result CurvePoint Refusal
volume_transfer_call_of curves volume value = judged_point_of (volume_answer_of curves volume value) (volume_point_of curves (volume_slot_of volume) value)

-- ---- the integrator

-- `IntegratorState::saturate`: 10, 6
unfoldable pub saturate_call_of : Float → Float → Result Float Refusal
saturate_call_of value drive = judged_value_of (unless_of (finite value && finite drive) Argument) (saturate_of value drive)

abbrev pub finite_state_of : IntegratorState → Bool
finite_state_of s = finite s.band_state && finite s.low_state && finite s.filter_source_energy

abbrev pub finite_outputs_of : FilterOutputs → Bool
finite_outputs_of o = finite o.high_pass && finite o.band_pass && finite o.low_pass

abbrev pub finite_coefficients_of : Coefficients → Bool
finite_coefficients_of k = finite k.damping && finite k.feedback_drive && finite k.a1 && finite k.a2 && finite k.a3

-- `IntegratorState::advance`: 10, 6
unfoldable pub advance_answer_of : IntegratorState → Float → Coefficients → Answer
advance_answer_of s driven_input k =
    let next = advance_of s driven_input k in
    first_of (unless_of (finite_state_of s && finite driven_input && finite_coefficients_of k) Argument)
    (unless_of (finite_state_of next.state && finite_outputs_of next.outputs) Domain)

unfoldable pub advance_call_of : IntegratorState → Float → Coefficients → Result Advanced Refusal
advance_call_of s driven_input k = result_and (advance_answer_of s driven_input k) (Ok (advance_of s driven_input k))

-- ---- the topology

-- `MixingTopology::update`: 10
unfoldable pub mixing_topology_call_of : ℕ → ℕ → Result MixingTopology Refusal
mixing_topology_call_of routing mode = result_and (unless_of (leb routing 15 && leb mode 15) Argument) (Ok (topology_of routing mode))

-- ---- the response

-- `normalise_voltage`: 10
unfoldable pub normalise_voltage_call_of : Float → Result Float Refusal
normalise_voltage_call_of voltage = judged_value_of (unless_of (finite voltage) Argument) (normalise_voltage_of voltage)

-- `operating_position`: 10
unfoldable pub operating_position_call_of : Float → Float → Float → Result TablePosition Refusal
operating_position_call_of input band low = result_and (unless_of (finite input && finite band && finite low) Argument) (Ok (operating_position_of input band low))

-- `volume_dac_conductance_code`: 10
unfoldable pub volume_dac_conductance_code_call_of : ℕ → Result Float Refusal
volume_dac_conductance_code_call_of volume = judged_value_of (unless_of (leb volume 15) Argument) (volume_dac_conductance_code_of volume)

-- `filter_output_common_mode`: 10
unfoldable pub filter_output_common_mode_call_of : ℕ → ℕ → Result Float Refusal
filter_output_common_mode_call_of mode cutoff = judged_value_of (unless_of (leb mode 15 && leb cutoff 2047) Argument) (filter_output_common_mode_of mode cutoff)

-- `filter_mode_output_gain`: 1, 2, 10, 3, 6. In mode 4 it reads the bundle's `highpass_loading` at the cutoff.
unfoldable pub judge_loading_of : List ℕ → ℕ → ℕ → Answer
judge_loading_of bundle mode cutoff = judge_places_of Bundle bundle (cond (eqb (mode % 8) 4) (highpass_loading_place cutoff ∷ []) [])

unfoldable pub filter_mode_output_gain_answer_of : List ℕ → ℕ → ℕ → ℕ → Answer
filter_mode_output_gain_answer_of bundle mode resonance cutoff =
    first_of (check_of bundle)
    (first_of (unless_of (leb mode 15 && leb resonance 15 && leb cutoff 2047) Argument)
    (judge_loading_of bundle mode cutoff))

unfoldable pub filter_mode_output_gain_call_of : List ℕ → ℕ → ℕ → ℕ → Result Float Refusal
filter_mode_output_gain_call_of bundle mode resonance cutoff =
    judged_value_of (filter_mode_output_gain_answer_of bundle mode resonance cutoff) (filter_mode_output_gain_of mode resonance cutoff (entry_at bundle (highpass_loading_place cutoff)))
