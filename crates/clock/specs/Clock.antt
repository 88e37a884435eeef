-- `Filter::clock` of filter.rs up to the argument of `AudioOutStage::process`, operation by operation and stage by stage: collecting, the core with its selection, the rest.
-- A stage's 3 comes before its 6, and its 6 before the next stage.
use Rattle.std.specs.Prelude.{ℕ, Bool, ◌&&◌, cond, List, eqb, Float, Err, Result, Ok}
use Rattle.std.specs.Float.{binary32}
use Rattle.std.specs.Float.Ieee.{eq, to_bits}
use Rattle.std.specs.Float.Ieee.Scale.{finite}
use Rattle.constants.specs.Values as K
use Rattle.answers.specs.declared.Refusal.TheVariants.{Domain}
use Rattle.floats.specs.Arithmetic.{◌⊕◌, ◌⊖◌, ◌⊗◌, f32}
use Rattle.wire.specs.Wire.{row_bytes}
use Rattle.integrator.specs.declared.IntegratorState.{IntegratorState}
use Rattle.mixing.specs.declared.MixingTopology.{MixingTopology}
use Rattle.transients.specs.declared.TransientState.{TransientState}
use Rattle.transients.specs.Transients.{finite_transients_of}
use Rattle.voice.specs.Levels.{source_resting_of}
use Rattle.signals.specs.declared.Voices.{Voices}
use Rattle.signals.specs.declared.RoutedSignals.{RoutedSignals}
use Rattle.signals.specs.Signals.{collect_of}
use Rattle.signals.specs.Collecting.{finite_signals_of}
use Rattle.controls.specs.declared.OutputControls.{OutputControls}
use Rattle.controls.specs.declared.ControlCache.{ControlCache}
use Rattle.transfers.specs.Transfers.{mixer_slot_of, read_mixer_of, volume_slot_of, read_volume_of}
use Rattle.sample.specs.declared.Sampled.{Sampled}
use Rattle.sample.specs.Sample.{summer_slot_of, filter_sample_of}
use Rattle.sample.specs.Parts.{sample_from_parts_of}
use Rattle.activity.specs.Activity.{mixer_output_of, bypass_output_gain_of}
use Rattle.frozen.specs.Frozen.{configured_of, frozen_dac_operating_point_of}
use Rattle.clock.specs.declared.Slots.{Slots}
use Rattle.clock.specs.declared.Settings.{Settings}
use Rattle.clock.specs.declared.TickOutputs.{TickOutputs}
use Rattle.clock.specs.declared.Ticked.{Ticked}
use Rattle.clock.specs.Transients.{tracked_blends_of, with_blends, combined_activity_of, attacked_of, pulsed_of, node_charge_of, decayed_of}
use Rattle.answers.specs.declared.Refusal.{Refusal}

-- The slots of the three curves in a buffer of all 31.
abbrev pub slots_of : MixingTopology → ℕ → Slots
slots_of t volume = record { summer = summer_slot_of t; mixer = mixer_slot_of t.mixer_input_count; volume = volume_slot_of volume }

-- ---- what a tick gives

-- stage, charge, mixer and filter
abbrev pub tick_bytes : TickOutputs → List ℕ
tick_bytes o = row_bytes (to_bits binary32 o.stage) (to_bits binary32 o.charge) (to_bits binary32 o.mixer) (to_bits binary32 o.filter)

-- ---- collecting, with the blends of this tick

abbrev pub tracked_of : Settings → Voices → TransientState → TransientState
tracked_of s voices t = with_blends t (tracked_blends_of s.factors.saw_mixer_tracking voices t.saw_mixer_blend)

unfoldable pub tick_signals_of : Settings → Voices → TransientState → RoutedSignals
tick_signals_of s voices t = collect_of s.topology voices t.saw_mixer_blend s.external source_resting_of

-- ---- the rest

-- `bypass_is_quiescent`: no voice beside the filter, and an external level equal to 0
abbrev pub is_quiescent_of : Settings → Bool
is_quiescent_of s = eqb s.topology.bypass_internal_mask 0 && eq s.external.raw (f32 0)

-- `volume_stage_output`: the frozen operating point, or the volume's curve, or what its entries refuse
unfoldable pub volume_stage_of : List ℕ → Settings → Voices → Float → Result Float Refusal
volume_stage_of curves s voices mixer =
    cond (configured_of s.output.frozen_dac_bias_mode voices)
    (Ok (frozen_dac_operating_point_of s.mode s.volume))
    (read_volume_of curves s.slots.volume mixer)

-- `common_mode_displacement`, with the activity of the combined voices and the attack charge
unfoldable pub common_mode_displacement_of : OutputControls → Float → RoutedSignals → Float → Float
common_mode_displacement_of o combined signals attack =
    o.combined_common_mode_gain ⊗ combined
    ⊕ o.pure_bypass_common_mode_gain ⊗ signals.pure_bypass_envelope_activity
    ⊕ K.filter_input_common_mode_one_voice ⊗ signals.filter_input_activity ⊗ o.volume_fraction
    ⊕ o.scaled_filter_common_mode
    ⊕ attack ⊗ o.volume_fraction

-- the argument of `AudioOutStage::process`
unfoldable pub stage_argument_of : Float → Float → Float → Float
stage_argument_of level displacement gain = (level ⊖ displacement) ⊗ gain ⊗ K.filter_output_gain ⊗ K.sid_output_scale

-- the transients once an attack and a pulse's gate have charged them
abbrev pub charged_of : Settings → RoutedSignals → TransientState → TransientState
charged_of s signals t =
    pulsed_of (attacked_of t s.topology.bypass_internal_mask signals) s.volume s.output.volume_fraction signals.pure_pulse_envelope_activity

-- From the levels of filter, mixer and volume on: 6 where one of the four numbers is not finite, of which the core has judged the filter's.
unfoldable pub clocked_of : Settings → Voices → RoutedSignals → TransientState → IntegratorState → Float → Float → Float → Result Ticked Refusal
clocked_of s voices signals t i filter mixer level =
    let held = charged_of s signals t in
    let displacement = common_mode_displacement_of s.output (combined_activity_of voices) signals held.bypass_attack_charge in
    let gain = bypass_output_gain_of s.topology.filter_output_count signals.bypass_envelope_activity in
    let stage = stage_argument_of level displacement gain in
    let charge = node_charge_of held in
    let after = decayed_of held s.factors in
    cond (finite stage && finite charge && finite mixer)
    (Ok (record { outputs = record { stage = stage; charge = charge; mixer = mixer; filter = filter }; integrator = i; transients = after }))
    (Err Domain)

unfoldable pub levelled_of : Settings → Voices → RoutedSignals → TransientState → IntegratorState → Float → Float → Result Float Refusal → Result Ticked Refusal
levelled_of s voices signals t i filter mixer (Ok level) = clocked_of s voices signals t i filter mixer level
levelled_of s voices signals t i filter mixer (Err refusal) = Err refusal

-- `mixer_output` from the raw one, then the volume
unfoldable pub mixed_tick_of : List ℕ → Settings → Voices → RoutedSignals → TransientState → IntegratorState → Float → Result Float Refusal → Result Ticked Refusal
mixed_tick_of curves s voices signals t i filter (Ok raw) =
    let mixer = mixer_output_of (is_quiescent_of s) signals.bypass_envelope_activity s.output.two_voice_volume_gain_offset raw in
    levelled_of s voices signals t i filter mixer (volume_stage_of curves s voices mixer)
mixed_tick_of curves s voices signals t i filter (Err refusal) = Err refusal

-- from what the core gave
unfoldable pub after_core_of : List ℕ → Settings → Voices → RoutedSignals → TransientState → Result Sampled Refusal → Result Ticked Refusal
after_core_of curves s voices signals t (Ok x) =
    mixed_tick_of curves s voices signals t x.state x.outputs.selected
    (read_mixer_of curves s.slots.mixer s.topology (signals.bypass_input_sum ⊕ x.outputs.selected))
after_core_of curves s voices signals t (Err refusal) = Err refusal

-- ---- the tick

-- the core in the middle, from a sum and an energy
unfoldable pub tick_of : List ℕ → (Float → Float → Result Sampled Refusal) → Settings → TransientState → Voices → Result Ticked Refusal
tick_of curves core s t voices =
    let tracked = tracked_of s voices t in
    let signals = tick_signals_of s voices tracked in
    cond (finite_signals_of signals)
    (after_core_of curves s voices signals tracked (core signals.filter_input_sum signals.filter_source_energy))
    (Err Domain)

-- 6 where the state after is not finite; its integrator the core has judged
abbrev pub finite_after_of : Result Ticked Refusal → Result Ticked Refusal
finite_after_of (Ok x) = cond (finite_transients_of x.transients) (Ok x) (Err Domain)
finite_after_of (Err refusal) = Err refusal

unfoldable pub clock_of : List ℕ → List ℕ → ControlCache → Settings → IntegratorState → TransientState → Voices → Result Ticked Refusal
clock_of bundle curves c s i t voices = finite_after_of (tick_of curves (filter_sample_of bundle curves s.slots.summer s.topology c s.mode i) s t voices)

-- The tick on the parts of the controls, with the summer's rest worked out before, and without the test of the state after.
unfoldable pub tick_from_parts_of : List ℕ → ControlCache → Result Float Refusal → Settings → IntegratorState → TransientState → Voices → Result Ticked Refusal
tick_from_parts_of curves c rest s i t voices = tick_of curves (sample_from_parts_of curves s.slots.summer s.topology c rest s.mode i) s t voices
