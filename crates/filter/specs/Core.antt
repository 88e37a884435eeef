-- The core and its calls (filter.rs): the state with what is kept of it. A write alters what the Rust's write alters and takes all else as it
-- is handed in; a refused call hands back the core that it took.
use Rattle.std.specs.Prelude.{ℕ, Bool, cond, ◌&&◌, List, leb, Float, Err, is_ok, Result, Ok}
use Rattle.std.specs.Float.Ieee.Scale.{finite}
use Rattle.answers.specs.declared.Refusal.TheVariants.{Domain, Argument}
use Rattle.answers.specs.Answers.{first_of, unless_of, Answer, done}
use Rattle.floats.specs.Arithmetic.{f32}
use Rattle.integrator.specs.declared.IntegratorState.{IntegratorState}
use Rattle.mixing.specs.declared.MixingTopology.{MixingTopology}
use Rattle.mixing.specs.Topology.{topology_of}
use Rattle.bundle.specs.Opening.{check_of}
use Rattle.transients.specs.Transients.{finite_charges_of}
use Rattle.transients.specs.Block.{judge_decays_of}
use Rattle.control.specs.declared.State.{State}
use Rattle.control.specs.Registers.{cutoff_max, nibble_max, starting_state, effective_cutoff_of, write_cutoff_low_of, write_cutoff_high_of, write_signal_routing_of, write_mode_and_volume_of}
use Rattle.control.specs.Block.{valid_of}
use Rattle.controls.specs.declared.ControlCache.{ControlCache}
use Rattle.controls.specs.Controls.{refresh_mode_output_gain_of, refresh_register_output_state_of, controls_of}
use Rattle.controls.specs.Judging.{judge_controls_of, finite_controls_of}
use Rattle.refresh.specs.Refresh.{judge_gain_of, no_controls, refresh_of}
use Rattle.std.specs.Result.{result_and, result_unwrap_or}
use Rattle.sample.specs.declared.Outputs.{Outputs}
use Rattle.sample.specs.declared.Sampled.{Sampled}
use Rattle.sample.specs.Sample.{summer_slot_of, filter_sample_of}
use Rattle.script.specs.declared.Event.{Event}
use Rattle.script.specs.declared.Event.TheVariants.{CutoffLow, CutoffHigh, Routing, Mode, Sample, Reset}
use Rattle.filter.specs.declared.Core.{Core}
use Rattle.filter.specs.Lent.{Lent, judge_lent_of}
use Rattle.filter.specs.Plain.{plain_start}
use Rattle.answers.specs.declared.Refusal.{Refusal}

-- ---- all that is kept, worked out afresh from a state: `update`, then the three refresh calls

abbrev pub fresh_topology_of : State → MixingTopology
fresh_topology_of s = topology_of s.registers.routing s.registers.mode

abbrev pub core_of : Lent → State → Core
core_of l s = record { state = s; topology = fresh_topology_of s; controls = controls_of l.bundle s }

-- ---- a core that is handed in: 10, by one rule for every method

-- no index past its table (the chip has four inputs, three outputs and seven mixer inputs), and every float finite
abbrev pub countable_of : MixingTopology → Bool
countable_of t =
    leb t.filter_input_count 4
    && leb t.filter_output_count 3
    && leb t.mixer_input_count 7
    && finite t.filter_input_reciprocal
    && finite t.summer_input_reciprocal
    && finite t.mixer_input_reciprocal

abbrev pub sound_of : ControlCache → Bool
sound_of c = leb c.filter.effective_cutoff_index cutoff_max && leb c.filter.resonance_index nibble_max && finite_controls_of c

unfoldable pub judge_core_of : Core → Answer
judge_core_of k = unless_of (valid_of k.state && countable_of k.topology && sound_of k.controls) Argument

-- ---- what an event hands back

-- A write's answer and the next core; where it is refused, the core that it took.
pub record Written : Type 0 where
  pub answer : Answer
  pub core : Core

-- An event's answer, with the outputs of a sample that was taken, and zeros in any other case, and the core after it.
pub record Fed : Type 0 where
  pub answer : Answer
  pub outputs : Outputs
  pub core : Core

-- the next core, or the one that was taken
abbrev pub settled_of : Answer → Core → Core → Written
settled_of answer old new = record { answer = answer; core = cond (is_ok answer) new old }

abbrev pub guarded_of : Answer → Core → Written → Written
guarded_of answer old written = cond (is_ok answer) written (record { answer = answer; core = old })

abbrev pub no_outputs : Outputs
no_outputs = record { high = f32 0; band = f32 0; low = f32 0; selected = f32 0 }

abbrev pub quiet_of : Written → Fed
quiet_of w = record { answer = w.answer; outputs = no_outputs; core = w.core }

abbrev pub with_integrator : State → IntegratorState → State
with_integrator s i = record { registers = s.registers; integrator = i; transients = s.transients }

abbrev pub after_of : Core → Result Sampled Refusal → Fed
after_of k (Ok s) = record { answer = done; outputs = s.outputs; core = record { state = with_integrator k.state s.state; topology = k.topology; controls = k.controls } }
after_of k (Err refusal) = record { answer = Err refusal; outputs = no_outputs; core = k }

-- ---- the start: the core of a state, which is handed out where it is not refused

abbrev pub core_start_of : Lent → State → Written
core_start_of l s =
    record { answer = plain_start l s; core = record { state = s; topology = fresh_topology_of s; controls = result_unwrap_or (refresh_of l.bundle s) no_controls } }

abbrev pub started_of : Written → Result Core Refusal
started_of w = result_and w.answer (Ok w.core)

-- What a sample answers, beside the core after it.
abbrev pub outputs_of : Fed → Result Outputs Refusal
outputs_of f = result_and f.answer (Ok f.outputs)

-- ---- what an event does to a core that is not refused

-- `refresh_filter_controls`, `refresh_mode_output_gain` and `refresh_register_output_state` at the next state
unfoldable pub refreshed_of : List ℕ → Core → State → MixingTopology → Written
refreshed_of bundle k s t = settled_of (judge_controls_of bundle s) k (record { state = s; topology = t; controls = controls_of bundle s })

-- the last two of them alone, then the charges: 3, then 6, be it a control's or a charge's
unfoldable pub reselected_of : List ℕ → Core → State → MixingTopology → Written
reselected_of bundle k s t =
    let effective = effective_cutoff_of s in
    let gain = refresh_mode_output_gain_of bundle s.registers effective in
    let output = refresh_register_output_state_of s.registers in
    settled_of (first_of (judge_gain_of bundle s.registers effective) (unless_of (finite_charges_of s.transients) Domain)) k
    (record { state = s; topology = t; controls = record { filter = k.controls.filter; mode_output_gain = gain; output = output } })

-- A write of the cutoff does not touch the topology, one of the mode not the filter's controls. A sample is no change.
abbrev pub change_of : List ℕ → Core → Event → Written
change_of bundle k (CutoffLow value) = refreshed_of bundle k (write_cutoff_low_of k.state value) k.topology
change_of bundle k (CutoffHigh value) = refreshed_of bundle k (write_cutoff_high_of k.state value) k.topology
change_of bundle k (Routing value) = let s = write_signal_routing_of k.state value in refreshed_of bundle k s (fresh_topology_of s)
change_of bundle k (Mode value) = let s = write_mode_and_volume_of k.state value in reselected_of bundle k s (fresh_topology_of s)
change_of bundle k (Sample sum energy) = record { answer = done; core = k }
change_of bundle k Reset = refreshed_of bundle k starting_state (fresh_topology_of starting_state)

-- the topology and the controls as they are handed in
unfoldable pub take_of : Lent → Core → Float → Float → Fed
take_of l k sum energy =
    let t = k.topology in
    after_of k (filter_sample_of l.bundle l.curves (summer_slot_of t) t k.controls k.state.registers.mode k.state.integrator sum energy)

-- any event
abbrev pub feed_event_of : Lent → Core → Event → Fed
feed_event_of l k (CutoffLow value) = quiet_of (change_of l.bundle k (CutoffLow value))
feed_event_of l k (CutoffHigh value) = quiet_of (change_of l.bundle k (CutoffHigh value))
feed_event_of l k (Routing value) = quiet_of (change_of l.bundle k (Routing value))
feed_event_of l k (Mode value) = quiet_of (change_of l.bundle k (Mode value))
feed_event_of l k (Sample sum energy) = take_of l k sum energy
feed_event_of l k Reset = quiet_of (change_of l.bundle k Reset)

-- ---- the methods: 1, 2 and 4 of what is lent, 10 of the core, then the event; `feed` is lent the decays too, and judges them right after 10 (12)

-- a write or the reset is lent the bundle alone
unfoldable pub core_write_of : List ℕ → Core → Event → Written
core_write_of bundle k e = guarded_of (first_of (check_of bundle) (judge_core_of k)) k (change_of bundle k e)

-- a sample bundle and curves
abbrev pub judge_take_of : Lent → Core → Answer
judge_take_of l k = first_of (judge_lent_of l) (judge_core_of k)

unfoldable pub core_sample_of : Lent → Core → Float → Float → Fed
core_sample_of l k sum energy = cond (is_ok (judge_take_of l k)) (take_of l k sum energy) (quiet_of (record { answer = judge_take_of l k; core = k }))

abbrev pub judge_feed_of : Lent → Core → Answer
judge_feed_of l k = first_of (judge_take_of l k) (judge_decays_of l.decays)

unfoldable pub feed_of : Lent → Core → Event → Fed
feed_of l k e = cond (is_ok (judge_feed_of l k)) (feed_event_of l k e) (quiet_of (record { answer = judge_feed_of l k; core = k }))
