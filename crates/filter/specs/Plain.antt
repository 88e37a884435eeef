-- The plain machine: it holds a valid state and nothing more, and is fed events and what is lent. At the start, and in each event after its fields change, topology and
-- controls are worked out afresh.
use Rattle.std.specs.Prelude.{ℕ, cond, List, [], ◌∷◌, Float, Err, is_ok, Result, Ok}
use Rattle.answers.specs.declared.Refusal.TheVariants.{Domain, Argument}
use Rattle.answers.specs.Answers.{first_of, unless_of, Answer, done}
use Rattle.mixing.specs.Topology.{topology_of}
use Rattle.transients.specs.Transients.{finite_transients_of}
use Rattle.transients.specs.Block.{judge_decays_of}
use Rattle.control.specs.declared.State.{State}
use Rattle.control.specs.Registers.{starting_state, write_cutoff_low_of, write_cutoff_high_of, write_signal_routing_of, write_mode_and_volume_of}
use Rattle.control.specs.Block.{valid_of}
use Rattle.controls.specs.Controls.{controls_of}
use Rattle.controls.specs.Judging.{judge_entries_of, judge_domain_of, judge_controls_of}
use Rattle.sample.specs.declared.Outputs.{Outputs}
use Rattle.sample.specs.declared.Sampled.{Sampled}
use Rattle.sample.specs.Sample.{summer_slot_of, judge_input_of, judge_reads_of, advance_filter_core_of, taken_of}
use Rattle.script.specs.declared.Event.{Event}
use Rattle.script.specs.declared.Event.TheVariants.{CutoffLow, CutoffHigh, Routing, Mode, Sample, Reset}
use Rattle.filter.specs.Lent.{Lent, judge_lent_of}
use Rattle.answers.specs.declared.Refusal.{Refusal}

-- What an event gives: the answer (number, buffer and place), the sample if one was taken, and the state after it.
pub record Plain : Type 0 where
  pub answer : Answer
  pub sample : List Outputs
  pub state : State

-- A refused event changes nothing.
abbrev pub refused_at : State → Answer → Plain
refused_at s answer = record { answer = answer; sample = []; state = s }

-- The start: 1, 2, 4, 10, 12, then 3 and 6 of the controls.
unfoldable pub plain_start : Lent → State → Answer
plain_start l s = first_of (judge_lent_of l) (first_of (unless_of (valid_of s) Argument) (first_of (judge_decays_of l.decays) (judge_controls_of l.bundle s)))

-- What a write or a reset leaves: 3 and 6 of the controls, then 6 where one of the transients' floats is not finite.
unfoldable pub judge_change_of : List ℕ → State → Answer
judge_change_of bundle t = first_of (judge_controls_of bundle t) (unless_of (finite_transients_of t.transients) Domain)

-- From the state s to the state t, if t is not refused.
abbrev pub plain_change : Lent → State → State → Plain
plain_change l s t =
    let judged = judge_change_of l.bundle t in
    cond (is_ok judged) (record { answer = done; sample = []; state = t }) (refused_at s judged)

-- A sample that was taken gives the outputs and new floats; one that left the domain, 6.
abbrev pub plain_taken : State → Result Sampled Refusal → Plain
plain_taken s (Ok t) = record { answer = done; sample = t.outputs ∷ []; state = record { registers = s.registers; integrator = t.state; transients = s.transients } }
plain_taken s (Err refusal) = refused_at s (Err refusal)

-- A sample: 5, then every 3, of the controls and of the sample, then 6 of the controls; and last its own 6.
abbrev pub judge_plain : Lent → State → Float → Float → Answer
judge_plain l s sum energy =
    let topology = topology_of s.registers.routing s.registers.mode in
    first_of (judge_input_of sum energy)
    (first_of (judge_entries_of l.bundle s)
    (first_of (judge_reads_of l.bundle l.curves (summer_slot_of topology) topology s.integrator sum)
    (judge_domain_of l.bundle s)))

-- It takes the block's floats and the event's, with topology and controls worked out afresh.
abbrev pub plain_sampled : Lent → State → Float → Float → Result Sampled Refusal
plain_sampled l s sum energy =
    let topology = topology_of s.registers.routing s.registers.mode in
    let controls = controls_of l.bundle s in
    taken_of controls topology.filter_output_count s.registers.mode
    (advance_filter_core_of l.bundle l.curves (summer_slot_of topology) topology controls.filter s.integrator sum energy)

unfoldable pub plain_sample : Lent → State → Float → Float → Plain
plain_sample l s sum energy =
    let judged = judge_plain l s sum energy in
    cond (is_ok judged) (plain_taken s (plain_sampled l s sum energy)) (refused_at s judged)

abbrev pub plain_step : Lent → State → Event → Plain
plain_step l s (CutoffLow value) = plain_change l s (write_cutoff_low_of s value)
plain_step l s (CutoffHigh value) = plain_change l s (write_cutoff_high_of s value)
plain_step l s (Routing value) = plain_change l s (write_signal_routing_of s value)
plain_step l s (Mode value) = plain_change l s (write_mode_and_volume_of s value)
plain_step l s (Sample sum energy) = plain_sample l s sum energy
plain_step l s Reset = plain_change l s starting_state

-- A list of events: after a refused one it goes on.
unfoldable pub plain_trace : Lent → State → List Event → List Plain
plain_trace l s [] = []
plain_trace l s (e ∷ es) = plain_step l s e ∷ plain_trace l (plain_step l s e).state es
