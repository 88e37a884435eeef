-- How the run's loop takes its events: samples in a row, between which only the integrator moves, and other events in a row. What follows serves the proof of the
-- loop; no promise is stated with it.
use Rattle.std.specs.Prelude.{ℕ, suc, ◌+◌, Bool, true, false, cond, List, [], ◌∷◌, length, Float, is_ok, Result, Ok, Err}
use Rattle.std.specs.Result.{result_and}
use Rattle.floats.specs.Arithmetic.{f32}
use Rattle.integrator.specs.declared.IntegratorState.{IntegratorState}
use Rattle.control.specs.declared.State.{State}
use Rattle.control.specs.Registers.{starting_state, write_cutoff_low_of, write_cutoff_high_of, write_signal_routing_of, write_mode_and_volume_of}
use Rattle.mixing.specs.declared.MixingTopology.{MixingTopology}
use Rattle.controls.specs.declared.ControlCache.{ControlCache}
use Rattle.sample.specs.declared.Outputs.{Outputs}
use Rattle.sample.specs.declared.Sampled.{Sampled}
use Rattle.sample.specs.Sample.{summer_slot_of, filter_sample_of}
use Rattle.script.specs.declared.Event.{Event}
use Rattle.script.specs.declared.Event.TheVariants.{CutoffLow, CutoffHigh, Routing, Mode, Sample, Reset}
use Rattle.filter.specs.Plain.{judge_change_of}
use Rattle.run.specs.declared.Row.{Row}
use Rattle.run.specs.declared.Played.{Played}
use Rattle.run.specs.declared.Ended.{Ended}
use Rattle.control.specs.Block.{fields_of}
use Rattle.filter.specs.Lent.{Lent}
use Rattle.run.specs.Run.{Ran, Run, judge_run_of}
use Rattle.answers.specs.Answers.{Answer, done}
use Rattle.answers.specs.declared.Refusal.{Refusal}

-- What an event asks of the filter: a sample with its two numbers, or no sample, with zeros in their place.
pub record Asked : Type 0 where
  pub sample : Bool
  pub input_sum : Float
  pub source_energy : Float

abbrev pub not_asked : Asked
not_asked = record { sample = false; input_sum = f32 0; source_energy = f32 0 }

abbrev pub asked_of : Event → Asked
asked_of (CutoffLow value) = not_asked
asked_of (CutoffHigh value) = not_asked
asked_of (Routing value) = not_asked
asked_of (Mode value) = not_asked
asked_of (Sample sum energy) = record { sample = true; input_sum = sum; source_energy = energy }
asked_of Reset = not_asked

-- Whether the first event is a sample.
abbrev pub sample_first : List Event → Bool
sample_first [] = false
sample_first (e ∷ es) = (asked_of e).sample

-- The samples that come first, up to one that is refused: how many, their outputs, and the integrator after them.
pub record Samples : Type 0 where
  pub answer : Answer
  pub events : ℕ
  pub outputs : List Outputs
  pub integrator : IntegratorState

abbrev pub no_samples : Answer → IntegratorState → Samples
no_samples answer i = record { answer = answer; events = 0; outputs = []; integrator = i }

abbrev pub one_more : Outputs → Samples → Samples
one_more o r = record { answer = r.answer; events = suc r.events; outputs = o ∷ r.outputs; integrator = r.integrator }

-- a sample, and what comes after it
abbrev pub row_on : (IntegratorState → Samples) → IntegratorState → Result Sampled Refusal → Samples
row_on later i (Ok t) = one_more t.outputs (later t.state)
row_on later i (Err refusal) = no_samples (Err refusal) i

unfoldable pub row_of : List ℕ → List ℕ → MixingTopology → ControlCache → ℕ → IntegratorState → List Event → Samples
row_of bundle curves t c mode i [] = no_samples done i
row_of bundle curves t c mode i (e ∷ es) =
    cond (asked_of e).sample
    (row_on (λ j. row_of bundle curves t c mode j es) i (filter_sample_of bundle curves (summer_slot_of t) t c mode i (asked_of e).input_sum (asked_of e).source_energy))
    (no_samples done i)

-- The state that an event which is no sample leads to.
abbrev pub next_of : State → Event → State
next_of s (CutoffLow value) = write_cutoff_low_of s value
next_of s (CutoffHigh value) = write_cutoff_high_of s value
next_of s (Routing value) = write_signal_routing_of s value
next_of s (Mode value) = write_mode_and_volume_of s value
next_of s (Sample sum energy) = s
next_of s Reset = starting_state

-- Of the floats, a write of the volume moves charges, and a reset all.
abbrev pub charges_of : Event → Bool
charges_of (CutoffLow value) = false
charges_of (CutoffHigh value) = false
charges_of (Routing value) = false
charges_of (Mode value) = true
charges_of (Sample sum energy) = false
charges_of Reset = false

abbrev pub resets_of : Event → Bool
resets_of (CutoffLow value) = false
resets_of (CutoffHigh value) = false
resets_of (Routing value) = false
resets_of (Mode value) = false
resets_of (Sample sum energy) = false
resets_of Reset = true

-- The other events that come first, up to one that is refused: how many, and the state after them.
pub record Moves : Type 0 where
  pub answer : Answer
  pub events : ℕ
  pub state : State

abbrev pub no_moves : Answer → State → Moves
no_moves answer s = record { answer = answer; events = 0; state = s }

abbrev pub one_move : Moves → Moves
one_move m = record { answer = m.answer; events = suc m.events; state = m.state }

unfoldable pub moves_of : List ℕ → State → List Event → Moves
moves_of bundle s [] = no_moves done s
moves_of bundle s (e ∷ es) =
    let judged = judge_change_of bundle (next_of s e) in
    cond (asked_of e).sample
    (no_moves done s)
    (cond (is_ok judged) (one_move (moves_of bundle (next_of s e) es)) (no_moves judged s))

-- as the code has them, after the events and samples before
abbrev pub row_end : ℕ → ℕ → Samples → Row
row_end events samples r = record { answer = r.answer; events = events + r.events; samples = samples + length r.outputs; integrator = r.integrator }

abbrev pub play_end : ℕ → ℕ → Ran → Played
play_end events samples r = record { answer = r.answer; events = events + r.events; samples = samples + length r.samples; state = r.state }

-- the state that a run starts from, where nothing that is lent is refused
abbrev pub judged_state_of : Lent → List ℕ → List ℕ → ℕ → Result State Refusal
judged_state_of lent block script room = result_and (judge_run_of lent block script room) (Ok (fields_of block))

-- what a run answers, without the bytes
abbrev pub ended_of : Run → Ended
ended_of r = record { answer = r.answer; events = r.events; samples = r.samples }
