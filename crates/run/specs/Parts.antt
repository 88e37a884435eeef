-- What samples in a row share, and what the loop asks and gives: of the controls the part that a sample reads, and the summer's rest. It serves the proof of the loop;
-- no promise is stated with it.
use Rattle.std.specs.Prelude.{ℕ, ◌+◌, ◌*◌, ◌≤◌, ◌≡◌, true, List, length, Float, Result, Ok}
use Rattle.constants.specs.Drives.{input_drives_of, feedback_drives_of}
use Rattle.answers.specs.declared.Buffer.TheVariants.{Bundle}
use Rattle.wire.specs.Wire.{put_at}
use Rattle.bundle.specs.Opening.{judge_places_of}
use Rattle.bundle.specs.Reading.{read_of}
use Rattle.curves.specs.Sampling.{summer_resting_output_of, summer_resting_places_of}
use Rattle.control.specs.declared.State.{State}
use Rattle.control.specs.Registers.{effective_cutoff_of}
use Rattle.control.specs.Block.{valid_of}
use Rattle.controls.specs.declared.ControlCache.{ControlCache}
use Rattle.controls.specs.Controls.{refresh_filter_controls_of}
use Rattle.controls.specs.Judging.{judge_controls_of}
use Rattle.refresh.specs.Refresh.{core_controls_of, state_gain_of}
use Rattle.sample.specs.Sample.{summer_inputs_of}
use Rattle.sample.specs.Parts.{cache_of, rest_of}
use Rattle.script.specs.declared.Event.{Event}
use Rattle.script.specs.Script.{all_readable, events_in, samples_of}
use Rattle.script.proofs.Laws.{slices_from}
use Rattle.filter.specs.Lent.{Lent}
use Rattle.filter.specs.Core.{fresh_topology_of}
use Rattle.run.specs.declared.Parts.{Parts}
use Rattle.run.specs.declared.Resting.{Resting}
use Rattle.run.specs.declared.Moved.{Moved}
use Rattle.run.specs.Run.{Ran, play_of, sample_bytes}
use Rattle.run.specs.Rows.{Samples, Moves, row_of, moves_of}
use Rattle.answers.specs.Answers.{done}
use Rattle.answers.specs.declared.Refusal.{Refusal}

-- all of it, worked out afresh from a state
unfoldable pub parts_of : List ℕ → State → Parts
parts_of bundle s =
    let f = refresh_filter_controls_of bundle (effective_cutoff_of s) s.registers.resonance in
    record {
      topology = fresh_topology_of s;
      gains = f.integrator_gain;
      core = core_controls_of f;
      mode_output_gain = state_gain_of bundle s;
      rest = rest_of bundle (fresh_topology_of s);
    }

-- the summer's rest at a count of inputs, which is all that `rest_of` reads of a topology
abbrev pub resting_of : List ℕ → ℕ → Resting
resting_of bundle count =
    let inputs = summer_inputs_of count in
    record { inputs = count; rest = read_of (judge_places_of Bundle bundle (summer_resting_places_of inputs)) (summer_resting_output_of bundle inputs) }

-- the controls that a sample reads of the parts
abbrev pub cache_of_parts : Parts → ControlCache
cache_of_parts k = cache_of k.gains input_drives_of feedback_drives_of k.core k.mode_output_gain

-- ---- the events of a script from event i on, of which it has `count` in all

abbrev pub remaining_of : List ℕ → ℕ → ℕ → List Event
remaining_of script count i = events_in (slices_from script count i)

-- each can be read
pub record Ahead (script : List ℕ) (count i : ℕ) : Type 0 where
  pub within : i ≤ count
  pub few : count ≤ 65536
  pub readable : all_readable (slices_from script count i) ≡ true

-- the output has room for their samples after those that are written, which are no more than the events before
pub record Room (script : List ℕ) (count i : ℕ) (output : List ℕ) (written : ℕ) : Type 0 where
  pub fewer : written ≤ i
  pub room : 16 * (written + samples_of (remaining_of script count i)) ≤ length output

-- ---- a row of samples: what is handed in beside its state, what it gives, and the output after it

pub record Given (bundle : List ℕ) (s : State) (gain : Float) (rest : Result Float Refusal) : Type 0 where
  pub gained : gain ≡ state_gain_of bundle s
  pub rested : rest ≡ rest_of bundle (fresh_topology_of s)

abbrev pub samples_from : List ℕ → List ℕ → State → List ℕ → ℕ → ℕ → Samples
samples_from bundle curves s script count i =
    let k = parts_of bundle s in
    row_of bundle curves k.topology (cache_of_parts k) s.registers.mode s.integrator (remaining_of script count i)

abbrev pub samples_put : List ℕ → ℕ → Samples → List ℕ
samples_put output written r = put_at output (16 * written) (sample_bytes r.outputs)

-- ---- a row of other events

-- a valid state whose controls are not refused, with its mode's gain
pub record From (bundle : List ℕ) (s : State) (gain : Float) : Type 0 where
  pub valid : valid_of s ≡ true
  pub judged : judge_controls_of bundle s ≡ done
  pub gained : gain ≡ state_gain_of bundle s

-- how its registers were judged
abbrev pub done_with : Float → Result Float Refusal
done_with gain = Ok gain

abbrev pub moves_from : List ℕ → State → List ℕ → ℕ → ℕ → Moves
moves_from bundle s script count i = moves_of bundle s (remaining_of script count i)

abbrev pub moves_end : List ℕ → ℕ → Moves → Moved
moves_end bundle events m = record { answer = m.answer; events = events + m.events; state = m.state; gain = state_gain_of bundle m.state }

-- ---- all events

abbrev pub play_from : Lent → State → List ℕ → ℕ → Ran
play_from lent s script count = play_of lent s (remaining_of script count 0)

abbrev pub play_put : List ℕ → Ran → List ℕ
play_put output r = put_at output 0 (sample_bytes r.samples)
