-- The plain machine with ticks: it holds a valid state and nothing more, and is fed turns, each an event or a tick.
use Rattle.std.specs.Prelude.{ℕ, cond, List, [], ◌∷◌, is_ok, Result, Ok, Err}
use Rattle.answers.specs.Answers.{first_of, Answer, done}
use Rattle.mixing.specs.Topology.{topology_of}
use Rattle.signals.specs.Lent.{voices_of}
use Rattle.control.specs.declared.State.{State}
use Rattle.controls.specs.Controls.{refresh_register_output_state_of, controls_of}
use Rattle.controls.specs.Judging.{judge_controls_of}
use Rattle.sample.specs.declared.Outputs.{Outputs}
use Rattle.script.specs.declared.Event.{Event}
use Rattle.clock.specs.declared.TickOutputs.{TickOutputs}
use Rattle.clock.specs.declared.Ticked.{Ticked}
use Rattle.clock.specs.Clock.{clock_of}
use Rattle.filter.specs.Lent.{Lent}
use Rattle.filter.specs.Plain.{Plain, plain_step}
use Rattle.turns.specs.Turns.{judge_voices_of, settings_of, after_state}
use Rattle.answers.specs.declared.Refusal.{Refusal}

-- An event, or a tick with the 36 bytes of its three voices.
pub data Turn : Type 0 where
  event : Event → Turn
  tick : List ℕ → Turn

-- Four numbers: those of a sample, or those of a tick.
pub data Row : Type 0 where
  sampled : Outputs → Row
  clocked : TickOutputs → Row

-- What a turn gives: the answer, the four numbers if there are any, and the state after it.
pub record PlainTurn : Type 0 where
  pub answer : Answer
  pub rows : List Row
  pub state : State

-- ---- an event

abbrev pub sampled_all : List Outputs → List Row
sampled_all [] = []
sampled_all (o ∷ os) = sampled o ∷ sampled_all os

abbrev pub event_turn : Plain → PlainTurn
event_turn p = record { answer = p.answer; rows = sampled_all p.sample; state = p.state }

-- ---- a tick: 11, then 3 and 6 of the controls, then the stages of `Filter::clock`

abbrev pub plain_clocked : State → Result Ticked Refusal → PlainTurn
plain_clocked s (Ok x) = record { answer = done; rows = clocked x.outputs ∷ []; state = after_state s x.integrator x.transients }
plain_clocked s (Err refusal) = record { answer = Err refusal; rows = []; state = s }

-- with topology and controls worked out afresh
unfoldable pub plain_tick : Lent → List ℕ → State → List ℕ → PlainTurn
plain_tick l levels s voices =
    let r = s.registers in
    let settings = settings_of l levels r (topology_of r.routing r.mode) (refresh_register_output_state_of r) in
    let judged = first_of (judge_voices_of voices) (judge_controls_of l.bundle s) in
    cond (is_ok judged)
    (plain_clocked s (clock_of l.bundle l.curves (controls_of l.bundle s) settings s.integrator s.transients (voices_of voices)))
    (record { answer = judged; rows = []; state = s })

-- ---- any turn

abbrev pub plain_turn : Lent → List ℕ → State → Turn → PlainTurn
plain_turn l levels s (event e) = event_turn (plain_step l s e)
plain_turn l levels s (tick voices) = plain_tick l levels s voices

-- A list of turns: after a refused one it goes on.
unfoldable pub plain_turns : Lent → List ℕ → State → List Turn → List PlainTurn
plain_turns l levels s [] = []
plain_turns l levels s (x ∷ xs) = plain_turn l levels s x ∷ plain_turns l levels (plain_turn l levels s x).state xs
