-- A list of turns through the core's calls, each given the core that the last one handed back.
use Rattle.std.specs.Prelude.{ℕ, cond, List, [], ◌∷◌, is_ok}
use Rattle.filter.specs.declared.Core.{Core}
use Rattle.filter.specs.Lent.{Lent}
use Rattle.filter.specs.Core.{feed_of}
use Rattle.filter.specs.Lists.{shown, Fresh}
use Rattle.turns.specs.Turns.{TickFed, core_tick_of}
use Rattle.turns.specs.Machine.{Turn, event, tick, Row, clocked, PlainTurn, sampled_all}
use Rattle.answers.specs.Answers.{Answer}

-- What a call answers: the four numbers of a sample or a tick that was taken, and the next core.
pub record TurnFed : Type 0 where
  pub answer : Answer
  pub rows : List Row
  pub core : Core

abbrev pub tick_turn : TickFed → TurnFed
tick_turn r = record { answer = r.answer; rows = cond (is_ok r.answer) (clocked r.outputs ∷ []) []; core = r.core }

-- `feed_of` is what `Core::feed` is proved to give and leave, and `core_tick_of` what `tick` is.
abbrev pub turn_of : Lent → List ℕ → Core → Turn → TurnFed
turn_of l levels k (event e) =
    let r = feed_of l k e in
    record { answer = r.answer; rows = sampled_all (shown e r).sample; core = r.core }
turn_of l levels k (tick voices) = tick_turn (core_tick_of l levels k voices)

unfoldable pub core_turns : Lent → List ℕ → Core → List Turn → List TurnFed
core_turns l levels k [] = []
core_turns l levels k (x ∷ xs) = turn_of l levels k x ∷ core_turns l levels (turn_of l levels k x).core xs

-- Its outcome without what is kept.
abbrev pub shown_turn : TurnFed → PlainTurn
shown_turn r = record { answer = r.answer; rows = r.rows; state = r.core.state }

abbrev pub shown_turns : List TurnFed → List PlainTurn
shown_turns [] = []
shown_turns (r ∷ rs) = shown_turn r ∷ shown_turns rs

-- All that is kept is as worked out afresh from the state.
abbrev pub AllTurnsFresh : Lent → List TurnFed → Type 0
AllTurnsFresh l [] = Unit {0}
AllTurnsFresh l (r ∷ rs) = Fresh l r.core × AllTurnsFresh l rs
