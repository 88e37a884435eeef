-- Ticks in a row, between which only integrator and transients move: each takes the next 36 bytes of a row of voices.
use Rattle.std.specs.Prelude.{ℕ, zero, suc, ◌+◌, ◌/◌, min, cond, List, [], ◌∷◌, ◌++◌, length, take, drop, Err, Result, Float, Ok}
use Rattle.answers.specs.declared.Refusal.TheVariants.{Sources}
use Rattle.integrator.specs.declared.IntegratorState.{IntegratorState}
use Rattle.transients.specs.declared.TransientState.{TransientState}
use Rattle.signals.specs.Lent.{voices_of, valid_voices_of}
use Rattle.controls.specs.declared.ControlCache.{ControlCache}
use Rattle.clock.specs.declared.Settings.{Settings}
use Rattle.clock.specs.declared.TickOutputs.{TickOutputs}
use Rattle.clock.specs.declared.Ticked.{Ticked}
use Rattle.clock.specs.Clock.{tick_bytes, tick_from_parts_of}
use Rattle.tick_row.specs.declared.TickRow.{TickRow}
use Rattle.answers.specs.Answers.{Answer, done}
use Rattle.answers.specs.declared.Refusal.{Refusal}

-- ---- the voices of each tick

-- the n ticks that come first, 36 bytes each
unfoldable pub voice_slices : ℕ → List ℕ → List (List ℕ)
voice_slices zero b = []
voice_slices (suc n) b = take 36 b ∷ voice_slices n (drop 36 b)

-- as many as so many bytes of voices have and so many of output hold
abbrev pub tick_count_of : ℕ → ℕ → ℕ
tick_count_of voices room = min (voices / 36) (room / 16)

-- ---- the ticks

-- Those that were taken, up to one that is refused: their numbers, and what is left after them.
pub record Ticks : Type 0 where
  pub answer : Answer
  pub outputs : List TickOutputs
  pub integrator : IntegratorState
  pub transients : TransientState

abbrev pub no_ticks : Answer → IntegratorState → TransientState → Ticks
no_ticks answer i t = record { answer = answer; outputs = []; integrator = i; transients = t }

abbrev pub one_tick : TickOutputs → Ticks → Ticks
one_tick o r = record { answer = r.answer; outputs = o ∷ r.outputs; integrator = r.integrator; transients = r.transients }

-- a tick, and what comes after it
abbrev pub ticks_on : (IntegratorState → TransientState → Ticks) → IntegratorState → TransientState → Result Ticked Refusal → Ticks
ticks_on later i t (Ok x) = one_tick x.outputs (later x.integrator x.transients)
ticks_on later i t (Err refusal) = no_ticks (Err refusal) i t

module _ (curves : List ℕ) (c : ControlCache) (rest : Result Float Refusal) (s : Settings) where
  -- 11 of its voices, then the tick
  unfoldable pub voiced_tick_of : IntegratorState → TransientState → List ℕ → Result Ticked Refusal
  voiced_tick_of i t v = cond (valid_voices_of v) (tick_from_parts_of curves c rest s i t (voices_of v)) (Err Sources)

  unfoldable pub ticks_of : IntegratorState → TransientState → List (List ℕ) → Ticks
  ticks_of i t [] = no_ticks done i t
  ticks_of i t (v ∷ vs) = ticks_on (λ j u. ticks_of j u vs) i t (voiced_tick_of i t v)

  -- as many as there is room for
  abbrev pub ticks_in : IntegratorState → TransientState → List ℕ → List ℕ → Ticks
  ticks_in i t voices output = ticks_of i t (voice_slices (tick_count_of (length voices) (length output)) voices)

-- ---- as the code has them

abbrev pub ticks_end : ℕ → Ticks → TickRow
ticks_end done r = record { answer = r.answer; ticks = done + length r.outputs; integrator = r.integrator; transients = r.transients }

unfoldable pub all_tick_bytes : List TickOutputs → List ℕ
all_tick_bytes [] = []
all_tick_bytes (o ∷ os) = tick_bytes o ++ all_tick_bytes os
