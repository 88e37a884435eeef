-- More than seven mixer inputs are a 10 of the direct call. Assumes nothing.
use Prim.Native.Nat.{ℕ, ◌<◌}
use mathlib.Core.Path.{◌≡◌, refl}
use mathlib.Core.Bool.{Bool, true, false, ◌&&◌}
use mathlib.Core.List.{List}
use lib.Ieee.{Float}
use lib.Ieee.Scale.{finite}
use borrow.Author.Tests.{lt-leb}
use Rattle.answers.specs.declared.Refusal.TheVariants.{Argument}
use Rattle.answers.specs.Answers.{first_of, unless_of, done}
use Rattle.mixing.specs.declared.MixingTopology.{MixingTopology}
use Rattle.curves.specs.Building.{judge_length_of}
use Rattle.transfers.specs.Transfers.{judge_mixer_of}
use Rattle.direct.specs.Calls.{mixer_answer_of, mixer_transfer_call_of}
use Rattle.std.specs.Prelude.{Err}

module _ (curves : List ℕ) (t : MixingTopology) (sum : Float) (long : judge_length_of curves ≡ done) (above : 7 < t.mixer_input_count) where
  answered : mixer_answer_of curves t sum ≡ Err Argument
  unfolding mixer_answer_of judge_mixer_of
  answered = rw (long, lt-leb t.mixer_input_count 7 above) (go (finite t.mixer_input_reciprocal && finite sum))
    where
      go : (known : Bool) → first_of (unless_of known Argument) (Err Argument) ≡ Err Argument
      go true = refl
      go false = refl

  pub mixer_above : mixer_transfer_call_of curves t sum ≡ Err Argument
  unfolding mixer_transfer_call_of
  mixer_above = rw answered refl
