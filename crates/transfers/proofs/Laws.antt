-- The value of the mixer's point is its transfer. Assumes nothing.
use Prim.Native.Nat.{ℕ}
use mathlib.Core.Path.{◌≡◌, refl}
use mathlib.Core.Bool.{Bool, true, false, cond}
use mathlib.Core.List.{List}
use lib.Dec.{leb}
use lib.Ieee.{Float}
use Rattle.floats.specs.Arithmetic.{f32}
use Rattle.mixing.specs.declared.MixingTopology.{MixingTopology}
use Rattle.curves.specs.declared.CurvePoint.{CurvePoint}
use Rattle.curves.specs.Sampling.{curve_point_of, no_point}
use Rattle.transfers.specs.Transfers.{mixer_transfer_of, mixer_point_of}

pub mixer_value : (curves : List ℕ) (slot : ℕ) (t : MixingTopology) (sum : Float) → (mixer_point_of curves slot t sum).value ≡ mixer_transfer_of curves slot t sum
unfolding mixer_point_of mixer_transfer_of curve_point_of
mixer_value curves slot t sum = go (leb t.mixer_input_count 7) _
  where
    go : (few : Bool) (p : CurvePoint) → (cond few p no_point).value ≡ cond few p.value (f32 0)
    go true p = refl
    go false p = refl
