-- The gain of a mode that reads no loading. Assumes nothing.
use Prim.Native.Nat.{ℕ, ◌%◌}
use mathlib.Core.Path.{◌≡◌, refl}
use mathlib.Core.Bool.{Bool, true, false, cond}
use lib.Dec.{eqb}
use lib.Ieee.{Float}
use Rattle.floats.specs.Arithmetic.{f32}
use Rattle.response.specs.Gain.{filter_mode_output_gain_of, highpass_loading_of}

-- a mode other than 4 does not read the loading
pub loading_unread : (mode resonance cutoff : ℕ) (loading other : Float)
    → filter_mode_output_gain_of mode resonance cutoff (cond (eqb (mode % 8) 4) loading other) ≡ filter_mode_output_gain_of mode resonance cutoff loading
unfolding filter_mode_output_gain_of highpass_loading_of
loading_unread mode resonance cutoff loading other = rw (once (eqb (mode % 8) 4) loading other (f32 0x3f80_0000))
  where
    once : (b : Bool) (x y z : Float) → cond b (cond b x y) z ≡ cond b x z
    once true x y z = refl
    once false x y z = refl
