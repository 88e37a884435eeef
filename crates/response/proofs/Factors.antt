-- A mode whose gain has no factor: no output, or high with another. Assumes nothing.
use Prim.Native.Nat.{ℕ, ◌%◌}
use mathlib.Core.Path.{◌≡◌, refl}
use mathlib.Core.Bool.{false}
use lib.Dec.{eqb}
use lib.Ieee.{Float, of_bits, mul}
use Rattle.floats.specs.Arithmetic.{f32}
use Rattle.response.specs.Gain.{filter_mode_output_gain_of, base_gain_of, low_band_lift_of, bandpass_trim_of, highpass_loading_of, highpass_resonance_trim_of, single_mode_loading_of}

pub no_factors : (mode resonance cutoff : ℕ) (loading : Float) → eqb (mode % 8) 1 ≡ false → eqb (mode % 8) 2 ≡ false → eqb (mode % 8) 3 ≡ false → eqb (mode % 8) 4 ≡ false
    → filter_mode_output_gain_of mode resonance cutoff loading ≡ f32 0x3f80_0000
unfolding filter_mode_output_gain_of base_gain_of low_band_lift_of bandpass_trim_of highpass_loading_of highpass_resonance_trim_of single_mode_loading_of of_bits mul
no_factors mode resonance cutoff loading low band both high = rw (low, band, both, high) refl
