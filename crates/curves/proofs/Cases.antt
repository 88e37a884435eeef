-- Where inputs at and past the ends of a curve stand, of every input.
use Prim.Native.Nat.{◌*◌}
use mathlib.Core.Path.{◌≡◌, refl, sym}
use mathlib.Core.Bool.{true, false, true≢false}
use native.Mathlib.Omega.{arith}
use native.Mathlib.Nat.{zero-mul}
use borrow.Author.Tests.{le-ltb}
use lib.Ieee.{Float, nan, inf, fin, up, down, lt, of_bits, of_int, to_unsigned, mul, sub}
use Rattle.floats.specs.Arithmetic.{f32}
use Rattle.floats.specs.Floats.{clamp_of}
use Rattle.response.specs.declared.TablePosition.{TablePosition}
use Rattle.curves.specs.Sampling.{input_position_of}

-- Input above 1: lower index 2,047 and fraction 0. Input below 0: index 0 and fraction 0.
clamp_above : (x : Float) → lt (f32 0x3f80_0000) x ≡ true → clamp_of x (f32 0) (f32 0x3f80_0000) ≡ f32 0x3f80_0000
unfolding of_bits lt
clamp_above nan h = absurd (true≢false (sym h))
clamp_above (inf true) h = absurd (true≢false (sym h))
clamp_above (inf false) h = refl
clamp_above (fin true m e) h = absurd (true≢false (sym h))
clamp_above (fin false m e) h = rw (le-ltb (m * up e * 1) (0 * down e) (omega (arith, zero-mul (down e))), h)

pub input_above : (x : Float) → lt (f32 0x3f80_0000) x ≡ true → (input_position_of x).lower ≡ 2047
unfolding input_position_of of_bits lt mul to_unsigned
input_above x h = rw (clamp_above x h)

pub input_below : (x : Float) → lt x (f32 0) ≡ true → (input_position_of x).lower ≡ 0
unfolding input_position_of of_bits mul to_unsigned
input_below x h = rw h

pub fraction_above : (x : Float) → lt (f32 0x3f80_0000) x ≡ true → (input_position_of x).fraction ≡ f32 0
unfolding input_position_of of_bits lt mul sub of_int to_unsigned
fraction_above x h = rw (clamp_above x h)

pub fraction_below : (x : Float) → lt x (f32 0) ≡ true → (input_position_of x).fraction ≡ f32 0
unfolding input_position_of of_bits mul sub of_int to_unsigned
fraction_below x h = rw h

-- An input of -0.0 is neither: it stands at index 0, and its fraction is -0.0.
pub minus_zero : ◌≡◌ {A = TablePosition} (input_position_of (f32 0x8000_0000)) (record { lower = 0; upper = 1; fraction = f32 0x8000_0000 })
unfolding input_position_of of_bits lt mul sub of_int to_unsigned
minus_zero = refl
