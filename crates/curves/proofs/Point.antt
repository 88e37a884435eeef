-- Where an input stands on a curve. Assumes nothing.
use Prim.Native.Nat.{ℕ, ◌+◌, ◌≤◌}
use mathlib.Core.Path.{◌≡◌, refl, ap, ◌∙◌, subst}
use mathlib.Core.Bool.{not}
use mathlib.Core.List.{List}
use lib.Dec.{T, lit≤}
use lib.Ieee.{Float, nan, inf, fin, binary32, is_nan, of_bits, of_int, to_unsigned, lt, mul, sub, add, neg}
use Rattle.floats.specs.Arithmetic.{◌⊖◌, f32}
use Rattle.floats.proofs.Numbers.{Number, add_nan, mul_nan}
use Rattle.floats.proofs.Range.{Fraction, curve_fraction}
use Rattle.response.specs.Levels.{interpolate_of}
use Rattle.bundle.specs.Opening.{entry_at}
use Rattle.curves.specs.declared.CurvePoint.{CurvePoint}
use Rattle.curves.specs.Sampling.{last_input, input_position_of, curve_place, sample_curve_of, curve_point_of, no_point}
use Rattle.curves.proofs.Laws.{input_lower}

-- THE OPERATING POINT. For every buffer of curves, every curve and every input that is no NaN: the index is at most 2,047; the fraction is 0 or more and
-- below 1, where 0 may be -0.0; the value is `sample_curve`'s, and it lies between the entry of the index and the next one by that fraction.
pub record OnCurve (curves : List ℕ) (curve : ℕ) (input : Float) (p : CurvePoint) : Type 0 where
  pub index_most : p.index ≤ last_input
  pub fraction_in : Fraction p.fraction
  pub value_is : p.value ≡ sample_curve_of curves curve input
  pub value_between :
      p.value ≡ interpolate_of (entry_at curves (curve_place curve p.index)) (entry_at curves (curve_place curve (p.index + 1))) p.fraction

pub on_curve : (curves : List ℕ) (curve : ℕ) (input : Float) → T (not (is_nan input)) → OnCurve curves curve input (curve_point_of curves curve input)
unfolding curve_point_of sample_curve_of input_position_of
on_curve curves curve input number =
    record { index_most = input_lower input; fraction_in = curve_fraction input number; value_is = refl; value_between = refl }

-- ---- what is handed out

-- The bounds alone, which zeros have too.
abbrev pub Placed : CurvePoint → Type 0
Placed p = (p.index ≤ last_input) × Fraction p.fraction

pub none_placed : Placed no_point
unfolding of_bits of_int lt mul sub to_unsigned is_nan
none_placed = (lit≤ tt, curve_fraction (f32 0) tt)

pub number_placed : (curves : List ℕ) (curve : ℕ) (input : Float) → T (not (is_nan input)) → Placed (curve_point_of curves curve input)
number_placed curves curve input number = let on = on_curve curves curve input number in (on.index_most, on.fraction_in)

-- A curve at a NaN is a NaN, so a number there tells that the input was one.
nan_read : (curves : List ℕ) (curve : ℕ) → sample_curve_of curves curve nan ≡ nan
unfolding sample_curve_of input_position_of of_bits lt mul sub add neg to_unsigned
nan_read curves curve =
    let left = entry_at curves (curve_place curve 0) in
    let right = entry_at curves (curve_place curve 1) in
    ap (add binary32 left) (mul_nan binary32 (right ⊖ left)) ∙ add_nan binary32 left

pub curve_placed : (curves : List ℕ) (curve : ℕ) (input : Float) → Number (sample_curve_of curves curve input) → Placed (curve_point_of curves curve input)
unfolding is_nan
curve_placed curves curve nan told = absurd (subst Number (nan_read curves curve) told).real
curve_placed curves curve (inf s) told = number_placed curves curve (inf s) tt
curve_placed curves curve (fin s m e) told = number_placed curves curve (fin s m e) tt
