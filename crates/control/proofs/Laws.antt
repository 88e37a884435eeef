-- What the register writes ask: a register's fields, and signed sums of cutoff codes.
use Prim.Native.Nat.{ℕ, zero, suc, ◌+◌, ◌-◌, ◌*◌, ◌/◌, ◌%◌, ◌^◌, ◌≤◌}
use mathlib.Core.Path.{◌≡◌, ap, ◌∙◌}
use mathlib.Core.Bool.{Bool, true, false, cond, true≢false}
use native.Mathlib.Omega.{arith}
use native.Mathlib.Nat.{div-one, mod-eq_of_lt}
use lib.Dec.{T, ltb}
use lib.IntN.{ℤ, pos, negsuc, neg_ℤ, nat_abs, ◌+ℤ◌, ◌-ℤ◌}
use lib.Signed.{lt_z, mag, non_neg}
use mir.Syntax.{w8, w16, w32}
use mir.Val.{to_z, of_z, Fits, SFits}
use mir.ValLaws.{to_z_pos, to_z-of_z}
use borrow.Author.Tests.{ltb-false}
use lib.Ieee.{Float, binary32, of_int, to_signed, mul, neg}
use Rattle.floats.specs.Floats.{round_of, clamp_of}
use Rattle.constants.specs.Values.{filter_cutoff_step_charge_gain}
use Rattle.control.specs.Registers.{field, cutoff_of, fc_high, cutoff_low, step_between_of, displacement_of, displaced_of}

-- ---- the fields of a register

pub lowest : (width v : ℕ) → field 0 width v ≡ v % 2 ^ width
lowest width v = ap (λ (n : ℕ). n % 2 ^ width) (div-one v)

pub byte : (v : ℕ) → Fits w8 v → field 0 8 v ≡ v
byte v f = lowest 8 v ∙ mod-eq_of_lt f.fits

pub high_nibble : (v : ℕ) → Fits w8 v → field 4 4 v ≡ v / 16
high_nibble v f = mod-eq_of_lt (omega (arith, f.fits))

pub next_code : (c v : ℕ) → Fits w8 v → v * 8 + c % 8 ≡ cutoff_of (fc_high v) (cutoff_low c)
next_code c v f = rw (byte v f, lowest 3 c)

-- ---- the displacement, from the floats that the code works out

pub displacement_told : (step : ℤ) {limit x y z : Float} {d : ℤ} → limit ≡ of_int binary32 (pos 57) → x ≡ of_int binary32 step
    → y ≡ round_of binary32 (mul binary32 x filter_cutoff_step_charge_gain) → z ≡ clamp_of y (neg limit) limit → d ≡ to_signed 15 z → d ≡ displacement_of step
unfolding displacement_of
displacement_told step l p q r s = rw (s, r, q, p, l)

-- ---- signed sums: they fit an i32, and a number read back from its bits is the number

mag_sum : (a : ℕ) (z : ℤ) → mag (pos a +ℤ z) ≤ a + mag z
mag_sum a (pos b) = omega arith
mag_sum a (negsuc b) = go (ltb a (suc b))
  where
    go : (t : Bool) → mag (cond t (negsuc (suc b - suc a)) (pos (a - suc b))) ≤ a + b
    go true = omega arith
    go false = omega arith

mag_neg : (b : ℕ) → mag (neg_ℤ (pos b)) ≤ b
mag_neg zero = omega arith
mag_neg (suc b) = omega arith

-- the step from one code to another
module _ (a b : ℕ) (fa : Fits w16 a) (fb : Fits w16 b) where
  codes : to_z w32 a -ℤ to_z w32 b ≡ pos a -ℤ pos b
  codes = rw (to_z_pos w32 a (omega (arith, fa.fits)), to_z_pos w32 b (omega (arith, fb.fits)))

  pub step_fits : SFits w32 (to_z w32 a -ℤ to_z w32 b)
  step_fits = rw codes (record { sfits = omega (arith, mag_sum a (neg_ℤ (pos b)), mag_neg b, fa.fits, fb.fits) })

  pub step_is : to_z w32 (of_z w32 (to_z w32 a -ℤ to_z w32 b)) ≡ step_between_of b a
  unfolding step_between_of
  step_is = to_z-of_z w32 (to_z w32 a -ℤ to_z w32 b) step_fits ∙ codes

-- a code and a displacement
module _ (cutoff : ℕ) (d : ℤ) (fc : Fits w16 cutoff) (f : SFits w16 d) where
  wide : SFits w32 d
  wide = record { sfits = omega (arith, f.sfits) }

  pub wide_fits : SFits w32 (to_z w16 (of_z w16 d))
  wide_fits = rw (to_z-of_z w16 d f) wide

  plain : to_z w32 cutoff +ℤ to_z w32 (of_z w32 (to_z w16 (of_z w16 d))) ≡ pos cutoff +ℤ d
  plain = rw (to_z_pos w32 cutoff (omega (arith, fc.fits)), to_z-of_z w16 d f, to_z-of_z w32 d wide)

  pub sum_fits : SFits w32 (to_z w32 cutoff +ℤ to_z w32 (of_z w32 (to_z w16 (of_z w16 d))))
  sum_fits = rw plain (record { sfits = omega (arith, mag_sum cutoff d, fc.fits, f.sfits) })

  sum_is : to_z w32 (of_z w32 (to_z w32 cutoff +ℤ to_z w32 (of_z w32 (to_z w16 (of_z w16 d))))) ≡ pos cutoff +ℤ d
  sum_is = to_z-of_z w32 _ sum_fits ∙ plain

  pub displaced_told :
      let y = to_z w32 (of_z w32 (to_z w32 cutoff +ℤ to_z w32 (of_z w32 (to_z w16 (of_z w16 d))))) in
      cond (lt_z y (pos 0)) 0 (cond (lt_z (pos 2047) y) 2047 (nat_abs y)) ≡ displaced_of cutoff d
  unfolding displaced_of
  displaced_told = rw sum_is

  pub displaced_cast :
      let y = to_z w32 (of_z w32 (to_z w32 cutoff +ℤ to_z w32 (of_z w32 (to_z w16 (of_z w16 d))))) in
      lt_z y (pos 0) ≡ false → lt_z (pos 2047) y ≡ false → T (non_neg y) × Fits w16 (nat_abs y)
  displaced_cast g h = code (to_z w32 (of_z w32 (to_z w32 cutoff +ℤ to_z w32 (of_z w32 (to_z w16 (of_z w16 d)))))) g h
    where
      code : (y : ℤ) → lt_z y (pos 0) ≡ false → lt_z (pos 2047) y ≡ false → T (non_neg y) × Fits w16 (nat_abs y)
      code (pos n) g h = (tt, record { fits = omega (arith, ltb-false 2047 n h) })
      code (negsuc n) g h = absurd (true≢false g)
