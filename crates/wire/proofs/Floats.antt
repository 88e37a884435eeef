-- Bit patterns of an f32: which are a NaN's, which are finite, and a float in bytes there and back.
use Prim.Native.Nat.{ℕ, zero, suc, ◌+◌, ◌*◌, ◌/◌, ◌%◌, ◌^◌, ◌≤◌, ◌<◌}
use mathlib.Core.Path.{◌≡◌, refl, ap, sym, subst, ◌∙◌}
use mathlib.Core.Bool.{Bool, true, false, not, cond}
use mathlib.Core.Logic.{⊎_elim}
use mathlib.Core.List.{List}
use native.Mathlib.Omega.{arith}
use native.Mathlib.Nat.{add-zero}
use lib.Dec.{T, leb, eqb}
use lib.ListN.{length, take, drop}
use lib.Ieee.{Float, nan, inf, fin, binary32, odd, of_fields, of_bits, to_bits, nan_bits, is_nan, fits}
use lib.Ieee.Bits.{of_bits-to_bits, to_bits-of_bits, to_bits-lt, nan_bits_is, nan_bits_above}
use lib.Ieee.Scale.{finite}
use borrow.Author.Tests.{lt-ltb, le-ltb, ltb-true, leb-true, eq-eqb, ne_eqb}
use Rattle.wire.specs.Wire.{Bytes, u32_at, f32_at, usable_of, finite_bits_of, float_bytes, rows}
use Rattle.wire.proofs.Laws.{le_or_lt, length-bytes_of, number_at-lt, number_at-bytes_of, number_at-rows, bytes_of-number_at}

no : {t : Bool} → t ≡ false → T (not t)
no e = subst (λ (t : Bool). T (not t)) (sym e) tt

-- ---- NaNs

pub no_nan : (b : ℕ) → b % 2 ^ 31 ≤ 0x7f80_0000 → T (not (nan_bits binary32 b))
no_nan b h = no (nan_bits_above binary32 b ∙ le-ltb 0x7f80_0000 (b % 2 ^ 31) h)

pub nan_above : (b : ℕ) → 0x7f80_0000 < b % 2 ^ 31 → of_bits binary32 b ≡ nan
unfolding is_nan
nan_above b h = is_nan_lem (of_bits binary32 b) (sym (nan_bits_is binary32 b) ∙ nan_bits_above binary32 b ∙ lt-ltb 0x7f80_0000 (b % 2 ^ 31) h)
  where
    is_nan_lem : (x : Float) → is_nan x ≡ true → x ≡ nan
    is_nan_lem nan e = refl
    is_nan_lem (inf s) e = absurd (subst (λ (t : Bool). T (not t)) e tt)
    is_nan_lem (fin s m d) e = absurd (subst (λ (t : Bool). T (not t)) e tt)

pub usable_no_nan : (b : ℕ) → usable_of b ≡ true → T (not (nan_bits binary32 b))
unfolding usable_of
usable_no_nan b e = no_nan b (omega (arith, leb-true (b % 2 ^ 31) 0x4480_0000 e))

pub finite_no_nan : (b : ℕ) → finite_bits_of b ≡ true → T (not (nan_bits binary32 b))
unfolding finite_bits_of
finite_no_nan b e = no_nan b (omega (arith, ltb-true (b % 2 ^ 31) 0x7f80_0000 e))

-- ---- finite patterns

pub usable_finite : (b : ℕ) → usable_of b ≡ true → finite_bits_of b ≡ true
unfolding usable_of finite_bits_of
usable_finite b e = lt-ltb (b % 2 ^ 31) 0x7f80_0000 (omega (arith, leb-true (b % 2 ^ 31) 0x4480_0000 e))

-- by the exponent's field, which is 255 in an infinity and a NaN alone
finite_odd : (d : ℕ) (s : Bool) (q k l : ℕ) → finite (odd d s q k l) ≡ true
unfolding odd
finite_odd d s zero k l = refl
finite_odd d s (suc q) k l = refl

finite_fields : (s : Bool) (x t : ℕ) → finite (of_fields binary32 s x t) ≡ not (eqb x 255)
unfolding of_fields
finite_fields s zero t = finite_odd 24 s t 0 149
finite_fields s (suc x) t = go (eqb (suc x) 255) (eqb t 0)
  where
    go : (a b : Bool) → finite (cond a (cond b (inf s) nan) (odd 24 s (2 ^ 23 + t) x 149)) ≡ not a
    go true true = refl
    go true false = refl
    go false b = finite_odd 24 s (2 ^ 23 + t) x 149

-- the test on the bits is the test on the float
pub finite_bits_is : (b : ℕ) → finite_bits_of b ≡ finite (of_bits binary32 b)
unfolding finite_bits_of of_bits
finite_bits_is b =
    ⊎_elim
    (λ (h : 0x7f80_0000 ≤ b % 2 ^ 31). le-ltb (b % 2 ^ 31) 0x7f80_0000 h ∙ sym (fields ∙ ap not (eq-eqb (b % 2 ^ 31 / 2 ^ 23) 255 (omega arith))))
    (λ (h : b % 2 ^ 31 < 0x7f80_0000). lt-ltb (b % 2 ^ 31) 0x7f80_0000 h ∙ sym (fields ∙ ap not (ne_eqb (b % 2 ^ 31 / 2 ^ 23) 255 (λ e. omega arith))))
    (le_or_lt 0x7f80_0000 (b % 2 ^ 31))
  where
    fields : finite (of_bits binary32 b) ≡ not (eqb (b % 2 ^ 31 / 2 ^ 23) 255)
    fields = finite_fields (leb (2 ^ 31) b) (b % 2 ^ 31 / 2 ^ 23) (b % 2 ^ 23)

-- ---- there and back

pub length-float_bytes : (x : Float) → length (float_bytes x) ≡ 4
length-float_bytes x = length-bytes_of 4 (to_bits binary32 x)

-- entry k of a table of floats
pub f32_at-rows : (x : ℕ → Float) (n k : ℕ) → k < n → T (fits binary32 (x k)) → f32_at (rows (λ (i : ℕ). float_bytes (x i)) n) (4 * k) ≡ x k
f32_at-rows x n k l f =
    let e = number_at-rows (λ (i : ℕ). float_bytes (x i)) 4 (λ i. length-float_bytes (x i)) 4 n k 0 l (omega arith) in
    ap (of_bits binary32) (rw add-zero at e ∙ number_at-bytes_of 4 (to_bits binary32 (x k)) (to_bits-lt binary32 (x k) f)) ∙ of_bits-to_bits binary32 (x k) f

module _ (s : List ℕ) (p : ℕ) (b : Bytes s) (h : T (not (nan_bits binary32 (u32_at s p)))) where
  pub to_bits-f32_at : to_bits binary32 (f32_at s p) ≡ u32_at s p
  to_bits-f32_at = to_bits-of_bits binary32 (u32_at s p) (number_at-lt 4 s p b) (rw nan_bits_is at h)

  pub float_bytes-f32_at : p + 4 ≤ length s → float_bytes (f32_at s p) ≡ take 4 (drop p s)
  float_bytes-f32_at l = rw to_bits-f32_at (bytes_of-number_at 4 s p l b)
