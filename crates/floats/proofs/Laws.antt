-- Laws of the float helpers, over the format where a fact is wanted at both. Assumes nothing.
use Rattle.std.proofs.Common.{◌≡◌, ℕ, zero, suc, ◌+◌, ◌-◌, ◌*◌, ◌/◌, ◌%◌, ◌^◌, ◌<◌, ◌≤◌, min, Bool, true, false, cond, not, ◌&&◌, T, eqb, ℤ, pos, sym, refl, ap, ◌∙◌, subst, true≢false, le_trans, le_of_eq, lt_of_lt_of_le, lt_of_le_of_lt, lt_irrefl, mod-lt, mod-eq_of_lt, mul_comm, div-lt_iff_lt-mul, le-div_iff_mul-le, div-le_self, arith, lit<, pow_pos, pow-add, ltb-false, ne_eqb}
use native.Mathlib.Nat.{add-mod_left, mul-div-mul_right, le-suc}
use borrow.Author.Tests.{lt-leb}
use lib.Ieee.{Float, nan, inf, fin, Format, binary32, binary64, prec, low, hid, ones, top, up, down, lt, eq, ne, neg, of_fields, of_bits, to_bits, fits, is_nan, nan_bits, to_unsigned, of_int}
use lib.Ieee.Scale.{finite}
use lib.Ieee.Bits.{of_bits-to_bits, to_bits-lt, nan_bits_is, is_true}
use lib.Ieee.Digits.{back}
use lib.Ieee.Compare.{differs_from_itself}
use lib.Ieee.Exact.{HasValue, odd_sign}
use lib.Ieee.Fits.{down_pos}
use lib.Ieee.Nearest.{div_same}
use Rattle.floats.specs.Floats.{abs_of, finite_f32_of, of_small}

-- ---- two tests at once

pub both : (a b : Bool) → (a && b) ≡ true → (a ≡ true) × (b ≡ true)
both true b h = (refl, h)
both false b h = absurd (true≢false (sym h))

-- ---- a NaN, told by a test

pub equal_no_nan : (x : Float) → eq x x ≡ true → T (not (is_nan x))
unfolding eq is_nan
equal_no_nan nan h = absurd (subst (λ (b : Bool). T (not b)) h tt)
equal_no_nan (inf s) h = tt
equal_no_nan (fin s m e) h = tt

pub unequal_nan : (x : Float) → eq x x ≡ false → x ≡ nan
unfolding ne
unequal_nan x h = differs_from_itself x (subst (λ (b : Bool). T (not b)) (sym h) tt)

pub finite_tests : (x : Float) → (lt x (inf false) && lt (inf true) x) ≡ finite x
unfolding lt
finite_tests nan = refl
finite_tests (inf true) = refl
finite_tests (inf false) = refl
finite_tests (fin s m e) = refl

-- ---- a finite f32, from what an operation's result is known to be and back

pub finite_f32 : (x : Float) → T (fits binary32 x) → finite x ≡ true → finite_f32_of x ≡ true
unfolding finite_f32_of
finite_f32 x f h = rw (is_true (fits binary32 x) f, h)

pub f32_fits : (x : Float) → finite_f32_of x ≡ true → T (fits binary32 x)
unfolding finite_f32_of
f32_fits x h = subst T (sym (both (fits binary32 x) (finite x) h).0) tt

pub f32_finite : (x : Float) → finite_f32_of x ≡ true → finite x ≡ true
unfolding finite_f32_of
f32_finite x h = (both (fits binary32 x) (finite x) h).1

-- ---- the sign bit

fits_sign : (f : Format) (s t : Bool) (m : ℕ) (e : ℤ) → T (fits f (fin s m e)) → T (fits f (fin t m e))
unfolding fits
fits_sign f s t zero e h = h
fits_sign f s t (suc m) e h = h

unsigned : (s : Bool) (t a b : ℕ) → t + a + b < 2 * t → (cond s t 0 + a + b) % t ≡ 0 + a + b
unsigned true t a b h = ap (λ (n : ℕ). n % t) assoc ∙ add-mod_left t (a + b) ∙ mod-eq_of_lt (omega arith) ∙ omega arith
  where
    assoc : t + a + b ≡ t + (a + b)
    assoc = omega arith
unsigned false t a b h = mod-eq_of_lt (omega arith)

infinite : (f : Format) (s : Bool) → of_bits f ((cond s (top f) 0 + ones f * hid f) % top f) ≡ inf false
unfolding of_bits
infinite binary32 true = refl
infinite binary32 false = refl
infinite binary64 true = refl
infinite binary64 false = refl

pub abs_bits : (f : Format) (x : Float) → T (fits f x) → T (not (is_nan x)) → of_bits f (to_bits f x % top f) ≡ abs_of x
unfolding abs_of to_bits is_nan
abs_bits f nan h n = absurd n
abs_bits f (inf s) h n = infinite f s
abs_bits f (fin s m e) h n =
    ap (λ (b : ℕ). of_bits f b) (unsigned s (top f) _ _ (to_bits-lt f (fin true m e) (fits_sign f s true m e h)))
    ∙ of_bits-to_bits f (fin false m e) (fits_sign f s false m e h)

abs_real : (x : Float) → T (not (is_nan x)) → T (not (is_nan (abs_of x)))
unfolding abs_of is_nan
abs_real nan h = h
abs_real (inf s) h = tt
abs_real (fin s m e) h = tt

-- the pattern with its sign cleared is no NaN's
pub abs_no_nan : (f : Format) (x : Float) → T (fits f x) → T (not (is_nan x)) → T (not (nan_bits f (to_bits f x % top f)))
abs_no_nan f x h n = subst (λ (b : Bool). T (not b)) (sym (nan_bits_is f (to_bits f x % top f) ∙ ap is_nan (abs_bits f x h n))) (abs_real x n)

pub abs_nan : (x : Float) → eq x x ≡ false → x ≡ abs_of x
unfolding abs_of
abs_nan x h = rw (unequal_nan x h)

-- ---- the whole part

pub uncapped : (a c : ℕ) → a < c → min a (c - 1) ≡ a
uncapped a c h = omega arith

-- of a float that is a / c
pub value_whole : (w : ℕ) (x : Float) (a c : ℕ) → 0 < c → a / c < 2 ^ w → HasValue x false a c → to_unsigned w x ≡ a / c
unfolding to_unsigned
value_whole w nan a c C h v = absurd v
value_whole w (inf s) a c C h v = absurd v
value_whole w (fin true m e) a c C h v = absurd (true≢false v.0)
value_whole w (fin false m e) a c C h v =
    let same : m * up e / down e ≡ a / c = div_same (m * up e) (down e) a c (down_pos e) C v.1 in
    ap (λ (q : ℕ). min q (2 ^ w - 1)) same ∙ uncapped (a / c) (2 ^ w) h

-- a pattern with the sign clear and an exponent field x + 1 that is no infinity's has its digits, the leading one put in front, times 2 ^ x units
pub normal : (f : Format) (x t : ℕ) → eqb (suc x) (ones f) ≡ false → HasValue (of_fields f false (suc x) t) false ((hid f + t) * 2 ^ x) (2 ^ low f)
unfolding of_fields
normal f x t e = rw e (odd_sign (prec f) false (hid f + t) x (low f))

field_value : (f : Format) (b x : ℕ) → b < top f → b / hid f ≡ suc x → suc x < ones f → HasValue (of_bits f b) false ((hid f + b % hid f) * 2 ^ x) (2 ^ low f)
unfolding of_bits
field_value f b x l e h = rw (lt-leb (top f) b l, mod-eq_of_lt l, e) (normal f x (b % hid f) (ne_eqb (suc x) (ones f) (λ (g : suc x ≡ ones f). lt_irrefl (ones f) (subst (λ (n : ℕ). n < ones f) g h))))

below_ones : (f : Format) → suc (low f) < ones f
below_ones binary32 = lit< tt
below_ones binary64 = lit< tt

twice_hid : (f : Format) → hid f + hid f < 2 ^ 64
twice_hid binary32 = lit< tt
twice_hid binary64 = lit< tt

cut : (q l x : ℕ) → x ≤ l → q * 2 ^ x / 2 ^ l ≡ q / 2 ^ (l - x)
cut q l x h = ap (λ (k : ℕ). q * 2 ^ x / k) (ap (λ (k : ℕ). 2 ^ k) (sym (back l x h)) ∙ pow-add 2 (l - x) x) ∙ mul-div-mul_right q (2 ^ (l - x)) (pow_pos x)

-- Where the exponent field is not 0 and the value is below 2 ^ prec, the whole part is the digits, shifted.
pub shifted : (f : Format) (x : Float) → T (fits f x) → 0 < to_bits f x / hid f → to_bits f x / hid f ≤ suc (low f)
    → to_unsigned 64 x ≡ (hid f + to_bits f x % hid f) / 2 ^ (suc (low f) - to_bits f x / hid f)
shifted f x h p l = go (to_bits f x / hid f) refl p l
  where
    b : ℕ
    b = to_bits f x

    go : (k : ℕ) → b / hid f ≡ k → 0 < k → k ≤ suc (low f) → to_unsigned 64 x ≡ (hid f + b % hid f) / 2 ^ (suc (low f) - k)
    go zero e p l = absurd (lt_irrefl 0 p)
    go (suc k) e p l =
        let few : suc k < ones f = lt_of_le_of_lt l (below_ones f) in
        let small : b < top f =
        lt_of_lt_of_le ((div-lt_iff_lt-mul (pow_pos (prec f - 1))).0 (le_trans (le_of_eq (ap suc e)) (le_trans few (le-suc (ones f))))) (le_of_eq (mul_comm (suc (ones f)) (hid f))) in
        let whole : (hid f + b % hid f) * 2 ^ k / 2 ^ low f ≡ (hid f + b % hid f) / 2 ^ (low f - k) = cut (hid f + b % hid f) (low f) k (omega arith) in
        let bound : (hid f + b % hid f) / 2 ^ (low f - k) < 2 ^ 64 = within (div-le_self (hid f + b % hid f) (2 ^ (low f - k))) (mod-lt b (pow_pos (prec f - 1))) (twice_hid f) in
        value_whole 64 x ((hid f + b % hid f) * 2 ^ k) (2 ^ low f) (pow_pos (low f)) (rw whole bound)
        (subst (λ (y : Float). HasValue y false ((hid f + b % hid f) * 2 ^ k) (2 ^ low f)) (of_bits-to_bits f x h) (field_value f b k small e few))
        ∙ whole
        ∙ ap (λ (j : ℕ). (hid f + b % hid f) / 2 ^ j) (one_less (low f) k)
      where
        one_less : (a c : ℕ) → a - c ≡ suc a - suc c
        one_less a c = omega arith

        within : {q d m n : ℕ} → q ≤ d + m → m < d → d + d < n → q < n
        within p h l = omega arith

-- ---- Rust's cast by comparisons

pub cast_below : (x : Float) → lt (neg (of_bits binary32 0x3f80_0000)) x ≡ false → 0 ≡ to_unsigned 64 x
unfolding lt neg of_bits to_unsigned
cast_below nan h = refl
cast_below (inf true) h = refl
cast_below (inf false) h = cc
cast_below (fin true m e) h = refl
cast_below (fin false m e) h = absurd (omega (arith, ltb-false 0 (1 * down e + m * up e * 1) h, down_pos e))

pub cast_above : (x : Float) → lt (neg (of_bits binary32 0x3f80_0000)) x ≡ true → lt x (of_bits binary32 0x5f80_0000) ≡ false → 0xffff_ffff_ffff_ffff ≡ to_unsigned 64 x
unfolding lt neg of_bits to_unsigned
cast_above nan g h = cc
cast_above (inf true) g h = cc
cast_above (inf false) g h = refl
cast_above (fin true m e) g h = absurd (omega (arith, ltb-false 0 (m * up e * 1 + 18446744073709551616 * down e) h, down_pos e))
cast_above (fin false m e) g h =
    let q : 18446744073709551616 ≤ m * up e / down e = (le-div_iff_mul-le (down_pos e)).1 (omega (arith, ltb-false (m * up e * 1) (18446744073709551616 * down e) h)) in
    omega arith

-- ---- from an index

pub small_exact : {n : ℕ} → n ≤ 16777216 → of_small n ≡ of_int binary32 (pos n)
small_exact {n} h = ap (λ (k : ℕ). of_int binary32 (pos k)) (omega arith)
