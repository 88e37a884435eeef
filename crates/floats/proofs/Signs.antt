-- What is summed up from 0.0 is never -0.0 (`Summed`), so that a zero of either sign, added to it, changes no bit. What fits its format is a whole number of the
-- format's smallest values: a sum other than zero does not round to zero, and one that is zero has the sign +. Over the format. Assumes nothing.
use Rattle.std.proofs.Common.{◌≡◌, ℕ, zero, suc, ◌+◌, ◌-◌, ◌*◌, ◌^◌, ◌<◌, ◌≤◌, Bool, true, false, cond, T, eqb, ltb, ℤ, pos, negsuc, sym, refl, ap, ◌∙◌, subst, inl, inr, true≢false, le_trans, le_of_eq, mul-le-mul_right, zero-lt-suc, mul_assoc, suc-mul, add-mul, add_comm, lt_of_mul-lt-mul_right, mul-lt-mul_of_pos_right, mul-pos, one-mul, pow-suc, zero-mul, mul-one, mul_right_comm, arith, eqb→eq, pow_pos, ltb-true}
use mathlib.Core.Bool.{beq}
use lib.Ieee.{Float, nan, inf, fin, Format, binary32, binary64, prec, emax, low, up, down, odd, units, round, sum, add, fits, of_bits}
use lib.Ieee.Fits.{up_pos, down_pos, add-fits}
use lib.Ieee.Order.{round_mono}
use lib.Ieee.Positive.{positive, above, above_of_le}
use lib.Ieee.Scale.{finite}
use Rattle.floats.proofs.Formats.{held, own_units}
use Rattle.floats.proofs.Rounding.{neg_round}
use Rattle.floats.proofs.Values.{Zero, Same, zero_finite, neg_zero, add_zero_right}

-- ---- the sign of a rounded number

abbrev pub sign_of : Float → Bool
sign_of nan = false
sign_of (inf s) = s
sign_of (fin s m e) = s

odd_signed : (d : ℕ) (s : Bool) (q k l : ℕ) → sign_of (odd d s q k l) ≡ s
unfolding odd
odd_signed d s zero k l = refl
odd_signed d s (suc q) k l = refl

units_signed : (f : Format) (s : Bool) (q k : ℕ) → sign_of (units f s q k) ≡ s
unfolding units
units_signed f s q k = go (ltb (q * 2 ^ k) (2 ^ (low f + suc (emax f))))
  where
    go : (b : Bool) → sign_of (cond b (odd (suc (prec f)) s q k (low f)) (inf s)) ≡ s
    go true = odd_signed (suc (prec f)) s q k (low f)
    go false = refl

pub round_signed : (f : Format) (s : Bool) (a c : ℕ) → sign_of (round f s a c) ≡ s
unfolding round
round_signed f s a c = units_signed f s _ _

-- ---- no -0.0

-- where it is a zero, its sign is +
record Plus (x : Float) : Type 0 where
  plus : Zero x → sign_of x ≡ false

signed_plus : {x : Float} → sign_of x ≡ false → Plus x
signed_plus h = record { plus = λ _. h }

other_plus : {x : Float} → (Zero x → ⊥) → Plus x
other_plus h = record { plus = λ z. absurd (h z) }

-- ---- from the format's smallest value on nothing rounds to zero

above_no_zero : (x : Float) → T (above x) → Zero x → ⊥
above_no_zero x h z = go z.sign (subst (λ (x : Float). T (above x)) z.is h)
  where
    go : (s : Bool) → T (above (fin s 0 z.power)) → ⊥
    go true h = h
    go false h = h

least_positive : (f : Format) → T (positive (round f false 1 (2 ^ low f)))
unfolding round
least_positive binary32 = tt
least_positive binary64 = tt

some_above : (f : Format) (a c : ℕ) → 0 < c → c ≤ a * 2 ^ low f → T (above (round f false a c))
some_above f a c C h =
    above_of_le (round f false 1 (2 ^ low f)) (round f false a c) (least_positive f)
    (round_mono f 1 (2 ^ low f) a c (pow_pos (low f)) C (le_trans (le_of_eq (one-mul c)) h))

some_round : (f : Format) (s : Bool) (a c : ℕ) → 0 < c → c ≤ a * 2 ^ low f → Zero (round f s a c) → ⊥
some_round f false a c C h z = above_no_zero (round f false a c) (some_above f a c C h) z
some_round f true a c C h z =
    above_no_zero (round f false a c) (some_above f a c C h) (subst Zero (neg_round f true a c) (neg_zero (round f true a c) z))

-- ---- sums

-- what fits is a whole number of smallest values
in_units : (f : Format) (s : Bool) (m : ℕ) (e : ℤ) → T (fits f (fin s m e)) → (n : ℕ) × (m * up e * 2 ^ low f ≡ n * down e)
in_units f s zero e h = (0, ap (λ (k : ℕ). k * 2 ^ low f) (zero-mul (up e)) ∙ zero-mul (2 ^ low f) ∙ sym (zero-mul (down e)))
in_units f s (suc m) e h = let j = own_units f (suc m) e (held f s m e h) in (suc m * 2 ^ j.0, j.1)

-- the larger of two is more by at least one
more_by_one : (a b c w m n : ℕ) → 0 < w → a * w ≡ m * c → b * w ≡ n * c → b < a → c ≤ (a - b) * w
more_by_one a b c w m n W A B h =
    let p : n * c < m * c = subst (λ (k : ℕ). k < m * c) B (subst (λ (k : ℕ). b * w < k) A (mul-lt-mul_of_pos_right h W)) in
    let q : suc n * c ≤ m * c = mul-le-mul_right c (lt_of_mul-lt-mul_right c p) in
    let back : a - b + b ≡ a = omega arith in
    let r : (a - b) * w + b * w ≡ a * w = sym (add-mul (a - b) b w) ∙ ap (λ (k : ℕ). k * w) back in
    let t : suc n * c ≡ c + n * c = suc-mul n c ∙ add_comm (n * c) c in
    omega (arith, q, r, t, A, B)

sum_plus : (f : Format) (s t : Bool) (a b c m n : ℕ) → 0 < c → a * 2 ^ low f ≡ m * c → b * 2 ^ low f ≡ n * c → (s ≡ true → 0 < a) → Plus (sum f s a t b c)
unfolding sum
sum_plus f false false a b c m n C A B h = signed_plus (round_signed f false (a + b) c)
sum_plus f true true a b c m n C A B h =
    other_plus
    (some_round f true (a + b) c C
    (le_trans (more_by_one a 0 c (2 ^ low f) m 0 (pow_pos (low f)) A (zero-mul (2 ^ low f) ∙ sym (zero-mul c)) (h refl)) (mul-le-mul_right (2 ^ low f) (omega arith))))
sum_plus f true false a b c m n C A B h = go (ltb a b) (ltb b a) refl
  where
    go : (p q : Bool) → ltb b a ≡ q → Plus (cond p (round f false (b - a) c) (round f q (a - b) c))
    go true q e = signed_plus (round_signed f false (b - a) c)
    go false true e = other_plus (some_round f true (a - b) c C (more_by_one a b c (2 ^ low f) m n (pow_pos (low f)) A B (ltb-true b a e)))
    go false false e = signed_plus (round_signed f false (a - b) c)
sum_plus f false true a b c m n C A B h = go (ltb a b) refl
  where
    go : (p : Bool) → ltb a b ≡ p → Plus (cond p (round f true (b - a) c) (round f false (a - b) c))
    go true e = other_plus (some_round f true (b - a) c C (more_by_one b a c (2 ^ low f) n m (pow_pos (low f)) B A (ltb-true a b e)))
    go false e = signed_plus (round_signed f false (a - b) c)

unfinite_plus : (x : Float) → finite x ≡ false → Plus x
unfinite_plus x h = other_plus (λ (z : Zero x). true≢false (sym (zero_finite z) ∙ h))

-- a negative number that is no -0.0
some_digits : (s : Bool) (m : ℕ) (e d : ℤ) → Plus (fin s m e) → s ≡ true → 0 < m * up e * down d
some_digits s zero e d p h = absurd (true≢false (sym h ∙ p.plus (record { sign = s; power = e; is = refl })))
some_digits s (suc m) e d p h = mul-pos (mul-pos {m = suc m} {n = up e} (zero-lt-suc m) (up_pos e)) (down_pos d)

add_plus : (f : Format) (x y : Float) → T (fits f x) → T (fits f y) → Plus x → Plus (add f x y)
unfolding add
add_plus f nan y fx fy p = unfinite_plus nan refl
add_plus f (inf s) nan fx fy p = unfinite_plus nan refl
add_plus f (inf s) (inf t) fx fy p = go (beq s t)
  where
    go : (b : Bool) → Plus (cond b (inf s) nan)
    go true = unfinite_plus (inf s) refl
    go false = unfinite_plus nan refl
add_plus f (inf s) (fin t n d) fx fy p = unfinite_plus (inf s) refl
add_plus f (fin s m e) nan fx fy p = unfinite_plus nan refl
add_plus f (fin s m e) (inf t) fx fy p = unfinite_plus (inf t) refl
add_plus f (fin s m e) (fin t n d) fx fy p =
    let w = 2 ^ low f in
    let u = in_units f s m e fx in
    let v = in_units f t n d fy in
    sum_plus f s t (m * up e * down d) (n * up d * down e) (down e * down d) u.0 v.0 (mul-pos (down_pos e) (down_pos d))
    (mul_right_comm (m * up e) (down d) w ∙ ap (λ (k : ℕ). k * down d) u.1 ∙ mul_assoc u.0 (down e) (down d))
    (mul_right_comm (n * up d) (down e) w ∙ ap (λ (k : ℕ). k * down e) v.1 ∙ mul_right_comm v.0 (down d) (down e) ∙ mul_assoc v.0 (down e) (down d))
    (some_digits s m e d p)

-- ---- a sum with a zero is the sum before, to the bit

two_no_one : (k : ℕ) → 2 ^ suc k ≡ 1 → ⊥
two_no_one k h = omega (arith, h, pow_pos k, pow-suc 2 k)

power_of_zero : (e : ℤ) → T (eqb (up e * down e) 1) → e ≡ pos 0
power_of_zero (pos zero) h = refl
power_of_zero (pos (suc k)) h = absurd (two_no_one k (sym (mul-one (2 ^ suc k)) ∙ eqb→eq (2 ^ suc k * 1) 1 h))
power_of_zero (negsuc k) h = absurd (two_no_one k (sym (one-mul (2 ^ suc k)) ∙ eqb→eq (1 * 2 ^ suc k) 1 h))

-- the zero of a format that is not -0.0
plus_zero : (f : Format) (x : Float) → T (fits f x) → Plus x → Zero x → x ≡ fin false 0 (pos 0)
unfolding fits
plus_zero f x h p z =
    let s : z.sign ≡ false = sym (ap sign_of z.is) ∙ p.plus z in
    let e : z.power ≡ pos 0 = power_of_zero z.power (subst (λ (x : Float). T (fits f x)) z.is h) in
    z.is ∙ ap (λ (t : Bool). fin t 0 z.power) s ∙ ap (λ (d : ℤ). fin false 0 d) e

add_nothing : (f : Format) (x z : Float) → T (fits f x) → T (fits f z) → Plus x → Zero z → add f x z ≡ x
add_nothing f x z h i p w = go (add_zero_right f x z h w)
  where
    go : Same (add f x z) x → add f x z ≡ x
    go (inl e) = e
    go (inr b) = plus_zero f (add f x z) (add-fits f x z) (add_plus f x z h i p) b.0 ∙ sym (plus_zero f x h p b.1)

-- ---- what is summed up from 0.0

-- a number of the format, and not -0.0
pub record Summed (f : Format) (x : Float) : Type 0 where
  held : T (fits f x)
  plain : Plus x

pub zero_summed : (f : Format) → Summed f (of_bits f 0)
unfolding of_bits fits
zero_summed binary32 = record { held = tt; plain = signed_plus refl }
zero_summed binary64 = record { held = tt; plain = signed_plus refl }

pub add_summed : (f : Format) {x : Float} (y : Float) → Summed f x → T (fits f y) → Summed f (add f x y)
add_summed f {x} y s h = record { held = add-fits f x y; plain = add_plus f x y s.held h s.plain }

-- it is not -0.0
pub summed_plus : (f : Format) {x : Float} → Summed f x → (e : ℤ) → x ≡ fin true 0 e → ⊥
summed_plus f s e h = true≢false (sym (ap sign_of h) ∙ s.plain.plus (record { sign = true; power = e; is = h }))

-- and a zero of either sign changes no bit of it
pub summed_nothing : (f : Format) {x z : Float} → Summed f x → T (fits f z) → Zero z → add f x z ≡ x
summed_nothing f {x} {z} s h w = add_nothing f x z s.held h s.plain w

-- 0.0, by its bits
pub bits_zero : (f : Format) → Zero (of_bits f 0)
unfolding of_bits
bits_zero binary32 = record { sign = false; power = pos 0; is = refl }
bits_zero binary64 = record { sign = false; power = pos 0; is = refl }
