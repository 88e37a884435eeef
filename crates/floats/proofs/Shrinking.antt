-- Where no overflow can happen at any size: what a format holds is at most its largest value (`largest`), and what is at most one more than that rounds to it at most.
-- So a product with a factor from 0 to 1 is finite, and so is a blend towards a target from 0 to 1. And of a finite result both parts are finite. Over the format;
-- the laws at binary32 stand at the end. Assumes nothing.
use Rattle.std.proofs.Common.{◌≡◌, ℕ, zero, suc, ◌+◌, ◌-◌, ◌*◌, ◌^◌, ◌<◌, ◌≤◌, Bool, true, false, cond, not, T, eqb, ltb, leb, ◌⊎◌, ℤ, pos, negsuc, sym, refl, ap, ◌∙◌, subst, inl, inr, true≢false, zero-le, le_trans, le_of_eq, lt_of_lt_of_le, le_of_lt, mul-le-mul_right, zero-lt-suc, mul_assoc, mul_comm, mul-le-mul, lt_of_mul-lt-mul_right, mul-le-mul_left, mul-pos, zero-mul, mul-one, mul_right_comm, le_of_mul-le-mul_right, arith, lit≤, pow_pos, pow_mono, pow-add, ltb-false, le-ltb, leb-false, leb-true}
use mathlib.Core.Bool.{beq}
use native.Mathlib.Nat.{le-suc}
use lib.Pow.{le_ones}
use lib.Ieee.{Float, nan, inf, fin, Format, binary32, binary64, prec, emax, up, down, unlike, round, neg, sum, add, sub, mul, le, fits, of_bits}
use lib.Ieee.Digits.{back}
use lib.Ieee.Exact.{HasValue}
use lib.Ieee.Fits.{down_pos, reach}
use lib.Ieee.Order.{round_mono}
use lib.Ieee.Scale.{finite}
use Rattle.floats.proofs.Formats.{Held, held}
use Rattle.floats.proofs.Range.{Within, le_within, round_zero, upto_more, whole_upto, zero32, one32}
use Rattle.floats.proofs.Signs.{sign_of, round_signed}
use Rattle.floats.proofs.Sized.{Sized, Reaches, sized_finite, cond_sized, within_sized, round_reached, left_part, right_part, add_reached, sub_reached, mul_reached, add_sized, sub_sized, mul_sized}

-- ---- the parts of a finite result

cond_unfinite : (b : Bool) (x y : Float) → finite x ≡ false → finite y ≡ false → finite (cond b x y) ≡ true → ⊥
cond_unfinite true x y h i q = true≢false (sym q ∙ h)
cond_unfinite false x y h i q = true≢false (sym q ∙ i)

-- A finite sum has finite parts.
pub add_parts : (f : Format) (x y : Float) → finite (add f x y) ≡ true → (finite x ≡ true) × (finite y ≡ true)
unfolding add
add_parts f nan y h = absurd (true≢false (sym h))
add_parts f (inf s) nan h = absurd (true≢false (sym h))
add_parts f (inf s) (inf t) h = absurd (cond_unfinite (beq s t) (inf s) nan refl refl h)
add_parts f (inf s) (fin t n d) h = absurd (true≢false (sym h))
add_parts f (fin s m e) nan h = absurd (true≢false (sym h))
add_parts f (fin s m e) (inf t) h = absurd (true≢false (sym h))
add_parts f (fin s m e) (fin t n d) h = (refl, refl)

neg_finite : (x : Float) → finite (neg x) ≡ finite x
unfolding neg
neg_finite nan = refl
neg_finite (inf s) = refl
neg_finite (fin s m e) = refl

-- So has a finite difference,
pub sub_parts : (f : Format) (x y : Float) → finite (sub f x y) ≡ true → (finite x ≡ true) × (finite y ≡ true)
unfolding sub
sub_parts f x y h = let p = add_parts f x (neg y) h in (p.0, sym (neg_finite y) ∙ p.1)

-- and a finite product.
pub mul_parts : (f : Format) (x y : Float) → finite (mul f x y) ≡ true → (finite x ≡ true) × (finite y ≡ true)
unfolding mul
mul_parts f nan y h = absurd (true≢false (sym h))
mul_parts f (inf s) nan h = absurd (true≢false (sym h))
mul_parts f (inf s) (inf t) h = absurd (true≢false (sym h))
mul_parts f (inf s) (fin t n d) h = absurd (cond_unfinite (eqb n 0) nan (inf (unlike s t)) refl refl h)
mul_parts f (fin s m e) nan h = absurd (true≢false (sym h))
mul_parts f (fin s m e) (inf t) h = absurd (cond_unfinite (eqb m 0) nan (inf (unlike s t)) refl refl h)
mul_parts f (fin s m e) (fin t n d) h = (refl, refl)

-- ---- the largest value of a format: `prec` ones, at the top exponent

unfoldable pub largest : Format → ℕ
largest f = (2 ^ prec f - 1) * 2 ^ (suc (emax f) - prec f)

-- m * 2 ^ k, with an m of at most `prec` digits: for a k up to the one of the largest value, and from there on.
low_power : (f : Format) (m k : ℕ) → m < 2 ^ prec f → k ≤ suc (emax f) - prec f → m * 2 ^ k ≤ largest f
unfolding largest
low_power f m k few h = mul-le-mul (le_ones (prec f) few) (pow_mono h)

high_power : (f : Format) (m k : ℕ) → m * 2 ^ k < 2 ^ suc (emax f) → suc (emax f) - prec f ≤ k → m * 2 ^ k ≤ largest f
unfolding largest
high_power f m k under h =
    let p = prec f in
    let r = suc (emax f) - p in
    let split : m * 2 ^ k ≡ m * 2 ^ (k - r) * 2 ^ r = ap (λ (n : ℕ). m * 2 ^ n) (sym (back k r h)) ∙ ap (λ (n : ℕ). m * n) (pow-add 2 (k - r) r) ∙ sym (mul_assoc m (2 ^ (k - r)) (2 ^ r)) in
    let top : 2 ^ suc (emax f) ≡ 2 ^ p * 2 ^ r = ap (λ (n : ℕ). 2 ^ n) (sym (back (suc (emax f)) p (reach f))) ∙ pow-add 2 r p ∙ mul_comm (2 ^ r) (2 ^ p) in
    let few : m * 2 ^ (k - r) < 2 ^ p = lt_of_mul-lt-mul_right (2 ^ r) (subst (λ (n : ℕ). m * 2 ^ (k - r) * 2 ^ r < n) top (subst (λ (n : ℕ). n < 2 ^ suc (emax f)) split under)) in
    le_trans (le_of_eq split) (mul-le-mul_right (2 ^ r) (le_ones p few))

held_largest : (f : Format) (m : ℕ) (e : ℤ) → Held f m e → m * up e ≤ largest f * down e
held_largest f m (pos k) h = le_trans (go (leb k (suc (emax f) - prec f)) refl) (le_of_eq (sym (mul-one (largest f))))
  where
    go : (b : Bool) → leb k (suc (emax f) - prec f) ≡ b → m * 2 ^ k ≤ largest f
    go true t = low_power f m k h.few (leb-true k (suc (emax f) - prec f) t)
    go false t = high_power f m k (lt_of_lt_of_le h.under (le_of_eq (mul-one (2 ^ suc (emax f))))) (le_of_lt (leb-false k (suc (emax f) - prec f) t))
held_largest f m (negsuc k) h =
    le_trans (low_power f m 0 h.few zero-le) (le_trans (le_of_eq (sym (mul-one (largest f)))) (mul-le-mul_left (largest f) (pow_pos (suc k))))

-- What a format holds is at most its largest value.
pub fits_largest : (f : Format) (x : Float) → T (fits f x) → finite x ≡ true → Sized x (largest f)
fits_largest f nan h i = absurd (true≢false (sym i))
fits_largest f (inf s) h i = absurd (true≢false (sym i))
fits_largest f (fin s zero e) h i = record { magnitude = le_trans (le_of_eq (zero-mul (up e))) zero-le }
fits_largest f (fin s (suc m) e) h i = record { magnitude = held_largest f (suc m) e (held f s m e h) }

-- ---- rounding: what is at most one more than the largest value rounds to no more than it

largest_value : (f : Format) → HasValue (round f false (suc (largest f)) 1) false (largest f) 1
unfolding round largest
largest_value binary32 = (refl, refl)
largest_value binary64 = (refl, refl)

largest_reaches : (f : Format) {j : ℕ} → j ≤ suc (largest f) → Reaches f j (largest f)
largest_reaches f {j} J = record { reached = go }
  where
    go : (a c : ℕ) → 0 < c → a ≤ j * c → Sized (round f false a c) (largest f)
    go a c C h =
        let l = largest f in
        within_sized (round f false a c)
        (le_within (round f false 0 1) (round f false a c) (round f false (suc l) 1) l (round_zero f false 0 1 (zero-lt-suc 0) refl) (largest_value f)
        (round_mono f 0 1 a c (zero-lt-suc 0) C (le_trans (le_of_eq (zero-mul c)) zero-le))
        (round_mono f a c (suc l) 1 C (zero-lt-suc 0) (le_trans (le_of_eq (mul-one a)) (le_trans h (mul-le-mul_right c J)))))

-- ---- sums of opposite signs

-- Two fractions with the divisor c, neither of them larger.
sum_opposite : (f : Format) (s : Bool) {a b c : ℕ} → 0 < c → a ≤ largest f * c → b ≤ largest f * c → Sized (sum f s a (not s) b c) (largest f)
unfolding sum
sum_opposite f s {a} {b} {c} C p q = go s
  where
    less : (a b n : ℕ) → a ≤ n → a - b ≤ n
    less a b n h = omega arith

    own : Reaches f (largest f) (largest f)
    own = largest_reaches f (le-suc (largest f))

    rest : (t v : Bool) → Sized (cond (ltb a b) (round f t (b - a) c) (round f v (a - b) c)) (largest f)
    rest t v = cond_sized (ltb a b) (round_reached own t (b - a) c C (less b a _ q)) (round_reached own v (a - b) c C (less a b _ p))

    go : (s : Bool) → Sized (sum f s a (not s) b c) (largest f)
    go true = rest false (ltb b a)
    go false = rest true false

-- The sum of two floats of opposite signs.
pub add_opposite : (f : Format) {x y : Float} → Sized x (largest f) → Sized y (largest f) → sign_of y ≡ not (sign_of x) → Sized (add f x y) (largest f)
unfolding add
add_opposite f {x = nan} u v q = absurd u.magnitude
add_opposite f {x = inf s} u v q = absurd u.magnitude
add_opposite f {x = fin s m e} {y = nan} u v q = absurd v.magnitude
add_opposite f {x = fin s m e} {y = inf t} u v q = absurd v.magnitude
add_opposite f {x = fin s m e} {y = fin t n d} u v q =
    let l = largest f in
    subst (λ (t : Bool). Sized (sum f s (m * up e * down d) t (n * up d * down e) (down e * down d)) l) (sym q)
    (sum_opposite f s (mul-pos (down_pos e) (down_pos d)) (left_part l (m * up e) (down e) (down d) u.magnitude) (right_part l (n * up d) (down e) (down d) v.magnitude))

-- ---- a factor from 0 to 1

one_le : (n : ℕ) → 1 * n ≤ suc n
one_le n = omega arith

le_one : (n : ℕ) → n * 1 ≤ suc n
le_one n = omega arith

one_more : (n : ℕ) → 1 + n ≤ suc n
one_more n = omega arith

no_more : (n : ℕ) → n + 0 ≤ suc n
no_more n = omega arith

-- It leaves what is finite finite, from either side.
pub shrunk : (f : Format) (x d : Float) → T (fits f x) → finite x ≡ true → Within d 1 → finite (mul f x d) ≡ true
shrunk f x d h i w = sized_finite (mul_reached (largest_reaches f (le_one (largest f))) (fits_largest f x h i) (within_sized d w))

pub shrunk_right : (f : Format) (d x : Float) → T (fits f x) → finite x ≡ true → Within d 1 → finite (mul f d x) ≡ true
shrunk_right f d x h i w = sized_finite (mul_reached (largest_reaches f (one_le (largest f))) (within_sized d w) (fits_largest f x h i))

-- And it keeps the sign, but for -0.0, where the product is a zero.
keeps_sign : (f : Format) (t u : Float) → Within t 1 → Sized u (largest f) → Sized (mul f t u) 0 ⊎ (sign_of (mul f t u) ≡ sign_of u)
unfolding mul
keeps_sign f nan u w v = absurd w
keeps_sign f (inf s) u w v = absurd w
keeps_sign f (fin s n d) nan w v = absurd v.magnitude
keeps_sign f (fin s n d) (inf t) w v = absurd v.magnitude
keeps_sign f (fin true n d) (fin t m e) w v =
    inl (subst (λ (k : ℕ). Sized (mul f (fin true n d) (fin t m e)) k) (zero-mul (largest f)) (mul_sized f (le_trans (le_of_eq (zero-mul (largest f))) zero-le) (none n d w) v))
  where
    none : (n : ℕ) (d : ℤ) → n ≡ 0 → Sized (fin true n d) 0
    none n d h = record { magnitude = le_trans (le_of_eq (ap (λ (k : ℕ). k * up d) h ∙ zero-mul (up d))) zero-le }
keeps_sign f (fin false n d) (fin true m e) w v = inr (round_signed f true _ _)
keeps_sign f (fin false n d) (fin false m e) w v = inr (round_signed f false _ _)

-- ---- a blend towards a target from 0 to 1: b + t * (target - b)

-- a / e is at most b / d, and so at most n.
small : (a b n e d : ℕ) → 0 < d → a * d ≤ b * e → b ≤ n * d → a ≤ n * e
small a b n e d D h i = le_of_mul-le-mul_right (le_trans h (le_trans (mul-le-mul_right e i) (le_of_eq (mul_right_comm n d e)))) D

-- Either b is at most 1 in magnitude, or the way from b to the target has the sign that b has not.
towards : (f : Format) (target b : Float) → Within target 1 → finite b ≡ true → Sized b 1 ⊎ (sign_of (sub f target b) ≡ not (sign_of b))
unfolding sub neg add sum
towards f nan b w h = absurd w
towards f (inf s) b w h = absurd w
towards f (fin s n d) nan w h = absurd (true≢false (sym h))
towards f (fin s n d) (inf t) w h = absurd (true≢false (sym h))
towards f (fin false n d) (fin true m e) w h = inr (round_signed f false _ _)
towards f (fin true n d) (fin false m e) w h = inr (round_signed f true _ _)
towards f (fin false n d) (fin false m e) w h = go (ltb (n * up d * down e) (m * up e * down d)) refl
  where
    go : (b : Bool) → ltb (n * up d * down e) (m * up e * down d) ≡ b
        → Sized (fin false m e) 1 ⊎ (sign_of (cond b (round f true (m * up e * down d - n * up d * down e) (down d * down e)) (round f false (n * up d * down e - m * up e * down d) (down d * down e))) ≡ true)
    go true t = inr (round_signed f true _ _)
    go false t = inl (record { magnitude = small (m * up e) (n * up d) 1 (down e) (down d) (down_pos d) (ltb-false (n * up d * down e) (m * up e * down d) t) w })
towards f (fin true n d) (fin true m e) w h = inr (go (ltb (n * up d * down e) (m * up e * down d)) (ltb (m * up e * down d) (n * up d * down e)) none)
  where
    zero_part : n * up d * down e ≡ 0
    zero_part = ap (λ (k : ℕ). k * up d * down e) w ∙ ap (λ (k : ℕ). k * down e) (zero-mul (up d)) ∙ zero-mul (down e)

    none : ltb (m * up e * down d) (n * up d * down e) ≡ false
    none = le-ltb (m * up e * down d) (n * up d * down e) (le_trans (le_of_eq zero_part) zero-le)

    go : (p q : Bool) → q ≡ false
        → sign_of (cond p (round f false (m * up e * down d - n * up d * down e) (down d * down e)) (round f q (n * up d * down e - m * up e * down d) (down d * down e))) ≡ false
    go true q e = round_signed f false _ _
    go false q e = round_signed f q _ _ ∙ e

three : (f : Format) → 1 + 1 * (1 + 1) ≤ 2 ^ prec f
three binary32 = lit≤ tt
three binary64 = lit≤ tt

module _ (f : Format) (b t target : Float) (h : T (fits f b)) (i : finite b ≡ true) (v : Within t 1) (w : Within target 1) where
  own : Sized b (largest f)
  own = fits_largest f b h i

  gap : Sized (sub f target b) (largest f)
  gap = sub_reached (largest_reaches f (one_more (largest f))) (within_sized target w) own

  step : Sized (mul f t (sub f target b)) (largest f)
  step = mul_reached (largest_reaches f (one_le (largest f))) (within_sized t v) gap

  near : Sized b 1 → finite (add f b (mul f t (sub f target b))) ≡ true
  near u =
      sized_finite (add_sized f (three f) u (mul_sized f (le_trans (omega arith) (three f)) (within_sized t v) (sub_sized f (le_trans (omega arith) (three f)) (within_sized target w) u)))

  far : sign_of (sub f target b) ≡ not (sign_of b) → finite (add f b (mul f t (sub f target b))) ≡ true
  far q = go (keeps_sign f t (sub f target b) v gap)
    where
      go : Sized (mul f t (sub f target b)) 0 ⊎ (sign_of (mul f t (sub f target b)) ≡ sign_of (sub f target b)) → finite (add f b (mul f t (sub f target b))) ≡ true
      go (inl z) = sized_finite (add_reached (largest_reaches f (no_more (largest f))) own z)
      go (inr r) = sized_finite (add_opposite f own step (r ∙ q))

  -- It is finite, however large b is.
  pub blended : finite (add f b (mul f t (sub f target b))) ≡ true
  blended = elim (towards f target b w i) [ inl u ↦ near u | inr q ↦ far q ]

-- ---- at binary32, by the tests of the code

-- From 0 to 1, -0.0 included.
unit32 : (d : Float) → le (of_bits binary32 0) d ≡ true → le d (of_bits binary32 0x3f80_0000) ≡ true → Within d 1
unit32 d a b = le_within (of_bits binary32 0) d (of_bits binary32 0x3f80_0000) 1 zero32.value one32.value (subst T (sym a) tt) (subst T (sym b) tt)

-- A finite f32 times a factor from 0 to 1 is finite.
pub shrunk_finite : (x d : Float) → T (fits binary32 x) → finite x ≡ true → le (of_bits binary32 0) d ≡ true → le d (of_bits binary32 0x3f80_0000) ≡ true → finite (mul binary32 x d) ≡ true
shrunk_finite x d h i a b = shrunk binary32 x d h i (unit32 d a b)

-- And so is a finite f32 that goes the part t, from 0 to 1, of its way to a target from 0 to 1.
pub blend_finite : (b t target : Float) → T (fits binary32 b) → finite b ≡ true → le (of_bits binary32 0) t ≡ true → le t (of_bits binary32 0x3f80_0000) ≡ true
    → le (of_bits binary32 0) target ≡ true → le target (of_bits binary32 0x3f80_0000) ≡ true
    → finite (add binary32 b (mul binary32 t (sub binary32 target b))) ≡ true
blend_finite b t target h i p q u v = blended binary32 b t target h i (unit32 t p q) (unit32 target u v)

pub blend_zero_finite : (b t : Float) → T (fits binary32 b) → finite b ≡ true → le (of_bits binary32 0) t ≡ true → le t (of_bits binary32 0x3f80_0000) ≡ true
    → finite (add binary32 b (mul binary32 t (sub binary32 (of_bits binary32 0) b))) ≡ true
blend_zero_finite b t h i p q = blended binary32 b t (of_bits binary32 0) h i (unit32 t p q) (upto_more zero-le (whole_upto zero32)).within

pub blend_one_finite : (b t : Float) → T (fits binary32 b) → finite b ≡ true → le (of_bits binary32 0) t ≡ true → le t (of_bits binary32 0x3f80_0000) ≡ true
    → finite (add binary32 b (mul binary32 t (sub binary32 (of_bits binary32 0x3f80_0000) b))) ≡ true
blend_one_finite b t h i p q = blended binary32 b t (of_bits binary32 0x3f80_0000) h i (unit32 t p q) (whole_upto one32).within
