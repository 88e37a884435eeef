-- The value of a float, without a zero's sign. Two have the same value where they are one float or two zeros; the IEEE test finds them equal. Sums, differences and
-- products of the same values have the same value, and so has what lies between them. Over the format. Assumes nothing.
use Rattle.std.proofs.Common.{◌≡◌, ℕ, zero, suc, ◌+◌, ◌-◌, ◌*◌, ◌^◌, ◌<◌, Bool, true, false, cond, not, ◌&&◌, ◌||◌, T, ltb, ◌⊎◌, ℤ, pos, sym, refl, ap, ◌∙◌, subst, inl, inr, true≢false, zero-le, zero-lt-suc, mul_assoc, mul_comm, mul-pos, mul-zero, zero-mul, mul_right_comm, arith, le-ltb, lt-ltb, eqb-true}
use mathlib.Core.Bool.{beq}
use lib.Ieee.{Float, nan, inf, fin, Format, binary32, binary64, low, up, down, unlike, neg, round, sum, add, sub, mul, eq, fits, is_nan, of_bits, to_bits}
use lib.Ieee.Bits.{of_bits-to_bits}
use lib.Ieee.Exact.{HasValue}
use lib.Ieee.Fits.{up_pos, down_pos, neg-fits, round-fits, mul-fits}
use lib.Ieee.Nearest.{div_same}
use lib.Ieee.Scale.{finite, round_same}
use Rattle.floats.proofs.Formats.{held, exact, own_units}
use Rattle.floats.proofs.Laws.{both, unequal_nan}
use Rattle.floats.proofs.Numbers.{Number}
use Rattle.floats.proofs.Range.{zero_f, no_factor, round_zero}
use Rattle.floats.proofs.Sized.{Sized, sized_finite, between}

-- ---- zeros, and the same value

-- 0.0 or -0.0
pub record Zero (x : Float) : Type 0 where
  pub sign : Bool
  pub power : ℤ
  pub is : x ≡ fin sign 0 power

zero_digits : (s : Bool) (m : ℕ) (e : ℤ) → m ≡ 0 → Zero (fin s m e)
zero_digits s m e h = record { sign = s; power = e; is = ap (λ (k : ℕ). fin s k e) h }

zero_at : (s : Bool) (e : ℤ) → Zero (fin s 0 e)
zero_at s e = zero_digits s 0 e refl

abbrev pub Same : Float → Float → Type 0
Same x y = (x ≡ y) ⊎ (Zero x × Zero y)

pub same_sym : {x y : Float} → Same x y → Same y x
same_sym (inl e) = inl (sym e)
same_sym (inr z) = inr (z.1, z.0)

pub same_trans : {x y z : Float} → Same x y → Same y z → Same x z
same_trans (inl e) (inl g) = inl (e ∙ g)
same_trans (inl e) (inr w) = inr (subst Zero (sym e) w.0, w.1)
same_trans (inr w) (inl g) = inr (w.0, subst Zero g w.1)
same_trans (inr w) (inr v) = inr (w.0, v.1)

-- next to what is no zero it is the float itself
pub same_other : {x y : Float} → (Zero y → ⊥) → Same x y → x ≡ y
same_other other (inl e) = e
same_other other (inr z) = absurd (other z.1)

-- a bound is the value's, and a zero has every bound
zero_sized : (x : Float) (k : ℕ) → Zero x → Sized x k
zero_sized x k z = rw z.is (record { magnitude = rw (zero-mul (up z.power)) zero-le })

pub same_sized : {x y : Float} {k : ℕ} → Same x y → Sized y k → Sized x k
same_sized {k} (inl e) h = subst (λ (x : Float). Sized x k) (sym e) h
same_sized {x} {k} (inr z) h = zero_sized x k z.0

pub zero_finite : {x : Float} → Zero x → finite x ≡ true
zero_finite {x} z = sized_finite (zero_sized x 0 z)

-- ---- by the IEEE test

equals_itself : (x : Float) → Number x → eq x x ≡ true
unfolding is_nan
equals_itself x number = go (eq x x) refl
  where
    go : (b : Bool) → eq x x ≡ b → b ≡ true
    go true h = refl
    go false h = absurd (subst Number (unequal_nan x h) number).real

zeros_equal : (x y : Float) → Zero x → Zero y → eq x y ≡ true
unfolding eq
zeros_equal x y z w =
    rw (z.is, w.is, zero-mul (up z.power), zero-mul (up w.power), zero-mul (down w.power), zero-mul (down z.power)) (last (beq z.sign w.sign))
  where
    last : (b : Bool) → (b || true) ≡ true
    last true = refl
    last false = refl

pub same_equal : {x y : Float} → Number x → Same x y → eq x y ≡ true
same_equal {x} number (inl e) = subst (λ (y : Float). eq x y ≡ true) e (equals_itself x number)
same_equal {x} {y} number (inr z) = zeros_equal x y z.0 z.1

-- 0.0, by its bits
zero_bits : (f : Format) → of_bits f 0 ≡ zero_f
unfolding of_bits
zero_bits binary32 = refl
zero_bits binary64 = refl

pub zero_equal : (f : Format) (x : Float) → Zero x → eq x (of_bits f 0) ≡ true
zero_equal f x z = rw (zero_bits f) (zeros_equal x zero_f z (zero_at false (pos 0)))

pub equal_zero : (f : Format) (x : Float) → eq x (of_bits f 0) ≡ true → Zero x
unfolding eq
equal_zero f x h = go x (rw (zero_bits f) at h)
  where
    go : (x : Float) → eq x zero_f ≡ true → Zero x
    go nan h = absurd (true≢false (sym h))
    go (inf s) h = absurd (true≢false (sym h))
    go (fin s m e) h = zero_digits s m e (no_factor m (up e) (up_pos e) (omega (arith, eqb-true (m * up e * 1) (0 * down e) (both _ _ h).0)))

-- ---- a rounded zero

none : (u d : ℕ) → 0 * u * d ≡ 0
none u d = ap (λ (k : ℕ). k * d) (zero-mul u) ∙ zero-mul d

some : (m : ℕ) (e d : ℤ) → 0 < suc m * up e * down d
some m e d = mul-pos (mul-pos {m = suc m} {n = up e} (zero-lt-suc m) (up_pos e)) (down_pos d)

zero_of_value : (x : Float) (s : Bool) (c : ℕ) → 0 < c → HasValue x s 0 c → Zero x
zero_of_value nan s c C v = absurd v
zero_of_value (inf t) s c C v = absurd v
zero_of_value (fin t m e) s c C v = zero_digits t m e (no_factor m (up e) (up_pos e) (no_factor (m * up e) c C (v.1 ∙ zero-mul (down e))))

rounds_to_zero : (f : Format) (s : Bool) (a c : ℕ) → 0 < c → a ≡ 0 → Zero (round f s a c)
rounds_to_zero f s a c C h = zero_of_value (round f s a c) s c C (round_zero f s a c C h)

cond_zero : (b : Bool) {x y : Float} → Zero x → Zero y → Zero (cond b x y)
cond_zero true h i = h
cond_zero false h i = i

-- ---- sums of zeros, and of a number and its opposite

sum_zeros : (f : Format) (s t : Bool) (a b c : ℕ) → 0 < c → a ≡ 0 → b ≡ 0 → Zero (sum f s a t b c)
unfolding sum
sum_zeros f s t a b c C h i =
    cond_zero (beq s t) (rounds_to_zero f s (a + b) c C (omega arith))
    (cond_zero (ltb a b) (rounds_to_zero f t (b - a) c C (omega arith)) (rounds_to_zero f (s && ltb b a) (a - b) c C (omega arith)))

sum_opposite : (f : Format) (s : Bool) (a c : ℕ) → 0 < c → Zero (sum f s a (not s) a c)
unfolding sum
sum_opposite f true a c C = cond_zero (ltb a a) (rounds_to_zero f false (a - a) c C (omega arith)) (rounds_to_zero f (ltb a a) (a - a) c C (omega arith))
sum_opposite f false a c C = cond_zero (ltb a a) (rounds_to_zero f true (a - a) c C (omega arith)) (rounds_to_zero f false (a - a) c C (omega arith))

add_zeros : (f : Format) (x y : Float) → Zero x → Zero y → Zero (add f x y)
unfolding add
add_zeros f x y z w =
    let e = z.power in
    let d = w.power in
    rw (z.is, w.is)
    (sum_zeros f z.sign w.sign (0 * up e * down d) (0 * up d * down e) (down e * down d) (mul-pos (down_pos e) (down_pos d)) (none (up e) (down d)) (none (up d) (down e)))

pub neg_zero : (x : Float) → Zero x → Zero (neg x)
unfolding neg
neg_zero x z = rw z.is (zero_at (not z.sign) z.power)

-- a finite number less itself, and less one of the same value
itself_less : (f : Format) (x : Float) → finite x ≡ true → Zero (sub f x x)
unfolding sub neg add
itself_less f nan h = absurd (true≢false (sym h))
itself_less f (inf s) h = absurd (true≢false (sym h))
itself_less f (fin s m e) h = sum_opposite f s (m * up e * down e) (down e * down e) (mul-pos (down_pos e) (down_pos e))

pub same_less : (f : Format) {x y : Float} → finite x ≡ true → Same x y → Zero (sub f x y)
unfolding sub
same_less f {x} h (inl e) = subst (λ (y : Float). Zero (sub f x y)) e (itself_less f x h)
same_less f {x} {y} h (inr z) = add_zeros f x (neg y) z.0 (neg_zero y z.1)

-- ---- a product with a zero

mul_zero_right : (f : Format) (x z : Float) → finite x ≡ true → Zero z → Zero (mul f x z)
unfolding mul
mul_zero_right f nan z h w = absurd (true≢false (sym h))
mul_zero_right f (inf s) z h w = absurd (true≢false (sym h))
mul_zero_right f (fin s m e) z h w =
    let d = w.power in
    rw w.is
    (rounds_to_zero f (unlike s w.sign) (m * up e * (0 * up d)) (down e * down d) (mul-pos (down_pos e) (down_pos d))
    (ap (λ (k : ℕ). m * up e * k) (zero-mul (up d)) ∙ mul-zero (m * up e)))

mul_zero_left : (f : Format) (z y : Float) → Zero z → finite y ≡ true → Zero (mul f z y)
unfolding mul
mul_zero_left f z nan w h = absurd (true≢false (sym h))
mul_zero_left f z (inf t) w h = absurd (true≢false (sym h))
mul_zero_left f z (fin t n d) w h =
    let e = w.power in
    rw w.is (rounds_to_zero f (unlike w.sign t) (0 * up e * (n * up d)) (down e * down d) (mul-pos (down_pos e) (down_pos d)) (none (up e) (n * up d)))

-- ---- a sum with a zero

-- what fits its format is not changed by rounding
bits_of_value : (f : Format) (y : Float) (s : Bool) (m : ℕ) (e : ℤ) → HasValue y s (m * up e) (down e) → to_bits f y ≡ to_bits f (fin s m e)
unfolding to_bits
bits_of_value f nan s m e v = absurd v
bits_of_value f (inf t) s m e v = absurd v
bits_of_value f (fin t n d) s m e v =
    rw (
      v.0,
      div_same (n * up d * 2 ^ low f) (down d) (m * up e * 2 ^ low f) (down e) (down_pos d) (down_pos e)
          (mul_right_comm (n * up d) (2 ^ low f) (down e) ∙ ap (λ (k : ℕ). k * 2 ^ low f) v.1 ∙ mul_right_comm (m * up e) (down d) (2 ^ low f)),
    )

rounds_to_itself : (f : Format) (s : Bool) (m : ℕ) (e : ℤ) → T (fits f (fin s (suc m) e)) → round f s (suc m * up e) (down e) ≡ fin s (suc m) e
rounds_to_itself f s m e h =
    let z = held f s m e h in
    let j = own_units f (suc m) e z in
    let x = round f s (suc m * up e) (down e) in
    sym (of_bits-to_bits f x (round-fits f s (suc m * up e) (down e)))
    ∙ ap (of_bits f) (bits_of_value f x s (suc m) e (exact f s (suc m * up e) (down e) (suc m) j.0 (down_pos e) z.few z.under j.1))
    ∙ of_bits-to_bits f (fin s (suc m) e) h

widened : (f : Format) (s : Bool) (m : ℕ) (e : ℤ) (k : ℕ) → 0 < k → T (fits f (fin s (suc m) e)) → round f s (suc m * up e * k) (down e * k) ≡ fin s (suc m) e
widened f s m e k K h =
    round_same f s (suc m * up e * k) (down e * k) (suc m * up e) (down e) (mul-pos (down_pos e) K) (down_pos e)
    (mul_assoc (suc m * up e) k (down e) ∙ ap (λ (n : ℕ). suc m * up e * n) (mul_comm k (down e)))
    ∙ rounds_to_itself f s m e h

sum_right : (f : Format) (s t : Bool) (a b c : ℕ) → 0 < a → b ≡ 0 → sum f s a t b c ≡ round f s a c
unfolding sum
sum_right f true true a b c A h = let q : a + b ≡ a = omega arith in rw q refl
sum_right f true false a b c A h = let q : a - b ≡ a = omega arith in rw (le-ltb a b (omega arith), lt-ltb b a (omega arith), q) refl
sum_right f false true a b c A h = let q : a - b ≡ a = omega arith in rw (le-ltb a b (omega arith), q) refl
sum_right f false false a b c A h = let q : a + b ≡ a = omega arith in rw q refl

sum_left : (f : Format) (s t : Bool) (a b c : ℕ) → a ≡ 0 → 0 < b → sum f s a t b c ≡ round f t b c
unfolding sum
sum_left f true true a b c h B = let q : a + b ≡ b = omega arith in rw q refl
sum_left f true false a b c h B = let q : b - a ≡ b = omega arith in rw (lt-ltb a b (omega arith), q) refl
sum_left f false true a b c h B = let q : b - a ≡ b = omega arith in rw (lt-ltb a b (omega arith), q) refl
sum_left f false false a b c h B = let q : a + b ≡ b = omega arith in rw q refl

pub add_zero_right : (f : Format) (x z : Float) → T (fits f x) → Zero z → Same (add f x z) x
unfolding add
add_zero_right f nan z h w = inl refl
add_zero_right f (inf s) z h w = rw w.is (inl refl)
add_zero_right f (fin s zero e) z h w = inr (add_zeros f (fin s zero e) z (zero_at s e) w, zero_at s e)
add_zero_right f (fin s (suc m) e) z h w =
    let d = w.power in
    rw w.is
    (inl
    (sum_right f s w.sign (suc m * up e * down d) (0 * up d * down e) (down e * down d) (some m e d) (none (up d) (down e))
    ∙ widened f s m e (down d) (down_pos d) h))

pub add_zero_left : (f : Format) (z x : Float) → Zero z → T (fits f x) → Same (add f z x) x
unfolding add
add_zero_left f z nan w h = rw w.is (inl refl)
add_zero_left f z (inf s) w h = rw w.is (inl refl)
add_zero_left f z (fin s zero e) w h = inr (add_zeros f z (fin s zero e) w (zero_at s e), zero_at s e)
add_zero_left f z (fin s (suc m) e) w h =
    let d = w.power in
    rw w.is
    (inl
    (sum_left f w.sign s (0 * up d * down e) (suc m * up e * down d) (down d * down e) (none (up d) (down e)) (some m e d)
    ∙ ap (λ (k : ℕ). round f s (suc m * up e * down d) k) (mul_comm (down d) (down e))
    ∙ widened f s m e (down d) (down_pos d) h))

-- ---- equal values give equal values

same_neg : {x y : Float} → Same x y → Same (neg x) (neg y)
same_neg (inl e) = inl (ap neg e)
same_neg {x} {y} (inr z) = inr (neg_zero x z.0, neg_zero y z.1)

same_add : (f : Format) {x x' y y' : Float} → T (fits f x') → T (fits f y) → Same x x' → Same y y' → Same (add f x y) (add f x' y')
same_add f {x} {x'} {y} {y'} fx fy p q = same_trans (first p) (second q)
  where
    first : Same x x' → Same (add f x y) (add f x' y)
    first (inl e) = inl (ap (λ (v : Float). add f v y) e)
    first (inr z) = same_trans (add_zero_left f x y z.0 fy) (same_sym (add_zero_left f x' y z.1 fy))

    second : Same y y' → Same (add f x' y) (add f x' y')
    second (inl e) = inl (ap (add f x') e)
    second (inr z) = same_trans (add_zero_right f x' y fx z.0) (same_sym (add_zero_right f x' y' fx z.1))

same_sub : (f : Format) {x x' y y' : Float} → T (fits f x') → T (fits f y) → Same x x' → Same y y' → Same (sub f x y) (sub f x' y')
unfolding sub
same_sub f {y} fx fy p q = same_add f fx (neg-fits f y fy) p (same_neg q)

same_mul : (f : Format) {x x' : Float} (y : Float) → finite y ≡ true → Same x x' → Same (mul f x y) (mul f x' y)
same_mul f y h (inl e) = inl (ap (λ (v : Float). mul f v y) e)
same_mul f {x} {x'} y h (inr z) = inr (mul_zero_left f x y z.0 h, mul_zero_left f x' y z.1 h)

-- ---- between two floats

-- A zero fraction gives the lower value.
pub lower_at_zero : (f : Format) (lower upper : Float) {fraction : Float} → T (fits f lower) → finite (sub f upper lower) ≡ true → Zero fraction → Same (between f lower upper fraction) lower
lower_at_zero f lower upper {fraction} l d z = add_zero_right f lower (mul f (sub f upper lower) fraction) l (mul_zero_right f (sub f upper lower) fraction d z)

-- Equal values interpolate to equal values.
pub same_between : (f : Format) {lower lower' upper upper' : Float} (fraction : Float) → T (fits f lower) → T (fits f lower') → T (fits f upper') → finite fraction ≡ true
    → Same lower lower' → Same upper upper' → Same (between f lower upper fraction) (between f lower' upper' fraction)
same_between f {lower} {lower'} {upper} {upper'} fraction l l' u' h p q =
    same_add f l' (mul-fits f (sub f upper lower) fraction) p (same_mul f fraction h (same_sub f u' l q p))
