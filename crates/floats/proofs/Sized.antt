-- How large a float can be, of either sign. `Sized x k` says that x is finite and at most k in magnitude; sums, differences and products of such numbers are so too.
-- Rounding does not pass a whole number of at most 2 ^ prec, so each law asks only that its bound is one. Assumes nothing.
use Rattle.std.proofs.Common.{◌≡◌, ℕ, ◌+◌, ◌-◌, ◌*◌, ◌^◌, ◌<◌, ◌≤◌, Bool, true, false, cond, ◌&&◌, ltb, pos, sym, refl, ap, subst, zero-le, le_trans, le_of_eq, add-le-add, mul-le-mul_right, mul_assoc, mul_comm, add-mul, mul-le-mul, mul-le-mul_left, mul-pos, zero-mul, mul-one, arith}
use mathlib.Core.Bool.{beq}
use native.Mathlib.Nat.{mul-mul-mul_comm}
use lib.Ieee.{Float, nan, inf, fin, Format, prec, up, down, round, neg, sum, add, sub, mul, div, of_int}
use lib.Ieee.Fits.{down_pos}
use lib.Ieee.Scale.{finite}
use Rattle.floats.proofs.Range.{Within, Whole, Upto, round_within, of_int_upto, div_upto}
use Rattle.floats.proofs.Rounding.{neg_round}

-- Neither a NaN nor an infinity, and -k <= x <= k.
abbrev pub Magnitude : Float → ℕ → Type 0
Magnitude nan k = ⊥
Magnitude (inf s) k = ⊥
Magnitude (fin s m e) k = m * up e ≤ k * down e

pub record Sized (x : Float) (k : ℕ) : Type 0 where
  pub magnitude : Magnitude x k

-- ---- what a bound gives

-- What has a bound is finite.
pub sized_finite : {x : Float} {k : ℕ} → Sized x k → finite x ≡ true
sized_finite {x = nan} u = absurd u.magnitude
sized_finite {x = inf s} u = absurd u.magnitude
sized_finite {x = fin s m e} u = refl

-- A larger bound holds too.
pub sized_more : {x : Float} {j k : ℕ} → j ≤ k → Sized x j → Sized x k
sized_more {x = nan} h u = absurd u.magnitude
sized_more {x = inf s} h u = absurd u.magnitude
sized_more {x = fin s m e} h u = record { magnitude = le_trans u.magnitude (mul-le-mul_right (down e) h) }

-- ---- what is bounded

-- A constant's bound is found by computing.
pub literal_sized : (x : Float) (k : ℕ) → Magnitude x k → Sized x k
literal_sized x k h = record { magnitude = h }

-- Whichever of two numbers is taken has the bound of both.
pub cond_sized : (b : Bool) {x y : Float} {k : ℕ} → Sized x k → Sized y k → Sized (cond b x y) k
cond_sized true u v = u
cond_sized false u v = v

-- A number between zero and k is at most k in magnitude.
pub within_sized : (x : Float) {k : ℕ} → Within x k → Sized x k
within_sized nan h = absurd h
within_sized (inf s) h = absurd h
within_sized (fin true m e) h = record { magnitude = rw (h, zero-mul) zero-le }
within_sized (fin false m e) h = record { magnitude = h }

upto_sized : {x : Float} {k : ℕ} → Upto x k → Sized x k
upto_sized {x} u = within_sized x u.within

-- A whole number has the bounds that it has as one.
pub of_int_sized : (f : Format) {n k : ℕ} → n ≤ k → k ≤ 2 ^ prec f → Sized (of_int f (pos n)) k
of_int_sized f h K = upto_sized (of_int_upto f h K)

-- A whole number of at most j * k, divided by k, is at most j.
pub quotient_sized : (f : Format) {y : Float} {n : ℕ} (j k : ℕ) → 0 < k → j * k ≤ 2 ^ prec f → n ≤ j * k → Whole y k → Sized (div f (of_int f (pos n)) y) j
quotient_sized f j k P K h w = upto_sized (div_upto f (le_trans (le_trans (le_of_eq (sym (mul-one j))) (mul-le-mul_left j P)) K) P (of_int_upto f h K) w)

-- The sign does not matter.
pub neg_sized : {x : Float} {k : ℕ} → Sized x k → Sized (neg x) k
unfolding neg
neg_sized {x = nan} u = u
neg_sized {x = inf s} u = absurd u.magnitude
neg_sized {x = fin s m e} u = record { magnitude = u.magnitude }

-- A fraction that is at most j rounds to a number that is at most k.
pub record Reaches (f : Format) (j k : ℕ) : Type 0 where
  pub reached : (a c : ℕ) → 0 < c → a ≤ j * c → Sized (round f false a c) k

-- A whole number of at most 2 ^ prec is not passed.
whole_reaches : (f : Format) (k : ℕ) → k ≤ 2 ^ prec f → Reaches f k k
whole_reaches f k K = record { reached = λ a c C h. within_sized (round f false a c) (round_within f a c k C K h) }

-- Of either sign.
pub round_reached : {f : Format} {j k : ℕ} → Reaches f j k → (s : Bool) (a c : ℕ) → 0 < c → a ≤ j * c → Sized (round f s a c) k
round_reached r false a c C h = r.reached a c C h
round_reached {f} {k} r true a c C h = subst (λ (x : Float). Sized x k) (neg_round f false a c) (neg_sized (r.reached a c C h))

-- Two fractions with the divisor c: their sum where the signs agree, else their difference.
sum_reached : {f : Format} {i k : ℕ} → Reaches f i k → (s t : Bool) (a b c : ℕ) → 0 < c → a + b ≤ i * c → Sized (sum f s a t b c) k
unfolding sum
sum_reached r s t a b c C both =
    cond_sized (beq s t) (round_reached r s (a + b) c C both)
    (cond_sized (ltb a b) (round_reached r t (b - a) c C (le_trans (first a b) both)) (round_reached r (s && ltb b a) (a - b) c C (le_trans (second a b) both)))
  where
    first : (a b : ℕ) → b - a ≤ a + b
    first a b = omega arith

    second : (a b : ℕ) → a - b ≤ a + b
    second a b = omega arith

-- By whole bounds: a fraction that is at most k rounds to a number that is,
round_sized : (f : Format) (s : Bool) (a c : ℕ) {k : ℕ} → 0 < c → k ≤ 2 ^ prec f → a ≤ k * c → Sized (round f s a c) k
round_sized f s a c {k} C K h = round_reached (whole_reaches f k K) s a c C h

-- and two such fractions give at most the sum of the bounds.
sum_sized : (f : Format) (s t : Bool) {a b c : ℕ} (j k : ℕ) → 0 < c → j + k ≤ 2 ^ prec f → a ≤ j * c → b ≤ k * c → Sized (sum f s a t b c) (j + k)
sum_sized f s t {a} {b} {c} j k C K p q = sum_reached (whole_reaches f (j + k) K) s t a b c C (le_trans (add-le-add p q) (le_of_eq (sym (add-mul j k c))))

-- Each part of a sum, over the divisor of both.
pub left_part : (j a e d : ℕ) → a ≤ j * e → a * d ≤ j * (e * d)
left_part j a e d h = le_trans (mul-le-mul_right d h) (le_of_eq (mul_assoc j e d))

pub right_part : (j a e d : ℕ) → a ≤ j * d → a * e ≤ j * (e * d)
right_part j a e d h = le_trans (left_part j a d e h) (le_of_eq (ap (λ (n : ℕ). j * n) (mul_comm d e)))

-- A sum is at most what the sum of the bounds reaches.
pub add_reached : {f : Format} {x y : Float} {i j k : ℕ} → Reaches f (i + j) k → Sized x i → Sized y j → Sized (add f x y) k
unfolding add
add_reached {x = nan} r u v = absurd u.magnitude
add_reached {x = inf s} r u v = absurd u.magnitude
add_reached {x = fin s m e} {y = nan} r u v = absurd v.magnitude
add_reached {x = fin s m e} {y = inf t} r u v = absurd v.magnitude
add_reached {x = fin s m e} {y = fin t n d} {i} {j} r u v =
    sum_reached r s t (m * up e * down d) (n * up d * down e) (down e * down d) (mul-pos (down_pos e) (down_pos d))
    (le_trans (add-le-add (left_part i (m * up e) (down e) (down d) u.magnitude) (right_part j (n * up d) (down e) (down d) v.magnitude)) (le_of_eq (sym (add-mul i j (down e * down d)))))

-- So is a difference.
pub sub_reached : {f : Format} {x y : Float} {i j k : ℕ} → Reaches f (i + j) k → Sized x i → Sized y j → Sized (sub f x y) k
unfolding sub
sub_reached r u v = add_reached r u (neg_sized v)

-- A product is at most what the product of the bounds reaches.
pub mul_reached : {f : Format} {x y : Float} {i j k : ℕ} → Reaches f (i * j) k → Sized x i → Sized y j → Sized (mul f x y) k
unfolding mul
mul_reached {x = nan} r u v = absurd u.magnitude
mul_reached {x = inf s} r u v = absurd u.magnitude
mul_reached {x = fin s m e} {y = nan} r u v = absurd v.magnitude
mul_reached {x = fin s m e} {y = inf t} r u v = absurd v.magnitude
mul_reached {x = fin s m e} {y = fin t n d} {i} {j} r u v =
    round_reached r _ (m * up e * (n * up d)) (down e * down d) (mul-pos (down_pos e) (down_pos d))
    (le_trans (mul-le-mul u.magnitude v.magnitude) (le_of_eq (mul-mul-mul_comm i (down e) j (down d))))

-- By whole bounds: a sum is at most the sum of the bounds, a difference too, and a product at most their product.
pub add_sized : (f : Format) {x y : Float} {j k : ℕ} → j + k ≤ 2 ^ prec f → Sized x j → Sized y k → Sized (add f x y) (j + k)
add_sized f {j} {k} K u v = add_reached (whole_reaches f (j + k) K) u v

pub sub_sized : (f : Format) {x y : Float} {j k : ℕ} → j + k ≤ 2 ^ prec f → Sized x j → Sized y k → Sized (sub f x y) (j + k)
sub_sized f {j} {k} K u v = sub_reached (whole_reaches f (j + k) K) u v

pub mul_sized : (f : Format) {x y : Float} {j k : ℕ} → j * k ≤ 2 ^ prec f → Sized x j → Sized y k → Sized (mul f x y) (j * k)
mul_sized f {j} {k} K u v = mul_reached (whole_reaches f (j * k) K) u v

-- What lies between two floats, by a fraction.
abbrev pub between : Format → Float → Float → Float → Float
between f lower upper fraction = add f lower (mul f (sub f upper lower) fraction)

-- It is at most as far from the lower one as the fraction of both bounds.
pub between_sized : (f : Format) {lower upper fraction : Float} {j k : ℕ} → j + j ≤ 2 ^ prec f → j + (j + j) * k ≤ 2 ^ prec f
    → Sized lower j → Sized upper j → Sized fraction k → Sized (between f lower upper fraction) (j + (j + j) * k)
between_sized f J K l u p = add_sized f K l (mul_sized f (omega arith) (sub_sized f J u l) p)
