-- A float between zero and a whole number: where it comes from (a clamp, a product, a quotient), the index that it truncates to, and the fraction that is left.
-- `Whole x k` says that x is the number k, and `Upto x k` that 0 <= x <= k, -0.0 included, so that x is neither a NaN nor an infinity.
-- Both speak of the value alone, in either format. The laws that a caller cites stand at the end. Assumes nothing.
use Rattle.std.proofs.Common.{◌≡◌, ℕ, zero, suc, ◌+◌, ◌-◌, ◌*◌, ◌/◌, ◌%◌, ◌^◌, ◌<◌, ◌≤◌, min, Bool, true, false, cond, not, ◌&&◌, ◌||◌, T, eqb, ltb, ◌⊎◌, ℤ, pos, negsuc, sym, refl, ap, ◌∙◌, subst, inl, inr, true≢false, le_trans, le_of_eq, lt_of_lt_of_le, le_of_suc-le-suc, lt_of_le_of_lt, le_of_lt, lt_irrefl, mul-le-mul_right, mod-lt, zero-lt-suc, mul_assoc, mul_comm, div-lt_iff_lt-mul, eq-zero-or-pos, mul-le-mul, le_antisymm, lt_of_mul-lt-mul_right, mul-lt-mul_of_pos_right, mul-pos, one-mul, le-div_iff_mul-le, zero-mul, mul-one, mul_right_comm, not-le_of_lt, div-mul-le_self, le_of_mul-le-mul_right, arith, lit<, lit≤, eqb→eq, ltb→lt, lt→ltb, pow_pos, ltb-false, ltb-true}
use native.Mathlib.Nat.{mul-mul-mul_comm}
use native.Mathlib.Nat.{div-le_of_le-mul, mod-le, mod-one, zero-mod, mod-eq-sub-div-mul, mul-sub}
use lib.Ieee.{Float, nan, inf, fin, Format, binary32, binary64, prec, emax, low, up, down, round, sub, mul, div, lt, le, of_int, of_bits, to_unsigned, fits, is_nan}
use lib.Ieee.Fits.{up_pos, down_pos, and_i, and_l, and_r, eq→eqb, mul-fits, div-fits}
use lib.Ieee.Exact.{HasValue, round_exact}
use lib.Ieee.Order.{le_of_values, round_mono}
use lib.Ieee.Scale.{finite, round_same}
use lib.Ieee.Back.{round_whole}
use Rattle.floats.specs.Floats.{clamp_of}
use Rattle.floats.proofs.Formats.{held, exact, deep_units}
use Rattle.floats.proofs.Laws.{uncapped}

abbrev pub Within : Float → ℕ → Type 0
Within nan k = ⊥
Within (inf s) k = ⊥
Within (fin true m e) k = m ≡ 0
Within (fin false m e) k = m * up e ≤ k * down e

-- ---- numbers
pub no_factor : (m u : ℕ) → 0 < u → m * u ≡ 0 → m ≡ 0
no_factor m u U h = elim (eq-zero-or-pos m) [ inl z ↦ z | inr p ↦ absurd (clash (m * u) (mul-pos p U) h) ]
  where
    clash : (a : ℕ) → 0 < a → a ≡ 0 → ⊥
    clash a p q = omega arith

or_split : (a b : Bool) → T (a || b) → T a ⊎ T b
or_split true b t = inl tt
or_split false b t = inr t

lt_or_eq : (a b : ℕ) → T (ltb a b || (eqb a b && true)) → a ≤ b
lt_or_eq a b t = elim (or_split (ltb a b) (eqb a b && true) t) [ inl u ↦ le_of_lt (ltb→lt a b u) | inr u ↦ le_of_eq (eqb→eq a b (and_l (eqb a b) true u)) ]

-- ---- what gives `Within`
within_more : (x : Float) (j k : ℕ) → j ≤ k → Within x j → Within x k
within_more nan j k h u = u
within_more (inf s) j k h u = u
within_more (fin true m e) j k h u = u
within_more (fin false m e) j k h u = le_trans u (mul-le-mul_right (down e) h)

value_within : (x : Float) (k : ℕ) → HasValue x false k 1 → Within x k
value_within nan k h = h
value_within (inf s) k h = h
value_within (fin true m e) k h = absurd (true≢false h.0)
value_within (fin false m e) k h = le_of_eq (sym (mul-one (m * up e)) ∙ h.1)

-- z is a zero, and y is k
pub le_within : (z x y : Float) (k : ℕ) → HasValue z false 0 1 → HasValue y false k 1 → T (le z x) → T (le x y) → Within x k
unfolding le
le_within nan x y k hz hy a b = absurd hz
le_within (inf s) x y k hz hy a b = absurd hz
le_within (fin true l g) x y k hz hy a b = absurd (true≢false hz.0)
le_within (fin false l g) nan y k hz hy a b = absurd a
le_within (fin false l g) (inf true) y k hz hy a b = absurd a
le_within (fin false l g) (inf false) nan k hz hy a b = absurd b
le_within (fin false l g) (inf false) (inf t) k hz hy a b = absurd hy
le_within (fin false l g) (inf false) (fin t n d) k hz hy a b = absurd b
le_within (fin false l g) (fin true m e) y k hz hy a b =
    let same : l * up g * down e ≡ m * up e * down g = eqb→eq (l * up g * down e) (m * up e * down g) (and_l (eqb (l * up g * down e) (m * up e * down g)) (eqb (l * up g * down e) 0) a) in
    let none : l * up g * down e ≡ 0 = eqb→eq (l * up g * down e) 0 (and_r (eqb (l * up g * down e) (m * up e * down g)) (eqb (l * up g * down e) 0) a) in
    no_factor m (up e) (up_pos e) (no_factor (m * up e) (down g) (down_pos g) (sym same ∙ none))
le_within (fin false l g) (fin false m e) nan k hz hy a b = absurd b
le_within (fin false l g) (fin false m e) (inf t) k hz hy a b = absurd hy
le_within (fin false l g) (fin false m e) (fin true n d) k hz hy a b = absurd (true≢false hy.0)
le_within (fin false l g) (fin false m e) (fin false n d) k hz hy a b =
    let c : m * up e * down d ≤ n * up d * down e = lt_or_eq (m * up e * down d) (n * up d * down e) b in
    le_of_mul-le-mul_right (le_trans c (le_of_eq (ap (λ (z : ℕ). z * down e) (sym (mul-one (n * up d)) ∙ hy.1) ∙ mul_right_comm k (down d) (down e)))) (down_pos d)

-- ---- rounding
one_pos : 0 < 1
one_pos = zero-lt-suc 0

pub round_within : (f : Format) (a c k : ℕ) → 0 < c → k ≤ 2 ^ prec f → a ≤ k * c → Within (round f false a c) k
round_within f a c k C K h =
    le_within (round f false 0 1) (round f false a c) (round f false k 1) k
    (round_whole f false 0 (le_of_lt (pow_pos (prec f)))) (round_whole f false k K)
    (round_mono f 0 1 a c one_pos C (subst (λ (z : ℕ). z ≤ a * 1) (sym (zero-mul c)) (omega arith)))
    (round_mono f a c k 1 C one_pos (le_trans (le_of_eq (mul-one a)) h))

zero_within : (x : Float) (c k : ℕ) → 0 < c → HasValue x true 0 c → Within x k
zero_within nan c k C h = h
zero_within (inf s) c k C h = h
zero_within (fin true m e) c k C h = no_factor m (up e) (up_pos e) (no_factor (m * up e) c C (h.1 ∙ zero-mul (down e)))
zero_within (fin false m e) c k C h = absurd (true≢false (sym h.0))

pub round_zero : (f : Format) (s : Bool) (a c : ℕ) → 0 < c → a ≡ 0 → HasValue (round f s a c) s 0 c
round_zero f s a c C h =
    subst (λ (z : ℕ). HasValue (round f s z c) s 0 c) (sym h)
    (round_exact f s 0 c 0 0 C (pow_pos (prec f)) (pow_pos (low f + suc (emax f))) (zero-mul (2 ^ low f) ∙ sym (zero-mul c)))

-- ---- a product, and a quotient
mul_within : (f : Format) (x y : Float) (j k : ℕ) → j * k ≤ 2 ^ prec f → HasValue y false k 1 → Within x j → Within (mul f x y) (j * k)
unfolding mul
mul_within f nan y j k K h u = u
mul_within f (inf s) y j k K h u = absurd u
mul_within f (fin s m e) nan j k K h u = absurd h
mul_within f (fin s m e) (inf t) j k K h u = absurd h
mul_within f (fin s m e) (fin true n d) j k K h u = absurd (true≢false h.0)
mul_within f (fin true m e) (fin false n d) j k K h u =
    let c = down e * down d in
    let C : 0 < c = mul-pos (down_pos e) (down_pos d) in
    zero_within (round f true (m * up e * (n * up d)) c) c (j * k) C
    (round_zero f true (m * up e * (n * up d)) c C (ap (λ (z : ℕ). z * up e * (n * up d)) u ∙ ap (λ (z : ℕ). z * (n * up d)) (zero-mul (up e)) ∙ zero-mul (n * up d)))
mul_within f (fin false m e) (fin false n d) j k K h u =
    round_within f (m * up e * (n * up d)) (down e * down d) (j * k) (mul-pos (down_pos e) (down_pos d)) K
    (le_trans (mul-le-mul u (le_of_eq (sym (mul-one (n * up d)) ∙ h.1))) (le_of_eq (mul-mul-mul_comm j (down e) k (down d))))

divisor_pos : (n : ℕ) (d e : ℤ) (k : ℕ) → 0 < k → n * up d * 1 ≡ k * down d → 0 < n * up d * down e
divisor_pos n d e k K h = mul-pos (subst (λ (z : ℕ). 0 < z) (sym h ∙ mul-one (n * up d)) (mul-pos K (down_pos d))) (down_pos e)

-- a divisor k above 0 is not written with an n that is 0
pick : (b : Bool) (x y : Float) (n : ℕ) (d e : ℤ) (j k : ℕ) → (T b → n ≡ 0) → 0 < k → n * up d * 1 ≡ k * down d → Within y j → Within (cond b x y) j
pick false x y n d e j k z K h u = u
pick true x y n d e j k z K h u =
    absurd (lt_irrefl 0 (subst (λ (a : ℕ). 0 < a) (ap (λ (a : ℕ). a * up d * down e) (z tt) ∙ ap (λ (a : ℕ). a * down e) (zero-mul (up d)) ∙ zero-mul (down e))
    (divisor_pos n d e k K h)))

div_within : (f : Format) (x y : Float) (j k : ℕ) → j ≤ 2 ^ prec f → 0 < k → HasValue y false k 1 → Within x (j * k) → Within (div f x y) j
unfolding div
div_within f nan y j k J K h u = u
div_within f (inf s) y j k J K h u = absurd u
div_within f (fin s m e) nan j k J K h u = absurd h
div_within f (fin s m e) (inf t) j k J K h u = absurd h
div_within f (fin s m e) (fin true n d) j k J K h u = absurd (true≢false h.0)
div_within f (fin true m e) (fin false n d) j k J K h u =
    let c = n * up d * down e in
    let C : 0 < c = divisor_pos n d e k K h.1 in
    pick (eqb n 0) (cond (eqb m 0) nan (inf true)) (round f true (m * up e * down d) c) n d e j k (eqb→eq n 0) K h.1
    (zero_within (round f true (m * up e * down d) c) c j C
    (round_zero f true (m * up e * down d) c C (ap (λ (z : ℕ). z * up e * down d) u ∙ ap (λ (z : ℕ). z * down d) (zero-mul (up e)) ∙ zero-mul (down d))))
div_within f (fin false m e) (fin false n d) j k J K h u =
    let c = n * up d * down e in
    let v : n * up d ≡ k * down d = sym (mul-one (n * up d)) ∙ h.1 in
    pick (eqb n 0) (cond (eqb m 0) nan (inf false)) (round f false (m * up e * down d) c) n d e j k (eqb→eq n 0) K h.1
    (round_within f (m * up e * down d) c j (divisor_pos n d e k K h.1) J
    (le_trans (mul-le-mul_right (down d) u)
    (le_of_eq (mul_right_comm (j * k) (down e) (down d) ∙ ap (λ (z : ℕ). z * down e) (mul_assoc j k (down d) ∙ ap (λ (z : ℕ). j * z) (sym v)) ∙ mul_assoc j (n * up d) (down e)))))

-- ---- the index
capped : (a b k : ℕ) → a ≤ k → min a b ≤ k
capped a b k h = omega arith

within_index : (w : ℕ) (x : Float) (k : ℕ) → Within x k → to_unsigned w x ≤ k
unfolding to_unsigned
within_index w nan k u = absurd u
within_index w (inf s) k u = absurd u
within_index w (fin true m e) k u = omega arith
within_index w (fin false m e) k u = capped (m * up e / down e) (2 ^ w - 1) k (div-le_of_le-mul (down e) (le_trans u (le_of_eq (mul_comm k (down e)))))

-- ---- the index, by a test against a whole number
below_index : (x y : Float) (k : ℕ) → HasValue y false (suc k) 1 → lt x y ≡ true → to_unsigned 64 x ≤ k
unfolding to_unsigned lt
below_index nan y k v h = omega arith
below_index (inf true) y k v h = omega arith
below_index (fin true m e) y k v h = omega arith
below_index (inf false) nan k v h = absurd v
below_index (inf false) (inf s) k v h = absurd v
below_index (inf false) (fin s n d) k v h = absurd (true≢false (sym h))
below_index (fin false m e) nan k v h = absurd v
below_index (fin false m e) (inf s) k v h = absurd v
below_index (fin false m e) (fin true n d) k v h = absurd (true≢false v.0)
below_index (fin false m e) (fin false n d) k v h =
    let c : m * up e * down d < suc k * down e * down d =
    lt_of_lt_of_le (ltb-true (m * up e * down d) (n * up d * down e) h) (le_of_eq (ap (λ (z : ℕ). z * down e) (sym (mul-one (n * up d)) ∙ v.1) ∙ mul_right_comm (suc k) (down d) (down e))) in
    capped (m * up e / down e) (2 ^ 64 - 1) k (le_of_suc-le-suc ((div-lt_iff_lt-mul (down_pos e)).1 (lt_of_mul-lt-mul_right (down d) c)))

from_index : (y x : Float) (k : ℕ) → HasValue y false k 1 → k < 2 ^ 64 → T (le y x) → k ≤ to_unsigned 64 x
unfolding to_unsigned le
from_index nan x k v w h = absurd v
from_index (inf s) x k v w h = absurd v
from_index (fin true l g) x k v w h = absurd (true≢false v.0)
from_index (fin false l g) nan k v w h = absurd h
from_index (fin false l g) (inf true) k v w h = absurd h
from_index (fin false l g) (inf false) k v w h = omega arith
from_index (fin false l g) (fin true m e) k v w h =
    let none : l * up g * down e ≡ 0 = eqb→eq (l * up g * down e) 0 (and_r (eqb (l * up g * down e) (m * up e * down g)) (eqb (l * up g * down e) 0) h) in
    le_of_eq (no_factor k (down g) (down_pos g) (sym v.1 ∙ mul-one (l * up g) ∙ no_factor (l * up g) (down e) (down_pos e) none))
from_index (fin false l g) (fin false m e) k v w h =
    let c : k * down e * down g ≤ m * up e * down g =
    le_trans (le_of_eq (mul_right_comm k (down e) (down g) ∙ ap (λ (z : ℕ). z * down e) (sym v.1 ∙ mul-one (l * up g)))) (lt_or_eq (l * up g * down e) (m * up e * down g) h) in
    let q : k ≤ m * up e / down e = (le-div_iff_mul-le (down_pos e)).1 (le_of_mul-le-mul_right c (down_pos g)) in
    omega arith

-- ---- Rust's clamp
-- x is what is clamped, and neither test moves it
tests_within : (lo hi x : Float) (k : ℕ) → HasValue lo false 0 1 → HasValue hi false k 1 → T (not (is_nan x)) → lt x lo ≡ false → lt hi x ≡ false → Within x k
unfolding lt is_nan
tests_within nan hi x k hl hh n a b = absurd hl
tests_within (inf s) hi x k hl hh n a b = absurd hl
tests_within (fin true l g) hi x k hl hh n a b = absurd (true≢false hl.0)
tests_within (fin false l g) nan x k hl hh n a b = absurd hh
tests_within (fin false l g) (inf s) x k hl hh n a b = absurd hh
tests_within (fin false l g) (fin true i d) x k hl hh n a b = absurd (true≢false hh.0)
tests_within (fin false l g) (fin false i d) nan k hl hh n a b = n
tests_within (fin false l g) (fin false i d) (inf true) k hl hh n a b = true≢false a
tests_within (fin false l g) (fin false i d) (inf false) k hl hh n a b = true≢false b
tests_within (fin false l g) (fin false i d) (fin true m e) k hl hh n a b =
    no_factor m (up e) (up_pos e) (no_factor (m * up e) (down g) (down_pos g) (omega (arith, ltb-false 0 (m * up e * down g + l * up g * down e) a)))
tests_within (fin false l g) (fin false i d) (fin false m e) k hl hh n a b =
    le_of_mul-le-mul_right
    (le_trans (ltb-false (i * up d * down e) (m * up e * down d) b) (le_of_eq (ap (λ (z : ℕ). z * down e) (sym (mul-one (i * up d)) ∙ hh.1) ∙ mul_right_comm k (down d) (down e)))) (down_pos d)

clamp_within : (lo hi x : Float) (k : ℕ) → HasValue lo false 0 1 → HasValue hi false k 1 → T (not (is_nan x)) → Within (clamp_of x lo hi) k
clamp_within lo hi x k hl hh n = go (lt x lo) (lt hi x) refl refl
  where
    go : (a b : Bool) → lt x lo ≡ a → lt hi x ≡ b → Within (cond a lo (cond b hi x)) k
    go true b p q = within_more lo 0 k (omega arith) (value_within lo 0 hl)
    go false true p q = value_within hi k hh
    go false false p q = tests_within lo hi x k hl hh n p q

-- ---- the fraction
-- above the whole number below it x has a % d of its d parts
rest_value : (f : Format) (m : ℕ) (e : ℤ) → T (fits f (fin false m e)) → HasValue (round f false (m * up e % down e) (down e)) false (m * up e % down e) (down e)
rest_value f m (pos k) t =
    subst (λ (z : ℕ). HasValue (round f false z 1) false z 1) (sym (mod-one (m * 2 ^ k))) (round_zero f false 0 1 one_pos refl)
rest_value f zero (negsuc k) t =
    let d = 2 ^ suc k in
    subst (λ (z : ℕ). HasValue (round f false z d) false z d) (sym (ap (λ (z : ℕ). z % d) (zero-mul 1) ∙ zero-mod d)) (round_zero f false 0 d (pow_pos (suc k)) refl)
rest_value f (suc m) (negsuc k) t =
    let h = held f false m (negsuc k) t in
    let d = 2 ^ suc k in
    let q = suc m * 1 % d in
    exact f false q d q (low f - suc k) (pow_pos (suc k))
    (lt_of_le_of_lt (le_trans (mod-le (suc m * 1) d) (le_of_eq (mul-one (suc m)))) h.few)
    (lt_of_lt_of_le (mod-lt (suc m * 1) (pow_pos (suc k))) (le_trans (le_of_eq (sym (one-mul d))) (mul-le-mul_right d (pow_pos (suc (emax f))))))
    (deep_units f q k h.deep)

-- x less a whole number l that is no larger
sub_whole : (f : Format) (m : ℕ) (e : ℤ) (y : Float) (l : ℕ) → HasValue y false l 1 → l * down e ≤ m * up e → sub f (fin false m e) y ≡ round f false (m * up e - l * down e) (down e)
unfolding sub
sub_whole f m e nan l h g = absurd h
sub_whole f m e (inf s) l h g = absurd h
sub_whole f m e (fin true n d) l h g = absurd (true≢false h.0)
sub_whole f m e (fin false n d) l h g =
    let M = m * up e in
    let D = down e in
    let E = down d in
    let v : n * up d * D ≡ l * D * E = ap (λ (z : ℕ). z * D) (sym (mul-one (n * up d)) ∙ h.1) ∙ mul_right_comm l E D in
    let w : M * E - n * up d * D ≡ (M - l * D) * E =
    ap (λ (z : ℕ). M * E - z) v ∙ sym (mul_comm (M - l * D) E ∙ mul-sub E M (l * D) ∙ ap (λ (z : ℕ). z - E * (l * D)) (mul_comm E M) ∙ ap (λ (z : ℕ). M * E - z) (mul_comm E (l * D))) in
    go (ltb (M * E) (n * up d * D)) (ltb→lt (M * E) (n * up d * D)) (le_trans (le_of_eq v) (mul-le-mul_right E g)) (round f true (n * up d * D - M * E) (D * E))
    ∙ round_same f false (M * E - n * up d * D) (D * E) (M - l * D) D (mul-pos (down_pos e) (down_pos d)) (down_pos e)
    (ap (λ (z : ℕ). z * D) w ∙ mul_assoc (M - l * D) E D ∙ ap (λ (z : ℕ). (M - l * D) * z) (mul_comm E D))
  where
    go : (b : Bool) → (T b → m * up e * down d < n * up d * down e) → n * up d * down e ≤ m * up e * down d → (x : Float)
        → cond b x (round f false (m * up e * down d - n * up d * down e) (down e * down d)) ≡ round f false (m * up e * down d - n * up d * down e) (down e * down d)
    go true k i x = absurd (not-le_of_lt (k tt) i)
    go false k i x = refl

-- 0 and 1, as both formats write them
abbrev pub zero_f : Float
zero_f = fin false 0 (pos 0)

abbrev pub one_f : Float
one_f = fin false 1 (pos 0)

-- 0 <= x < 1, -0.0 included
pub record Fraction (x : Float) : Type 0 where
  pub real : T (finite x)
  pub low : T (le zero_f x)
  pub high : T (lt x one_f)
  pub within : Within x 1

positive_fraction : (x : Float) (a c : ℕ) → 0 < c → a < c → HasValue x false a c → Fraction x
unfolding lt
positive_fraction nan a c C h v = absurd v
positive_fraction (inf s) a c C h v = absurd v
positive_fraction (fin true m e) a c C h v = absurd (true≢false v.0)
positive_fraction (fin false m e) a c C h v =
    let less : m * up e < down e = lt_of_mul-lt-mul_right c (lt_of_le_of_lt (le_of_eq v.1) (lt_of_lt_of_le (mul-lt-mul_of_pos_right h (down_pos e)) (le_of_eq (mul_comm c (down e))))) in
    record {
      real = tt;
      low = le_of_values zero_f (fin false m e) 0 1 a c one_pos C (refl, refl) v (le_trans (le_of_eq (zero-mul c)) (omega arith));
      high = lt→ltb (m * up e * 1) (1 * down e) (omega arith);
      within = omega arith;
    }

zero_fraction : (x : Float) (c : ℕ) → 0 < c → HasValue x true 0 c → Fraction x
unfolding lt le
zero_fraction nan c C v = absurd v
zero_fraction (inf s) c C v = absurd v
zero_fraction (fin false m e) c C v = absurd (true≢false (sym v.0))
zero_fraction (fin true m e) c C v =
    let none : m * up e ≡ 0 = no_factor (m * up e) c C (v.1 ∙ zero-mul (down e)) in
    let level : 0 * down e ≡ m * up e * 1 = omega (arith, zero-mul (down e)) in
    record {
      real = tt;
      low = and_i (eqb (0 * down e) (m * up e * 1)) (eqb (0 * down e) 0) (eq→eqb level) (eq→eqb (zero-mul (down e)));
      high = lt→ltb 0 (m * up e * 1 + 1 * down e) (omega (arith, down_pos e));
      within = no_factor m (up e) (up_pos e) none;
    }

-- x less the whole number that it truncates to
neg_rest : (f : Format) (m : ℕ) (e : ℤ) (y : Float) → m ≡ 0 → HasValue y false 0 1 → Fraction (sub f (fin true m e) y)
unfolding sub
neg_rest f m e nan z h = absurd h
neg_rest f m e (inf s) z h = absurd h
neg_rest f m e (fin true n d) z h = absurd (true≢false h.0)
neg_rest f m e (fin false n d) z h =
    let c = down e * down d in
    let C : 0 < c = mul-pos (down_pos e) (down_pos d) in
    let x : m * up e * down d ≡ 0 = ap (λ (i : ℕ). i * up e * down d) z ∙ ap (λ (i : ℕ). i * down d) (zero-mul (up e)) ∙ zero-mul (down d) in
    let y : n * up d * down e ≡ 0 = ap (λ (i : ℕ). i * down e) (sym (mul-one (n * up d)) ∙ h.1 ∙ zero-mul (down d)) ∙ zero-mul (down e) in
    zero_fraction (round f true (m * up e * down d + n * up d * down e) c) c C (round_zero f true (m * up e * down d + n * up d * down e) c C (omega arith))

fewer_64 : (f : Format) → 2 ^ prec f < 2 ^ 64
fewer_64 binary32 = lit< tt
fewer_64 binary64 = lit< tt

within_fraction : (f : Format) (x : Float) (k : ℕ) → k ≤ 2 ^ prec f → T (fits f x) → Within x k → Fraction (sub f x (of_int f (pos (to_unsigned 64 x))))
unfolding to_unsigned of_int
within_fraction f nan k K t u = absurd u
within_fraction f (inf s) k K t u = absurd u
within_fraction f (fin true m e) k K t u = neg_rest f m e (round f false 0 1) u (round_whole f false 0 (le_of_lt (pow_pos (prec f))))
within_fraction f (fin false m e) k K t u =
    let l = m * up e / down e in
    let L : l ≤ k = div-le_of_le-mul (down e) (le_trans u (le_of_eq (mul_comm k (down e)))) in
    let same : min l (2 ^ 64 - 1) ≡ l = uncapped l (2 ^ 64) (lt_of_le_of_lt (le_trans L K) (fewer_64 f)) in
    subst (λ (z : ℕ). Fraction (sub f (fin false m e) (round f false z 1))) (sym same)
    (subst Fraction
    (sym (sub_whole f m e (round f false l 1) l (round_whole f false l (le_trans L K)) (div-mul-le_self (m * up e) (down e))
    ∙ ap (λ (z : ℕ). round f false z (down e)) (sym (mod-eq-sub-div-mul (m * up e) (down e)))))
    (positive_fraction (round f false (m * up e % down e) (down e)) (m * up e % down e) (down e) (down_pos e) (mod-lt (m * up e) (down_pos e)) (rest_value f m e t)))

-- ---- the laws
pub record Whole (x : Float) (k : ℕ) : Type 0 where
  pub value : HasValue x false k 1

pub record Upto (x : Float) (k : ℕ) : Type 0 where
  pub within : Within x k

pub of_int-whole : (f : Format) (k : ℕ) → k ≤ 2 ^ prec f → Whole (of_int f (pos k)) k
unfolding of_int
of_int-whole f k K = record { value = round_whole f false k K }

pub whole_upto : {x : Float} {k : ℕ} → Whole x k → Upto x k
whole_upto {x} {k} h = record { within = value_within x k h.value }

pub upto_more : {x : Float} {j k : ℕ} → j ≤ k → Upto x j → Upto x k
upto_more {x} {j} {k} h u = record { within = within_more x j k h u.within }

-- a whole number that is at most k
pub of_int_upto : (f : Format) {n k : ℕ} → n ≤ k → k ≤ 2 ^ prec f → Upto (of_int f (pos n)) k
of_int_upto f {n} h K = upto_more h (whole_upto (of_int-whole f n (le_trans h K)))

-- r is x.clamp(lo, hi)
pub clamp_upto : {lo hi r : Float} {k : ℕ} (x : Float) → Whole lo 0 → Whole hi k → T (not (is_nan x)) → r ≡ clamp_of x lo hi → Upto r k
clamp_upto {lo} {hi} {r} {k} x a b h e = record { within = subst (λ (z : Float). Within z k) (sym e) (clamp_within lo hi x k a.value b.value h) }

pub mul_upto : (f : Format) {x y : Float} {j k : ℕ} → j * k ≤ 2 ^ prec f → Upto x j → Whole y k → Upto (mul f x y) (j * k)
mul_upto f {x} {y} {j} {k} K u h = record { within = mul_within f x y j k K h.value u.within }

pub div_upto : (f : Format) {x y : Float} {j k : ℕ} → j ≤ 2 ^ prec f → 0 < k → Upto x (j * k) → Whole y k → Upto (div f x y) j
div_upto f {x} {y} {j} {k} J K u h = record { within = div_within f x y j k J K h.value u.within }

-- i is x truncated
pub upto_index : {x : Float} {k i : ℕ} → Upto x k → i ≡ to_unsigned 64 x → i ≤ k
upto_index {x} {k} u e = le_trans (le_of_eq e) (within_index 64 x k u.within)

-- The law of the guessed index: a float that is below the whole number k + 1 truncates to k at most, one that is no less than k to k at least, and one between them to k.
pub index_below : {y : Float} {k : ℕ} (x : Float) → Whole y (suc k) → lt x y ≡ true → to_unsigned 64 x ≤ k
index_below {y} {k} x b h = below_index x y k b.value h

pub index_from : {y : Float} {k : ℕ} (x : Float) → Whole y k → k < 2 ^ 64 → le y x ≡ true → k ≤ to_unsigned 64 x
index_from {y} {k} x a w h = from_index y x k a.value w (subst T (sym h) tt)

pub index_between : {y z : Float} {k : ℕ} (x : Float) → Whole y k → Whole z (suc k) → k < 2 ^ 64 → le y x ≡ true → lt x z ≡ true → k ≡ to_unsigned 64 x
index_between x a b w g h = le_antisymm (index_from x a w g) (index_below x b h)

-- every operation's result fits its format: `mul-fits`, `div-fits` of lib.Ieee.Fits
pub upto_fraction : (f : Format) {x : Float} {k i : ℕ} → Upto x k → k ≤ 2 ^ prec f → T (fits f x) → i ≡ to_unsigned 64 x → Fraction (sub f x (of_int f (pos i)))
upto_fraction f {x} {k} u K t e = subst (λ (i : ℕ). Fraction (sub f x (of_int f (pos i)))) (sym e) (within_fraction f x k K t u.within)

-- x is at most j: times k and divided by j again it is at most k
pub scaled_upto : (f : Format) {x n y : Float} {j k : ℕ} → 0 < j → j * k ≤ 2 ^ prec f → Upto x j → Whole n k → Whole y j → Upto (div f (mul f x n) y) k
scaled_upto f {x} {n} {y} {j} {k} J K u d e =
    div_upto f (le_trans (le_trans (le_of_eq (sym (one-mul k))) (mul-le-mul_right k J)) K) J (subst (Upto (mul f x n)) (mul_comm j k) (mul_upto f K u d)) e

-- a NaN is clamped to itself, and truncates to 0
nan_clamped : (lo hi : Float) (k : ℕ) → Whole hi k → clamp_of nan lo hi ≡ nan
unfolding lt
nan_clamped lo nan k b = absurd b.value
nan_clamped lo (inf s) k b = absurd b.value
nan_clamped lo (fin s m e) k b = refl

-- ---- an index into a table of k + 1 entries: k times a value that is clamped to 0 ..= 1, and the fraction beside it
module _ (f : Format) {lo hi n : Float} {k : ℕ} (K : k ≤ 2 ^ prec f) (a : Whole lo 0) (b : Whole hi 1) (d : Whole n k) where
  position_upto : (x : Float) → T (not (is_nan x)) → Upto (mul f (clamp_of x lo hi) n) k
  position_upto x h = subst (Upto (mul f (clamp_of x lo hi) n)) (one-mul k) (mul_upto f (le_trans (le_of_eq (one-mul k)) K) (clamp_upto x a b h refl) d)

  pub index_law : (x : Float) → to_unsigned 64 (mul f (clamp_of x lo hi) n) ≤ k
  unfolding is_nan mul to_unsigned
  index_law nan = rw (nan_clamped lo hi 1 b) (omega arith)
  index_law (inf s) = upto_index (position_upto (inf s) tt) refl
  index_law (fin s m e) = upto_index (position_upto (fin s m e) tt) refl

  pub fraction_law : (x : Float) → T (not (is_nan x)) → Fraction (sub f (mul f (clamp_of x lo hi) n) (of_int f (pos (to_unsigned 64 (mul f (clamp_of x lo hi) n)))))
  fraction_law x h = upto_fraction f (position_upto x h) K (mul-fits f (clamp_of x lo hi) n) refl

-- ---- the same of a value that is clamped to 0 ..= j, times k, divided by j
module _ (f : Format) {lo hi n y : Float} {j k : ℕ} (J : 0 < j) (K : j * k ≤ 2 ^ prec f) (a : Whole lo 0) (b : Whole hi j) (d : Whole n k) (e : Whole y j) where
  pub load_index_law : (x : Float) → to_unsigned 64 (div f (mul f (clamp_of x lo hi) n) y) ≤ k
  unfolding is_nan mul div to_unsigned
  load_index_law nan = rw (nan_clamped lo hi j b) (omega arith)
  load_index_law (inf s) = upto_index (scaled_upto f J K (clamp_upto (inf s) a b tt refl) d e) refl
  load_index_law (fin s m g) = upto_index (scaled_upto f J K (clamp_upto (fin s m g) a b tt refl) d e) refl

  pub load_fraction_law : (x : Float) → T (not (is_nan x)) → Fraction (sub f (div f (mul f (clamp_of x lo hi) n) y) (of_int f (pos (to_unsigned 64 (div f (mul f (clamp_of x lo hi) n) y)))))
  load_fraction_law x h =
      upto_fraction f (scaled_upto f J K (clamp_upto x a b h refl) d e) (le_trans (le_trans (le_of_eq (sym (one-mul k))) (mul-le-mul_right k J)) K) (div-fits f (mul f (clamp_of x lo hi) n) y) refl

-- ---- the same of a whole number c that is at most j
module _ (f : Format) {n y : Float} {j k : ℕ} (J : 0 < j) (L : j ≤ 2 ^ prec f) (K : j * k ≤ 2 ^ prec f) (d : Whole n k) (e : Whole y j) (c : ℕ) (h : c ≤ j) where
  count_upto : Upto (div f (mul f (of_int f (pos c)) n) y) k
  count_upto = scaled_upto f J K (of_int_upto f h L) d e

  pub count_index_law : to_unsigned 64 (div f (mul f (of_int f (pos c)) n) y) ≤ k
  count_index_law = upto_index count_upto refl

  pub count_fraction_law : Fraction (sub f (div f (mul f (of_int f (pos c)) n) y) (of_int f (pos (to_unsigned 64 (div f (mul f (of_int f (pos c)) n) y)))))
  count_fraction_law = upto_fraction f count_upto (le_trans (le_trans (le_of_eq (sym (one-mul k))) (mul-le-mul_right k J)) K) (div-fits f (mul f (of_int f (pos c)) n) y) refl

-- ---- at the tables of the filter: 15 bins, 2,047 curve places, 144 loads for 0 ..= 9, and 31 loading entries for 0 ..= 2,047
literal : (x : Float) (k : ℕ) → HasValue x false k 1 → Whole x k
literal x k v = record { value = v }

pub zero32 : Whole (of_bits binary32 0x0000_0000) 0
unfolding of_bits
zero32 = literal _ 0 (refl, refl)

pub one32 : Whole (of_bits binary32 0x3f80_0000) 1
unfolding of_bits
one32 = literal _ 1 (refl, refl)

pub bin_index : (x : Float) → to_unsigned 64 (mul binary32 (clamp_of x (of_bits binary32 0) (of_bits binary32 0x3f80_0000)) (of_bits binary32 0x4170_0000)) ≤ 15
unfolding of_bits
bin_index = index_law binary32 (lit≤ tt) zero32 one32 (literal (of_bits binary32 0x4170_0000) 15 (refl, refl))

pub curve_index : (x : Float) → to_unsigned 64 (mul binary32 (clamp_of x (of_bits binary32 0) (of_bits binary32 0x3f80_0000)) (of_bits binary32 0x44ff_e000)) ≤ 2047
unfolding of_bits
curve_index = index_law binary32 (lit≤ tt) zero32 one32 (literal (of_bits binary32 0x44ff_e000) 2047 (refl, refl))

pub curve_fraction : (x : Float) → T (not (is_nan x)) → let p = mul binary32 (clamp_of x (of_bits binary32 0) (of_bits binary32 0x3f80_0000)) (of_bits binary32 0x44ff_e000) in
    Fraction (sub binary32 p (of_int binary32 (pos (to_unsigned 64 p))))
unfolding of_bits
curve_fraction = fraction_law binary32 (lit≤ tt) zero32 one32 (literal (of_bits binary32 0x44ff_e000) 2047 (refl, refl))

pub load_index : (x : Float)
    → to_unsigned 64 (div binary32 (mul binary32 (clamp_of x (of_bits binary32 0) (of_bits binary32 0x4110_0000)) (of_bits binary32 0x4310_0000)) (of_bits binary32 0x4110_0000)) ≤ 144
unfolding of_bits
load_index =
    let nine = literal (of_bits binary32 0x4110_0000) 9 (refl, refl) in
    load_index_law binary32 (lit< tt) (lit≤ tt) zero32 nine (literal (of_bits binary32 0x4310_0000) 144 (refl, refl)) nine

pub loading_index : (c : ℕ) → c ≤ 2047 → to_unsigned 64 (div binary32 (mul binary32 (of_int binary32 (pos c)) (of_bits binary32 0x41f8_0000)) (of_bits binary32 0x44ff_e000)) ≤ 31
unfolding of_bits
loading_index =
    count_index_law binary32 (lit< tt) (lit≤ tt) (lit≤ tt) (literal (of_bits binary32 0x41f8_0000) 31 (refl, refl)) (literal (of_bits binary32 0x44ff_e000) 2047 (refl, refl))
