-- What a format holds, and where rounding to it changes nothing. Assumes nothing.
use Rattle.std.proofs.Common.{◌≡◌, ℕ, suc, ◌+◌, ◌-◌, ◌*◌, ◌%◌, ◌^◌, ◌<◌, ◌≤◌, Bool, ◌&&◌, T, eqb, ltb, leb, ℤ, pos, negsuc, sym, ap, ◌∙◌, suc-le-suc, le_of_eq, lt_of_lt_of_le, lt_of_le_of_lt, mul_assoc, mul_comm, lt_of_mul-lt-mul_right, mul-lt-mul_of_pos_right, lt_of_not-le, mul-one, mul_right_comm, not-le_of_lt, ltb→lt, leb→le, pow_pos, pow-add}
use lib.Pow.{pow-lt}
use lib.Ieee.{fin, Format, prec, emax, low, up, down, round, fits}
use lib.Ieee.Digits.{back}
use lib.Ieee.Exact.{HasValue, round_exact}
use lib.Ieee.Fits.{and_l, and_r}

pow_le : (k l : ℕ) → 2 ^ suc k ≤ 2 ^ l → suc k ≤ l
pow_le k l h = lt_of_not-le (λ (g : l ≤ k). not-le_of_lt (pow-lt (suc-le-suc g)) h)

-- a value other than zero that fits its format
pub record Held (f : Format) (m : ℕ) (e : ℤ) : Type 0 where
  pub few : m < 2 ^ prec f
  pub deep : down e ≤ 2 ^ low f
  pub under : m * up e < 2 ^ suc (emax f) * down e

pub held : (f : Format) (s : Bool) (m : ℕ) (e : ℤ) → T (fits f (fin s (suc m) e)) → Held f (suc m) e
unfolding fits
held f s m e h =
    let a = eqb (suc m % 2) 1 in
    let b = ltb (suc m) (2 ^ prec f) in
    let c = leb (down e) (2 ^ low f) in
    let d = ltb (suc m * up e) (2 ^ suc (emax f) * down e) in
    let abc : T (a && b && c) = and_l (a && b && c) d h in
    record {
      few = ltb→lt (suc m) (2 ^ prec f) (and_r a b (and_l (a && b) c abc));
      deep = leb→le (down e) (2 ^ low f) (and_r (a && b) c abc);
      under = ltb→lt (suc m * up e) (2 ^ suc (emax f) * down e) (and_r (a && b && c) d h);
    }

-- in units of the format's smallest value
pub deep_units : (f : Format) (q k : ℕ) → 2 ^ suc k ≤ 2 ^ low f → q * 2 ^ low f ≡ q * 2 ^ (low f - suc k) * 2 ^ suc k
deep_units f q k h =
    ap (λ (z : ℕ). q * 2 ^ z) (sym (back (low f) (suc k) (pow_le k (low f) h)))
    ∙ ap (λ (z : ℕ). q * z) (pow-add 2 (low f - suc k) (suc k))
    ∙ sym (mul_assoc q (2 ^ (low f - suc k)) (2 ^ suc k))

pub own_units : (f : Format) (m : ℕ) (e : ℤ) → Held f m e → (j : ℕ) × (m * up e * 2 ^ low f ≡ m * 2 ^ j * down e)
own_units f m (pos k) h = (k + low f, simp (pow-add, mul-one, mul_assoc))
own_units f m (negsuc k) h = (low f - suc k, ap (λ (z : ℕ). z * 2 ^ low f) (mul-one m) ∙ deep_units f m k h.deep)

-- a value of m's digits that is below the format's top is not changed by rounding: i / d is m * 2 ^ j units
pub exact : (f : Format) (s : Bool) (i d m j : ℕ) → 0 < d → m < 2 ^ prec f → i < 2 ^ suc (emax f) * d → i * 2 ^ low f ≡ m * 2 ^ j * d → HasValue (round f s i d) s i d
exact f s i d m j D few under e =
    round_exact f s i d m j D few
    (lt_of_mul-lt-mul_right d
    (lt_of_le_of_lt (le_of_eq (sym e)) (lt_of_lt_of_le (mul-lt-mul_of_pos_right under (pow_pos (low f)))
    (le_of_eq (mul_right_comm (2 ^ suc (emax f)) d (2 ^ low f) ∙ ap (λ (n : ℕ). n * d) (mul_comm (2 ^ suc (emax f)) (2 ^ low f) ∙ sym (pow-add 2 (low f) (suc (emax f)))))))))
    e
