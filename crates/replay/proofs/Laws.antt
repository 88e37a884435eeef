-- Laws of records and of the words in them. Assumes nothing.
use Prim.Native.Nat.{ℕ, zero, suc, ◌+◌, ◌*◌, ◌/◌, ◌≤◌, ◌<◌}
use mathlib.Core.Path.{◌≡◌, subst}
use native.Mathlib.Omega.{arith}
use native.Mathlib.Nat.{mul_comm, suc-mul, le-div_iff_mul-le}
use borrow.Author.Tests.{ne_eqb}
use Rattle.replay.specs.Records.{record_count_of}

-- ---- a record among others

-- it lies whole in the bytes
pub inside : (n w i k : ℕ) → k ≡ record_count_of n w → i < k → 4 * (w * i) + 4 * w ≤ n
unfolding record_count_of
inside n w i k e h = go w (subst (λ (m : ℕ). i < m) e h)
  where
    whole : (v m : ℕ) → m + v ≤ n / 4 → 4 * m + 4 * v ≤ n
    whole v m l = omega (arith, l)

    rows : (v : ℕ) → suc i * v ≤ n / 4 → v * i + v ≤ n / 4
    rows v l = subst (λ (m : ℕ). m + v ≤ n / 4) (mul_comm i v) (rw suc-mul at l)

    go : (v : ℕ) → i < record_count_of n v → 4 * (v * i) + 4 * v ≤ n
    go zero l = absurd (omega (arith, l))
    go (suc v) l = whole (suc v) (suc v * i) (rows (suc v) ((le-div_iff_mul-le {k = suc v} {x = suc i} {y = n / 4} (omega arith)).0 (rw (ne_eqb (suc v) 0 (λ z. omega arith)) at l)))
