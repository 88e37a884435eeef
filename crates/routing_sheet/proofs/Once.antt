-- Every pair of nibbles stands on the sheet just one time, and no other pair does. The totals cannot show this: 0, 1 and 0, 2 have the same counts, so
-- that one of them twice and the other left out has the same totals (`alike`). Assumes nothing.
use Prim.Native.Nat.{ℕ, zero, suc, ◌+◌, ◌*◌, ◌≤◌, ◌<◌}
use mathlib.Core.Path.{◌≡◌, refl, ◌∙◌}
use mathlib.Core.Logic.{⊎_elim}
use mathlib.Core.Bool.{Bool, true, false, ◌&&◌, and-false}
use native.Mathlib.Omega.{arith}
use lib.Dec.{eqb, ltb}
use borrow.Author.Tests.{eqb-true, lt-ltb, le-ltb, eq-eqb, ne_eqb}
use Rattle.wire.proofs.Laws.{le_or_lt}
use Rattle.mixing.specs.Topology.{one, bypass_count_of, output_count_of, mixer_count_of}
use Rattle.routing_sheet.specs.Sheet.{pair_at, first_pairs, all_pairs, sum_over, times_in}
use Rattle.routing_sheet.proofs.Laws.{sum_next}

pub alike : (bypass_count_of 0 1 ≡ bypass_count_of 0 2) × (output_count_of 1 ≡ output_count_of 2) × (mixer_count_of 0 1 ≡ mixer_count_of 0 2)
unfolding bypass_count_of output_count_of mixer_count_of
alike = (refl, refl, refl)

-- pair k is r, m
abbrev is_pair : ℕ → ℕ → ℕ → Bool
is_pair r m k = eqb (pair_at k).0 r && eqb (pair_at k).1 m

times_next : (r m k : ℕ) → times_in r m (first_pairs (suc k)) ≡ times_in r m (first_pairs k) + one (is_pair r m k)
unfolding times_in
times_next r m k = sum_next (λ routing mode. one (eqb routing r && eqb mode m)) k

times_none : (r m : ℕ) → times_in r m (first_pairs 0) ≡ 0
unfolding times_in sum_over first_pairs
times_none r m = refl

-- for m below 16 that is pair 16 r + m alone
module _ (r m : ℕ) (h : m < 16) where
  pair_here : (k : ℕ) → k ≡ 16 * r + m → is_pair r m k ≡ true
  pair_here k e = rw (eq-eqb (pair_at k).0 r (omega arith), eq-eqb (pair_at k).1 m (omega arith))

  pair_elsewhere : (k : ℕ) → (k ≡ 16 * r + m → ⊥) → is_pair r m k ≡ false
  pair_elsewhere k n = go (eqb (pair_at k).0 r) refl
    where
      go : (b : Bool) → eqb (pair_at k).0 r ≡ b → (b && eqb (pair_at k).1 m) ≡ false
      go false e = refl
      go true e = let outer = eqb-true (pair_at k).0 r e in ne_eqb (pair_at k).1 m (λ inner. n (omega (arith, outer, inner)))

  once_more : (k : ℕ) → one (ltb (16 * r + m) k) + one (is_pair r m k) ≡ one (ltb (16 * r + m) (suc k))
  once_more k =
      ⊎_elim
      (λ (l : 16 * r + m ≤ k).
      ⊎_elim
      (λ (g : k ≤ 16 * r + m). rw (le-ltb (16 * r + m) k g, pair_here k (omega arith), lt-ltb (16 * r + m) (suc k) (omega arith)))
      (λ (g : 16 * r + m < k). rw (lt-ltb (16 * r + m) k g, pair_elsewhere k (λ e. omega arith), lt-ltb (16 * r + m) (suc k) (omega arith)))
      (le_or_lt k (16 * r + m)))
      (λ (g : k < 16 * r + m). rw (le-ltb (16 * r + m) k (omega arith), pair_elsewhere k (λ e. omega arith), le-ltb (16 * r + m) (suc k) (omega arith)))
      (le_or_lt (16 * r + m) k)

  times_in_lem : (n : ℕ) → times_in r m (first_pairs n) ≡ one (ltb (16 * r + m) n)
  times_in_lem zero = times_none r m ∙ rw (le-ltb (16 * r + m) 0 (omega arith))
  times_in_lem (suc k) = times_next r m k ∙ rw (times_in_lem k) (once_more k)

-- no remainder is 16 or more
times_past : (r m : ℕ) → 16 ≤ m → (n : ℕ) → times_in r m (first_pairs n) ≡ 0
times_past r m h zero = times_none r m
times_past r m h (suc k) = times_next r m k ∙ rw (times_past r m h k, ne_eqb (pair_at k).1 m (λ e. omega arith), and-false)

pub each_once : (r m : ℕ) → r < 16 → m < 16 → times_in r m all_pairs ≡ 1
unfolding all_pairs
each_once r m l h = times_in_lem r m h 256 ∙ rw (lt-ltb (16 * r + m) 256 (omega arith))

pub no_other : (r m : ℕ) → (r < 16 → m < 16 → ⊥) → times_in r m all_pairs ≡ 0
unfolding all_pairs
no_other r m n =
    ⊎_elim
    (λ (h : 16 ≤ m). times_past r m h 256)
    (λ (h : m < 16).
    let past : 16 ≤ r = ⊎_elim (λ (l : 16 ≤ r). l) (λ (l : r < 16). absurd (n l h)) (le_or_lt 16 r) in
    times_in_lem r m h 256 ∙ rw (le-ltb (16 * r + m) 256 (omega arith)))
    (le_or_lt 16 m)
