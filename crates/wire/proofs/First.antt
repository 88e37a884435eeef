-- Laws of `first` and `every`, and of the entries that do not lie whole in the bytes.
use Prim.Native.Nat.{ℕ, zero, suc, ◌+◌, ◌-◌, ◌*◌, ◌/◌, ◌≤◌, ◌<◌, min}
use mathlib.Core.Path.{◌≡◌, refl, ap, subst, ◌∙◌}
use mathlib.Core.Bool.{Bool, true, false, cond}
use mathlib.Core.Logic.{⊎_elim}
use mathlib.Core.List.{List}
use native.Mathlib.Omega.{arith}
use native.Mathlib.Nat.{le_antisymm, eq-or-lt_of_le}
use lib.Dec.{leb}
use lib.ListN.{length}
use borrow.Author.Tests.{leb-true, leb-false}
use Rattle.wire.specs.Wire.{usable_of, usable_at}
use Rattle.wire.specs.First.{first, every, usable_entry, first_unusable_of}
use Rattle.wire.specs.Inner.{block_usable_of}
use Rattle.floats.proofs.Laws.{both}
use Rattle.wire.proofs.Laws.{le_or_lt, number_at_out}

-- the test holds before it
pub first_before : (ok : ℕ → Bool) (n i k : ℕ) → i ≤ k → k < first ok n i → ok k ≡ true
unfolding first
first_before ok zero i k g l = absurd (omega arith)
first_before ok (suc n) i k g l = go (ok i) (leb k i) refl refl l (first_before ok n (suc i) k)
  where
    go : (b b' : Bool) → ok i ≡ b → leb k i ≡ b' → k < cond b (first ok n (suc i)) i → (suc i ≤ k → k < first ok n (suc i) → ok k ≡ true) → ok k ≡ true
    go true true e w h r = subst (λ (j : ℕ). ok j ≡ true) (le_antisymm g (leb-true k i w)) e
    go true false e w h r = r (omega (arith, leb-false k i w)) h
    go false b' e w h r = absurd (omega arith)

-- and fails at it, where it lies in the run
pub first_fails : (ok : ℕ → Bool) (n i : ℕ) → first ok n i < i + n → ok (first ok n i) ≡ false
unfolding first
first_fails ok zero i l = absurd (omega arith)
first_fails ok (suc n) i l = go (ok i) refl l (first_fails ok n (suc i))
  where
    go : (b : Bool) → ok i ≡ b → cond b (first ok n (suc i)) i < i + suc n → (first ok n (suc i) < suc i + n → ok (first ok n (suc i)) ≡ false) → ok (cond b (first ok n (suc i)) i) ≡ false
    go true e h r = r (omega arith)
    go false e h r = e

-- It is the one number of the run, or its end, of which the two hold.
pub first_is : (ok : ℕ → Bool) (n i r : ℕ) → i ≤ r → r ≤ i + n → ((k : ℕ) → i ≤ k → k < r → ok k ≡ true) → (r < i + n → ok r ≡ false) → first ok n i ≡ r
unfolding first
first_is ok zero i r g l b f = omega arith
first_is ok (suc n) i r g l b f =
    ⊎_elim
    (λ (e : i ≡ r). rw (ap ok e ∙ f (omega arith)) e)
    (λ (h : i < r). rw (b i (omega arith) h) (first_is ok n (suc i) r h (omega arith) (λ k m. b k (omega arith)) (λ m. f (omega arith))))
    (eq-or-lt_of_le g)

-- An entry that does not lie whole in the bytes is usable.
pub usable_past : (s : List ℕ) (from i : ℕ) → length s < from + 4 * i + 4 → usable_entry s from i ≡ true
unfolding usable_entry usable_of
usable_past s from i h = rw (number_at_out 4 s (from + 4 * i) h)

-- Of m entries, those past the first n do not lie whole in s.
module _ (s : List ℕ) (from n m : ℕ) (h : length s < from + 4 * n + 4) (l : n ≤ m) where
  pub found_inside : first_unusable_of s from n < n → first_unusable_of s from m ≡ first_unusable_of s from n
  found_inside f =
      let ok = usable_entry s from in
      first_is ok m 0 (first ok n 0) (omega arith) (omega arith) (first_before ok n 0) (λ _. first_fails ok n 0 (omega arith))

  pub none_inside : n ≤ first_unusable_of s from n → first_unusable_of s from m ≡ m
  none_inside f =
      let ok = usable_entry s from in
      first_is ok m 0 m (omega arith) (omega arith)
      (λ (k : ℕ) g u. ⊎_elim (λ (a : n ≤ k). usable_past s from k (omega arith)) (λ (b : k < n). first_before ok n 0 k g (omega arith)) (le_or_lt n k))
      (λ u. absurd (omega arith))

-- Of m entries, n lie whole in the bytes: the first unusable one of the n, where there is one, and else none.
module _ (s : List ℕ) (from m n : ℕ) (e : n ≡ min m ((length s - from) / 4)) where
  pub found_among : first_unusable_of s from n < n → first_unusable_of s from m ≡ first_unusable_of s from n
  found_among f =
      ⊎_elim
      (λ (g : m ≤ n). let q : m ≡ n = omega arith in ap (first_unusable_of s from) q)
      (λ (g : n < m). found_inside s from n m (omega arith) (omega arith) f)
      (le_or_lt m n)

  pub none_among : n ≤ first_unusable_of s from n → first_unusable_of s from m ≡ m
  none_among f =
      ⊎_elim
      (λ (g : m ≤ n). let q : m ≡ n = omega arith in rw q (none_all f))
      (λ (g : n < m). none_inside s from n m (omega arith) (omega arith) f)
      (le_or_lt m n)
    where
      none_all : n ≤ first_unusable_of s from n → first_unusable_of s from n ≡ n
      none_all f =
          let ok = usable_entry s from in
          first_is ok n 0 n (omega arith) (omega arith) (λ k g u. first_before ok n 0 k g (omega arith)) (λ u. absurd (omega arith))

-- What the entries are where none is found, and where one is.
module _ (s : List ℕ) (from n : ℕ) where
  pub none_unusable : n ≤ first_unusable_of s from n → (k : ℕ) → k < n → usable_at s (from + 4 * k) ≡ true
  unfolding usable_entry
  none_unusable h k l = first_before (usable_entry s from) n 0 k (omega arith) (omega arith)

  pub one_unusable : first_unusable_of s from n < n → usable_at s (from + 4 * first_unusable_of s from n) ≡ false
  unfolding usable_entry
  one_unusable h = first_fails (usable_entry s from) n 0 (omega arith)

  pub all_usable_lem : ((k : ℕ) → k < n → usable_at s (from + 4 * k) ≡ true) → first_unusable_of s from n ≡ n
  unfolding usable_entry
  all_usable_lem h = first_is (usable_entry s from) n 0 n (omega arith) (omega arith) (λ k _. h k) (λ l. absurd (omega arith))

-- ---- a test at every number below n

pub every_true : (ok : ℕ → Bool) (n : ℕ) → every ok n ≡ true → (k : ℕ) → k < n → ok k ≡ true
unfolding every
every_true ok zero e k l = absurd (omega arith)
every_true ok (suc n) e k l =
    let w = both (every ok n) (ok n) e in
    ⊎_elim (λ (h : n ≤ k). let q : k ≡ n = omega arith in ap ok q ∙ w.1) (λ (h : k < n). every_true ok n w.0 k h) (le_or_lt n k)

-- ---- blocks

-- a usable block at entry i: there are 64 left, and where the entries before i are usable so are those before i + 64
module _ (s : List ℕ) (from i left : ℕ) (e : block_usable_of s (from + 4 * i) left ≡ true) where
  pub block_fits : 64 ≤ left
  unfolding block_usable_of
  block_fits = leb-true 64 left (both (leb 64 left) (every (usable_entry s (from + 4 * i)) 64) e).0

  pub block_more : ((k : ℕ) → k < i → usable_entry s from k ≡ true) → (k : ℕ) → k < i + 64 → usable_entry s from k ≡ true
  unfolding block_usable_of usable_entry
  block_more b k l =
      ⊎_elim
      (λ (h : i ≤ k).
      let q : from + 4 * i + 4 * (k - i) ≡ from + 4 * k = omega arith in
      rw q at (every_true (usable_entry s (from + 4 * i)) 64 (both (leb 64 left) (every (usable_entry s (from + 4 * i)) 64) e).1 (k - i) (omega arith)))
      (b k)
      (le_or_lt i k)
