-- Sums of what a function gives, a list with one entry stored, and the steps of the definitions at an index of the code.
use Rattle.std.proofs.Common.{◌≡◌, ℕ, zero, suc, ◌+◌, ◌-◌, ◌<◌, ◌≤◌, Bool, true, false, List, length, get_or, refl, ◌∙◌, ap, map, add-one, arith}
use Rattle.std.proofs.Common.{get_or-set_same, get_or-set_other}
use Rattle.std.specs.Prelude.{eqb, Float}
use Rattle.std.specs.List.{range_with_len, fold, enumerate_from}
use Rattle.std.specs.Float.{nan}
use Rattle.std.proofs.lemmas.List.FromFn.{map-range_with_len_more, fill_by_all, get_or-enumerate_from, length-enumerate_from}
use Rattle.std.proofs.lemmas.List.Sums.{fold-append}
use borrow.Author.Tests.{eqb-true, eqb-false}
use lib.ListN.{set}
use Rattle.std.proofs.lemmas.List.{get_or-map, length-map}
use Rattle.ladder.specs.Arithmetic.{◌⊞◌, ◌⊟◌, ◌⊠◌, f64}
use Rattle.ladder.specs.declared.Network.{Network}
use Rattle.ladder.specs.declared.Row.{Row}
use Rattle.ladder.specs.Ladder.{at, sum_of, next_row_of, row_at, row_in, result_from}

-- ---- sums

-- the sum over a list is the one of its entries in turn
fold_sum : (f : ℕ → Float) (n : ℕ) → fold (λ a x. a ⊞ x) (f64 0x8000_0000_0000_0000) (map f (range_with_len 0 n)) ≡ sum_of f n
unfolding sum_of
fold_sum f zero = refl
fold_sum f (suc n) = let more = rw add-one at (map-range_with_len_more f 0 n n (omega arith)) in rw (more, fold-append, fold_sum f n) refl

pub sum_told : (f : ℕ → Float) (xs : List Float) (n : ℕ) → length xs ≡ n → ((k : ℕ) → k < n → at xs k ≡ f k)
    → fold (λ a x. a ⊞ x) (f64 0x8000_0000_0000_0000) xs ≡ sum_of f n
sum_told f xs n l h = rw (fill_by_all f xs n nan l h) (fold_sum f n)

-- the same of each entry with its place
pub enumerated_sum : (h : ℕ × Float → Float) (xs : List Float) (n : ℕ) → length xs ≡ n
    → fold (λ a x. a ⊞ x) (f64 0x8000_0000_0000_0000) (map h (enumerate_from 0 xs)) ≡ sum_of (λ k. h (k, at xs k)) n
enumerated_sum h xs n l =
    let es = enumerate_from 0 xs in
    let long : length es ≡ n = length-enumerate_from 0 xs ∙ l in
    sum_told (λ k. h (k, at xs k)) (map h es) n (length-map es h ∙ long)
    (λ k b.
    let place : 0 + k ≡ k = omega arith in
    get_or-map h es k (0, nan) nan (omega arith) ∙ ap h (get_or-enumerate_from 0 xs k (0, nan) (omega arith) ∙ ap (λ (i : ℕ). (i, at xs k)) place))

-- ---- one entry stored

pub stored : {X : Type 0} (f : ℕ → X) (xs : List X) (i k : ℕ) (v d : X) → i < length xs → v ≡ f i → ((k ≡ i → ⊥) → get_or xs k d ≡ f k) → get_or (set xs i v) k d ≡ f k
stored f xs i k v d h e other = go (eqb k i) refl
  where
    go : (t : Bool) → eqb k i ≡ t → get_or (set xs i v) k d ≡ f k
    go true q = rw (eqb-true k i q) (get_or-set_same xs i v d h ∙ e)
    go false q = get_or-set_other xs i k v d (eqb-false k i q) ∙ other (eqb-false k i q)

-- ---- the elimination and the substitution

pub row_next : (n : Network) (i : ℕ) → 1 ≤ i → next_row_of n i (row_at n (i - 1)) ≡ row_at n i
unfolding row_at
row_next n zero h = absurd (omega arith)
row_next n (suc i) h = let q : suc i - 1 ≡ i = omega arith in rw q refl

-- a row from the row below it
pub result_row : (rows : List Row) (i : ℕ) {x : Float} → i < 11 → x ≡ result_from rows (11 - (i + 1)) (i + 1)
    → (row_in rows i).d ⊟ (row_in rows i).c ⊠ x ≡ result_from rows (11 - i) i
unfolding result_from
result_row rows i h e = let q : 11 - i ≡ suc (11 - (i + 1)) = omega arith in rw (e, q, add-one) refl
