-- The sheet as it grows pair by pair: its lines in a buffer, and the totals of its counts. Assumes nothing.
use Prim.Native.Nat.{ℕ, suc, ◌+◌, ◌*◌, ◌≤◌}
use mathlib.Core.Path.{◌≡◌, refl, sym}
use mathlib.Core.List.{List, [], ◌∷◌, ◌++◌, append_assoc, append-nil}
use native.Mathlib.Omega.{arith}
use native.Mathlib.Numerals.{add-one}
use Rattle.text.proofs.Laws.{Grew, grown_then}
use Rattle.mixing.specs.Topology.{filter_count_of, bypass_count_of, output_count_of, mixer_count_of}
use Rattle.routing_sheet.specs.Sheet.{pair_at, first_pairs, all_pairs, sum_over, pair_line_of, lines_of, total_line_of, sheet_of}

-- ---- totals

module _ (count : ℕ → ℕ → ℕ) where
  sum_then : (pairs : List (ℕ × ℕ)) (p : ℕ × ℕ) → sum_over count (pairs ++ (p ∷ [])) ≡ sum_over count pairs + count p.0 p.1
  unfolding sum_over
  sum_then [] p = omega arith
  sum_then (pair ∷ pairs) p = omega (arith, sum_then pairs p)

  pub sum_next : (k : ℕ) → sum_over count (first_pairs (suc k)) ≡ sum_over count (first_pairs k) + count (pair_at k).0 (pair_at k).1
  unfolding first_pairs
  sum_next k = sum_then (first_pairs k) (pair_at k)

  -- n is the total over the first k pairs; each count is one digit
  abbrev pub Sums : ℕ → ℕ → Type 0
  Sums k n = (n ≡ sum_over count (first_pairs k)) × (n ≤ 9 * k)

  pub sums_none : Sums 0 0
  unfolding sum_over first_pairs
  sums_none = (refl, omega arith)

  pub sums_next : (k : ℕ) {n c : ℕ} → Sums k n → c ≡ count (pair_at k).0 (pair_at k).1 → c ≤ 9 → Sums (k + 1) (n + c)
  sums_next k s e h = (rw (s.0, e, add-one) (sym (sum_next k)), omega (arith, s.1))

-- two counts as those of a pair
abbrev pub filter_of_pair : ℕ → ℕ → ℕ
filter_of_pair routing mode = filter_count_of routing

abbrev pub output_of_pair : ℕ → ℕ → ℕ
output_of_pair routing mode = output_count_of mode

-- what reaches the mixer goes past the filter or comes out of it
mixer_sum : (pairs : List (ℕ × ℕ)) → sum_over bypass_count_of pairs + sum_over output_of_pair pairs ≡ sum_over mixer_count_of pairs
unfolding sum_over mixer_count_of
mixer_sum [] = refl
mixer_sum (pair ∷ pairs) = omega (arith, mixer_sum pairs)

-- ---- lines

lines_then : (pairs : List (ℕ × ℕ)) (p : ℕ × ℕ) → lines_of (pairs ++ (p ∷ [])) ≡ lines_of pairs ++ pair_line_of p.0 p.1
unfolding lines_of
lines_then [] p = append-nil (pair_line_of p.0 p.1)
lines_then (pair ∷ pairs) p = rw (lines_then pairs p) (sym (append_assoc (pair_line_of pair.0 pair.1) (lines_of pairs) (pair_line_of p.0 p.1)))

lines_next : (k : ℕ) → lines_of (first_pairs k) ++ pair_line_of (pair_at k).0 (pair_at k).1 ≡ lines_of (first_pairs (k + 1))
unfolding first_pairs
lines_next k = rw add-one (sym (lines_then (first_pairs k) (pair_at k)))

-- ---- in a buffer d: the next line, and at the end the totals

module _ (d e : List ℕ) (k at : ℕ) (g : Grew d 0 (lines_of (first_pairs k)) e at) where
  pub line_grew : {t : List ℕ} {r : ℕ} → Grew e at (pair_line_of (pair_at k).0 (pair_at k).1) t r → Grew d 0 (lines_of (first_pairs (k + 1))) t r
  line_grew {t} {r} h = rw (lines_next k) at (grown_then d e t 0 at r _ _ (omega arith) g h)

  pub sheet_grew : {t : List ℕ} {f b o r : ℕ} → k ≡ 256 → Sums filter_of_pair k f → Sums bypass_count_of k b → Sums output_of_pair k o
      → Grew e at (total_line_of f b o (b + o)) t r → Grew d 0 (sheet_of all_pairs) t r
  unfolding sheet_of all_pairs
  sheet_grew {t} {f} {b} {o} {r} all x y z h =
      let told = rw (x.0, y.0, z.0, mixer_sum (first_pairs k), all) at h in
      grown_then d e t 0 at r _ _ (omega arith) (rw all at g) told
