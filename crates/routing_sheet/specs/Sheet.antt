-- The routing sheet: a line for every routing and mode nibble, and a last line with the totals of their counts.
use Rattle.std.specs.Prelude.{ℕ, zero, suc, ◌+◌, ◌/◌, ◌%◌, ◌&&◌, List, [], ◌∷◌, ◌++◌, eqb}
use Rattle.wire.specs.Text.{ascii}
use Rattle.text.specs.Text.{decimal_of}
use Rattle.mixing.specs.Topology.{one, filter_count_of, bypass_count_of, output_count_of, mixer_count_of}
use Rattle.mixing.specs.Line.{line_of}

-- Pair k, a routing and a mode: routing outer, mode inner.
abbrev pub pair_at : ℕ → ℕ × ℕ
pair_at k = (k / 16, k % 16)

-- The first n pairs.
unfoldable pub first_pairs : ℕ → List (ℕ × ℕ)
first_pairs zero = []
first_pairs (suc k) = first_pairs k ++ (pair_at k ∷ [])

-- Routing 0 to 15, and with each mode 0 to 15.
unfoldable pub all_pairs : List (ℕ × ℕ)
all_pairs = first_pairs 256

-- A count of a pair, summed over a list of pairs.
unfoldable pub sum_over : (ℕ → ℕ → ℕ) → List (ℕ × ℕ) → ℕ
sum_over count [] = 0
sum_over count (pair ∷ pairs) = count pair.0 pair.1 + sum_over count pairs

-- How many times a pair stands in a list of pairs.
unfoldable pub times_in : ℕ → ℕ → List (ℕ × ℕ) → ℕ
times_in r m pairs = sum_over (λ routing mode. one (eqb routing r && eqb mode m)) pairs

-- A number and a space.
unfoldable pub spaced_of : ℕ → List ℕ
spaced_of n = decimal_of n ++ ascii " "

-- `5 9 filter 1010 bypass 0101 counts 2 2 1 3`, and a line end.
unfoldable pub pair_line_of : ℕ → ℕ → List ℕ
pair_line_of routing mode = spaced_of routing ++ spaced_of mode ++ line_of routing mode

unfoldable pub lines_of : List (ℕ × ℕ) → List ℕ
lines_of [] = []
lines_of (pair ∷ pairs) = pair_line_of pair.0 pair.1 ++ lines_of pairs

-- `total 512 448 384 832`, and a line end.
unfoldable pub total_line_of : ℕ → ℕ → ℕ → ℕ → List ℕ
total_line_of filter bypass output mixer =
    ascii "total " ++ spaced_of filter ++ spaced_of bypass ++ spaced_of output ++ decimal_of mixer ++ ascii "\n"

-- The lines of a list of pairs, and the totals of the topology's four counts over the same list.
unfoldable pub sheet_of : List (ℕ × ℕ) → List ℕ
sheet_of pairs =
    lines_of pairs
    ++ total_line_of
    (sum_over (λ routing mode. filter_count_of routing) pairs)
    (sum_over bypass_count_of pairs)
    (sum_over (λ routing mode. output_count_of mode) pairs)
    (sum_over mixer_count_of pairs)
