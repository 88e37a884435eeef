-- The sheet's figures, computed: the totals of its last line, and how many bytes it has. Assumes nothing.
use Prim.Native.Nat.{ℕ, ◌+◌}
use mathlib.Core.Path.{◌≡◌, refl, ◌∙◌}
use mathlib.Core.List.{List, [], ◌∷◌, ◌++◌}
use native.Mathlib.Omega.{arith}
use lib.ListN.{length, length-append}
use Rattle.wire.specs.Text.{ascii}
use Rattle.text.specs.Text.{decimal_in, decimal_of}
use Rattle.mixing.specs.Topology.{filter_count_of, bypass_count_of, output_count_of, mixer_count_of}
use Rattle.mixing.specs.Line.{line_of}
use Rattle.routing_sheet.specs.Sheet.{first_pairs, all_pairs, sum_over, spaced_of, pair_line_of, lines_of, total_line_of, sheet_of}
use Rattle.routing_sheet.proofs.Laws.{filter_of_pair, output_of_pair}

filter_total : sum_over filter_of_pair all_pairs ≡ 512
unfolding all_pairs first_pairs sum_over filter_count_of
filter_total = refl

bypass_total : sum_over bypass_count_of all_pairs ≡ 448
unfolding all_pairs first_pairs sum_over bypass_count_of
bypass_total = refl

output_total : sum_over output_of_pair all_pairs ≡ 384
unfolding all_pairs first_pairs sum_over output_count_of
output_total = refl

mixer_total : sum_over mixer_count_of all_pairs ≡ 832
unfolding all_pairs first_pairs sum_over mixer_count_of bypass_count_of output_count_of
mixer_total = refl

pub last_line : sheet_of all_pairs ≡ lines_of all_pairs ++ ascii "total 512 448 384 832\n"
unfolding sheet_of total_line_of spaced_of decimal_of decimal_in
last_line = rw (filter_total, bypass_total, output_total, mixer_total) refl

-- two numbers and a line of 39 bytes
abbrev pair_length : ℕ → ℕ → ℕ
pair_length routing mode = length (spaced_of routing) + length (spaced_of mode) + 39

pair_long : (routing mode : ℕ) → length (pair_line_of routing mode) ≡ pair_length routing mode
unfolding pair_line_of line_of
pair_long routing mode = omega (arith, length-append (spaced_of routing ++ spaced_of mode) (line_of routing mode), length-append (spaced_of routing) (spaced_of mode))

lines_long : (pairs : List (ℕ × ℕ)) → length (lines_of pairs) ≡ sum_over pair_length pairs
unfolding lines_of sum_over
lines_long [] = refl
lines_long (pair ∷ pairs) = length-append (pair_line_of pair.0 pair.1) (lines_of pairs) ∙ rw (pair_long pair.0 pair.1, lines_long pairs) refl

all_long : sum_over pair_length all_pairs ≡ 11200
unfolding all_pairs first_pairs sum_over spaced_of decimal_of decimal_in
all_long = refl

pub sheet_long : length (sheet_of all_pairs) ≡ 11222
sheet_long = rw last_line (length-append (lines_of all_pairs) (ascii "total 512 448 384 832\n") ∙ rw (lines_long all_pairs, all_long) refl)
