-- The invariant: the lines of the first k pairs are written, and three of their counts are summed up.
use Prim.Native.Nat.{◌-◌, ◌≤◌}
use mathlib.Core.Path.{◌≡◌}
use lib.ListN.{length}
use Rattle.text.proofs.Laws.{Grew}
use Rattle.mixing.specs.Topology.{bypass_count_of}
use Rattle.routing_sheet.specs.Sheet.{first_pairs, lines_of}
use Rattle.routing_sheet.proofs.Laws.{Sums, filter_of_pair, output_of_pair}
use Rattle.routing_sheet.proofs.push_sheet.Given as goal

abbrev pub invariant-loop-k : goal.invariant-loop-k
invariant-loop-k l =
    (l.k ≤ 256) × (l.end ≤ length l.out) × (length l.out ≡ length l.initial.out) × Grew l.initial.out 0 (lines_of (first_pairs l.k)) l.out l.end
    × Sums filter_of_pair l.k l.filter × Sums bypass_count_of l.k l.bypass × Sums output_of_pair l.k l.output

abbrev pub decreases-loop-k : goal.decreases-loop-k
decreases-loop-k l = 256 - l.k
