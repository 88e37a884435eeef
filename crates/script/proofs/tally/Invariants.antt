-- The whole tally is that of the slices that are left, after the samples so far.
use Prim.Native.Nat.{◌≤◌}
use mathlib.Core.Path.{◌≡◌}
use lib.ListN.{drop}
use Rattle.script.specs.Script.{slices_in, tally_of}
use Rattle.script.proofs.Laws.{slices_from, tally_from}
use Rattle.script.proofs.tally.Given as goal

abbrev pub invariant-loop-i : goal.invariant-loop-i
invariant-loop-i l =
    (l.samples ≤ l.i)
    × (tally_of l.count (slices_in l.count (drop 8 l.script)) ≡ tally_from l.count l.samples (slices_from l.script l.count l.i))
