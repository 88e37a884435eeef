-- The invariant: the words are those of the floats where what is left of them is.
use Prim.Native.Nat.{◌+◌, ◌*◌}
use mathlib.Core.Path.{◌≡◌}
use lib.ListN.{drop}
use Rattle.replay.specs.Records.{are_floats}
use Rattle.replay.proofs.words.has_floats.Given as goal

abbrev pub invariant-loop-i : goal.invariant-loop-i
invariant-loop-i l = are_floats l.r l.place l.xs ≡ are_floats l.r (l.place + 4 * l.i) (drop l.i l.xs)
