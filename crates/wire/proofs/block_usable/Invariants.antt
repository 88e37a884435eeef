-- The invariant: the flag says whether each of the j entries so far is usable.
use mathlib.Core.Path.{◌≡◌}
use Rattle.wire.specs.First.{every, usable_entry}
use Rattle.wire.proofs.block_usable.Given as goal

abbrev pub invariant-loop-j : goal.invariant-loop-j
invariant-loop-j l = l.all ≡ every (usable_entry l.s l.p) l.j
