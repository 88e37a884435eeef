-- Each byte passed is the header's.
use Prim.Native.Nat.{ℕ, ◌<◌}
use mathlib.Core.Path.{◌≡◌}
use mathlib.Core.Bool.{true}
use Rattle.bundle.specs.Opening.{header_byte}
use Rattle.bundle.proofs.difference_from.Given as goal

abbrev pub invariant-loop-i : goal.invariant-loop-i
invariant-loop-i l = (k : ℕ) → k < l.i → header_byte l.bundle k ≡ true
