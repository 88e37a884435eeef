-- The entries from i on are the solution's.
use Rattle.std.proofs.Common.{◌≡◌, ℕ, ◌<◌, ◌≤◌, ◌-◌, length}
use Rattle.ladder.specs.Ladder.{at, result_from}
use Rattle.ladder.proofs.substitute.Given as goal

abbrev pub invariant-loop-i : goal.invariant-loop-i
invariant-loop-i l = (length l.result ≡ 12) × ((k : ℕ) → l.i ≤ k → k < 12 → at l.result k ≡ result_from l.rows (11 - k) k)
