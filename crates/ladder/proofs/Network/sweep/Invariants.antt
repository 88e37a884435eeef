-- The first i rows are written.
use Rattle.std.proofs.Common.{◌≡◌, ℕ, ◌<◌, length}
use Rattle.ladder.specs.Ladder.{row_in, row_at}
use Rattle.ladder.proofs.Network.sweep.Given as goal

abbrev pub invariant-loop-i : goal.invariant-loop-i
invariant-loop-i l = (length l.rows ≡ 12) × ((k : ℕ) → k < l.i → row_in l.rows k ≡ row_at l.self k)
