-- The positions below code are written, and the rest is as it was.
use Rattle.std.proofs.Common.{◌≡◌}
use Rattle.wire.specs.Wire.{float_bytes, put_at, rows}
use Rattle.ladder.specs.Ladder.{position_of}
use Rattle.ladder.proofs.Scale.put_positions.Given as goal

abbrev pub invariant-loop-code : goal.invariant-loop-code
invariant-loop-code l = l.out ≡ put_at l.initial.out 0 (rows (λ k. float_bytes (position_of l.self k)) l.code)
