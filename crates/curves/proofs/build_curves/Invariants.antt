-- The invariant: the curves so far stand at the front of the buffer.
use mathlib.Core.Path.{◌≡◌}
use lib.ListN.{length}
use Rattle.wire.specs.Wire.{put_at, rows}
use Rattle.curves.specs.Building.{build_curve_of}
use Rattle.curves.proofs.build_curves.Given as goal

abbrev pub invariant-loop-curve : goal.invariant-loop-curve
invariant-loop-curve l =
    (length l.curves ≡ length l.initial.curves) × (l.curves ≡ put_at l.initial.curves 0 (rows (build_curve_of l.bundle) l.curve))
