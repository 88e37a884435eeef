use mathlib.Core.Path.{◌≡◌}
use lib.ListN.{length, drop}
use Rattle.frozen.specs.Frozen.{weighted_sum_of, frozen_dac_operating_point_of}
use Rattle.frozen.proofs.frozen_dac_operating_point.Given as goal

-- the rows and terms from i on are still to be added
abbrev pub invariant-loop-i : goal.invariant-loop-i
invariant-loop-i l =
    (length l.rows ≡ 11) × (length l.terms ≡ 11) × (frozen_dac_operating_point_of l.mode l.volume ≡ weighted_sum_of l.x l.sum (drop l.i l.rows) (drop l.i l.terms))
