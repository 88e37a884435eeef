use mathlib.Core.Path.{refl, sym, ◌∙◌}
use native.Mathlib.Omega.{arith}
use lib.Ieee.{neg, of_bits}
use Rattle.frozen.specs.Frozen.{terms_of, frozen_dac_operating_point_of}
use Rattle.frozen.proofs.Laws.{one_row, no_row}
use Rattle.frozen.proofs.frozen_dac_operating_point.Goals as goal

pub loop-i-init : goal.loop-i-init
unfolding frozen_dac_operating_point_of terms_of neg of_bits
loop-i-init c =
    let rows = c.frozen_dac_polynomial-rows.ensures in
    let terms = c.terms-terms.ensures in
    (rw rows refl, rw terms refl, rw (rows, terms, c.volume_position-x.ensures) refl)

pub loop-i-preserved : goal.loop-i-preserved
loop-i-preserved c =
    let inv = c.loop-i.invariant in
    (inv.0, inv.1, inv.2 ∙ one_row _ _ _ c.loop-i.sum c.loop-i.i (omega arith) (omega arith) ∙ rw c.polynomial.ensures refl)

pub returns : goal.returns
returns c = let l = c.loop-i in sym (l.invariant.2 ∙ no_row _ _ _ l.sum l.i (omega arith))
