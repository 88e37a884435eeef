use Prim.Native.Nat.{◌≤◌}
use native.Mathlib.Omega.{arith}
use Rattle.curves.specs.Sampling.{input_position_of, sample_curve_of, sample_curve_places_of}
use Rattle.curves.proofs.Laws.{input_lower, next_place}
use Rattle.curves.proofs.read_curve.Goals as goal

pub curve_place-lower-requires : goal.curve_place-lower-requires
curve_place-lower-requires c = rw c.input_position-at.ensures (omega (arith, input_lower c.args.input))

pub overflow_add-lower : goal.overflow_add-lower
overflow_add-lower c =
    let lower : c.input_position-at.result.lower ≤ 2047 = rw c.input_position-at.ensures (input_lower c.args.input) in
    omega (arith, c.curve_place-lower.ensures)

pub returns : goal.returns
unfolding sample_curve_of sample_curve_places_of
returns c =
    let a = c.args in
    simp (c.read_between.ensures, c.curve_place-lower.ensures, c.input_position-at.ensures, next_place a.curve (input_position_of a.input).lower)
