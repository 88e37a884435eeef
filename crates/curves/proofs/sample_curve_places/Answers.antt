use native.Mathlib.Omega.{arith}
use Rattle.curves.specs.Sampling.{sample_curve_places_of}
use Rattle.curves.proofs.Laws.{input_lower}
use Rattle.curves.proofs.sample_curve_places.Goals as goal

pub curve_place-requires : goal.curve_place-requires
curve_place-requires c = rw c.input_position-at.ensures (omega (arith, input_lower c.args.input))

pub curve_place-requires-2 : goal.curve_place-requires-2
curve_place-requires-2 c = rw c.input_position-at.ensures (omega (arith, input_lower c.args.input))

pub returns : goal.returns
unfolding sample_curve_places_of
returns c = simp (c.curve_place-2.ensures, c.curve_place.ensures, c.input_position-at.ensures)
