use native.Mathlib.Omega.{arith}
use Rattle.curves.specs.Sampling.{sample_curve_of, sample_curve_places_of, curve_point_of}
use Rattle.curves.proofs.Laws.{input_lower, input_upper}
use Rattle.curves.proofs.curve_point.Goals as goal

-- either index fits
pub overflow_cast-index : goal.overflow_cast-index
overflow_cast-index c =
    let input = c.args.input in
    record { fits = rw c.input_position-at.ensures (omega (arith, input_lower input, input_upper input)) }

pub returns : goal.returns
unfolding curve_point_of sample_curve_of sample_curve_places_of
returns c = simp (c.interpolate.ensures, c.entry_at-right.ensures, c.entry_at-left.ensures, c.sample_curve_places-places.ensures, c.input_position-at.ensures)
