use Rattle.curves.specs.Sampling.{curve_point_of}
use Rattle.sample.specs.Sample.{summer_transfer_of, summer_point_of}
use Rattle.sample.proofs.summer_point.Goals as goal

pub returns : goal.returns
unfolding summer_point_of summer_transfer_of curve_point_of
returns c = simp (c.summer_resting_output.ensures, c.curve_point-at.ensures, c.average.ensures, c.summer_inputs-inputs.ensures)
