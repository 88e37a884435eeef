use Rattle.curves.specs.Sampling.{curve_point_of}
use Rattle.curves.proofs.sample_curve.Goals as goal

pub returns : goal.returns
unfolding curve_point_of
returns c = simp c.curve_point.ensures
