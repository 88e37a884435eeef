use Rattle.sample.specs.Sample.{summer_point_of}
use Rattle.sample.proofs.summer_transfer.Goals as goal

pub returns : goal.returns
unfolding summer_point_of
returns c = simp c.summer_point.ensures
