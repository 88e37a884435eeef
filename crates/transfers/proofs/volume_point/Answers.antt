use Rattle.transfers.specs.Transfers.{volume_point_of}
use Rattle.transfers.proofs.volume_point.Goals as goal

pub returns : goal.returns
unfolding volume_point_of
returns c = simp c.curve_point.ensures
