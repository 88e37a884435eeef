use Rattle.curves.specs.Sampling.{curve_point_of}
use Rattle.transfers.specs.Transfers.{volume_transfer_of, volume_point_of}
use Rattle.transfers.proofs.volume_transfer.Goals as goal

pub returns : goal.returns
unfolding volume_transfer_of volume_point_of curve_point_of
returns c = simp c.volume_point.ensures
