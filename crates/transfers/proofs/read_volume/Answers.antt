use Rattle.transfers.specs.Transfers.{volume_transfer_of, judge_volume_of, read_volume_of}
use Rattle.transfers.proofs.read_volume.Goals as goal

pub returns : goal.returns
unfolding read_volume_of judge_volume_of volume_transfer_of
returns c = simp c.read_curve.ensures
