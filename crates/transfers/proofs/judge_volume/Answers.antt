use Rattle.transfers.specs.Transfers.{judge_volume_of}
use Rattle.transfers.proofs.judge_volume.Goals as goal

pub returns : goal.returns
unfolding judge_volume_of
returns c = simp c.judge_sample_curve.ensures
