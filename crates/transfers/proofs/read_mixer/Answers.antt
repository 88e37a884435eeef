use Rattle.transfers.specs.Transfers.{mixer_transfer_of, judge_mixer_of, read_mixer_of}
use Rattle.bundle.specs.Reading.{read_of}
use borrow.Author.Tests.{le-leb, lt-leb}
use Rattle.transfers.proofs.read_mixer.Goals as goal

pub returns-then-topology-gt7 : goal.returns-then-topology-gt7
unfolding read_mixer_of judge_mixer_of mixer_transfer_of read_of
returns-then-topology-gt7 c = simp (lt-leb _ _ c.if-topology-gt7.true)

pub returns : goal.returns
unfolding read_mixer_of judge_mixer_of mixer_transfer_of
returns c = simp (c.read_curve.ensures, c.mixer_average.ensures, le-leb _ _ c.if-topology-gt7.false)
