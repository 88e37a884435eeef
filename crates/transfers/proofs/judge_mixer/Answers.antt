use Rattle.transfers.specs.Transfers.{judge_mixer_of}
use borrow.Author.Tests.{le-leb, lt-leb}
use Rattle.transfers.proofs.judge_mixer.Goals as goal

pub returns-then-topology-gt7 : goal.returns-then-topology-gt7
unfolding judge_mixer_of
returns-then-topology-gt7 c = simp (lt-leb _ _ c.if-topology-gt7.true)

pub returns : goal.returns
unfolding judge_mixer_of
returns c = simp (le-leb _ _ c.if-topology-gt7.false, c.judge_sample_curve.ensures, c.mixer_average.ensures)
