use Rattle.sample.specs.Sample.{mixed_of}
use Rattle.sample.proofs.mixed.Goals as goal

pub returns : goal.returns
unfolding mixed_of
returns c = simp (c.mode_sum.ensures, c.mode_polarity-polarity.ensures, c.filter_mode_quiescent_level-quiescent.ensures)
