use Rattle.sample.specs.Sample.{judge_summer_of}
use Rattle.sample.proofs.judge_summer.Goals as goal

pub returns : goal.returns
unfolding judge_summer_of
returns c = simp (c.first.ensures, c.judge_summer_resting_output.ensures, c.judge_sample_curve-curve.ensures, c.average-average.ensures, c.summer_inputs-inputs.ensures)
