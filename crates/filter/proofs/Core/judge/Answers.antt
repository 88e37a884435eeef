use Rattle.filter.specs.Core.{judge_core_of}
use Rattle.filter.proofs.Core.judge.Goals as goal

pub returns : goal.returns
unfolding judge_core_of
returns c = simp (c.unless.ensures, c.sound.ensures, c.countable.ensures, c.is_valid.ensures)
