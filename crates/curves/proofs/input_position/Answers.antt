use Rattle.curves.specs.Sampling.{input_position_of}
use Rattle.curves.proofs.input_position.Goals as goal

pub returns : goal.returns
unfolding input_position_of
returns c = simp (c.table_position.ensures, c.clamp.ensures)
