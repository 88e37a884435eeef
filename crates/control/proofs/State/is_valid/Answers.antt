use Rattle.control.specs.Block.{valid_of}
use Rattle.control.proofs.State.is_valid.Goals as goal

pub returns : goal.returns
unfolding valid_of
returns c = rw (c.is_valid.ensures, c.finite_floats.ensures, c.is_finite.ensures)
