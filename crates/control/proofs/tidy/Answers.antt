use Rattle.control.specs.Block.{tidy_of}
use Rattle.control.proofs.tidy.Goals as goal

pub returns : goal.returns
unfolding tidy_of
returns c = rw (c.byte_at.ensures, c.byte_at-2.ensures)
