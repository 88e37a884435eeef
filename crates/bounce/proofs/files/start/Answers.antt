use Rattle.control.specs.Block.{encode_of}
use Rattle.bounce.proofs.files.start.Goals as goal

pub returns : goal.returns
unfolding encode_of
returns c = rw c.new.ensures at c.encode.ensures
