use Rattle.control.specs.Block.{fields_of}
use Rattle.control.proofs.State.fields.Goals as goal

pub returns : goal.returns
unfolding fields_of
returns c = rw (c.fields.ensures, c.integrator_fields.ensures, c.fields-2.ensures)
