use Rattle.control.specs.Block.{finite_floats_of}
use Rattle.control.proofs.finite_floats.Goals as goal

pub returns : goal.returns
unfolding finite_floats_of
returns c = rw (c.finite_f32.ensures, c.finite_f32-2.ensures, c.finite_f32-3.ensures)
