use Rattle.control.specs.Block.{integrator_fields_of}
use Rattle.control.proofs.integrator_fields.Goals as goal

pub returns : goal.returns
unfolding integrator_fields_of
returns c = rw (c.f32_at.ensures, c.f32_at-2.ensures, c.f32_at-3.ensures)
