use native.Mathlib.Omega.{arith}
use Rattle.floats.proofs.Range.{load_index}
use Rattle.curves.specs.Sampling.{load_position_of}
use Rattle.curves.proofs.load_position.Goals as goal

pub overflow_mul-result : goal.overflow_mul-result
overflow_mul-result c = rw (c.table_position-at.ensures, c.clamp.ensures) (omega (arith, load_index c.args.conductance))

pub overflow_mul-result-2 : goal.overflow_mul-result-2
overflow_mul-result-2 c = rw (c.table_position-at.ensures, c.clamp.ensures) (omega (arith, load_index c.args.conductance))

pub returns : goal.returns
unfolding load_position_of
returns c = simp (c.table_position-at.ensures, c.clamp.ensures)
