use lib.Ieee.{div, neg, of_bits}
use Rattle.floats.proofs.Laws.{finite_tests}
use Rattle.floats.proofs.is_finite.Goals as goal

pub returns : goal.returns
unfolding div neg of_bits
returns c = finite_tests c.args.x
