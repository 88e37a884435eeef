use native.Mathlib.Omega.{arith}
use Rattle.controls.proofs.Laws.{one_more, at_end}
use Rattle.controls.proofs.all_finite.Goals as goal

pub loop-x-preserved : goal.loop-x-preserved
loop-x-preserved c = one_more c.args.values.now c.loop-x.x-index c.loop-x.all c.is_finite-all.result (omega arith) c.is_finite-all.ensures c.loop-x.invariant

pub returns : goal.returns
returns c = at_end c.args.values.now c.loop-x.x-index c.loop-x.all (omega arith) c.loop-x.invariant
