use native.Mathlib.Omega.{arith}
use Rattle.text.proofs.Laws.{grown_past, placed}
use Rattle.text.proofs.push.Goals as goal

pub returns-then-at-out-clause-value : goal.returns-then-at-out-clause-value
returns-then-at-out-clause-value c = let a = c.args in (grown_past a.out.now a.text.now a.at (omega arith)).0

pub returns-then-at-out-clause-out_after : goal.returns-then-at-out-clause-out_after
returns-then-at-out-clause-out_after c = let a = c.args in (grown_past a.out.now a.text.now a.at (omega arith)).1

pub returns-clause-value : goal.returns-clause-value
returns-clause-value c = let a = c.args in (placed a.out.now a.text.now a.at _ _ (omega arith) c.min-count.ensures c.copy_from_slice.ensures.after).0

pub returns-clause-out_after : goal.returns-clause-out_after
returns-clause-out_after c = let a = c.args in (placed a.out.now a.text.now a.at _ _ (omega arith) c.min-count.ensures c.copy_from_slice.ensures.after).1
