use native.Mathlib.Omega.{arith}
use Rattle.replay.proofs.Laws.{inside}
use Rattle.replay.proofs.Records.get.Goals as goal

pub overflow_mul-start : goal.overflow_mul-start
overflow_mul-start c = omega (arith, inside _ _ _ _ c.count.ensures c.if-i-count.true)

pub overflow_mul-start-then-i-count : goal.overflow_mul-start-then-i-count
overflow_mul-start-then-i-count c = omega (arith, inside _ _ _ _ c.count.ensures c.if-i-count.true)

pub overflow_mul-end : goal.overflow_mul-end
overflow_mul-end c = omega (arith, inside _ _ _ _ c.count.ensures c.if-i-count.true)

pub overflow_add-end : goal.overflow_add-end
overflow_add-end c = omega (arith, inside _ _ _ _ c.count.ensures c.if-i-count.true)

pub slice_bounds-result-end : goal.slice_bounds-result-end
slice_bounds-result-end c = omega (arith, inside _ _ _ _ c.count.ensures c.if-i-count.true)
