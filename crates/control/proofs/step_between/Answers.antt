use Rattle.control.proofs.Laws.{step_fits, step_is}
use Rattle.control.proofs.step_between.Goals as goal

pub overflow_sub-result : goal.overflow_sub-result
overflow_sub-result c = step_fits _ _ c.ranges.next c.ranges.previous

pub returns : goal.returns
returns c = step_is _ _ c.ranges.next c.ranges.previous
