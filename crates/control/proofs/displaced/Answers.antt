use Rattle.control.proofs.Laws.{wide_fits, sum_fits, displaced_told, displaced_cast}
use Rattle.control.proofs.displaced.Goals as goal

pub overflow_cast-displaced-2 : goal.overflow_cast-displaced-2
overflow_cast-displaced-2 c = wide_fits _ _ c.ranges.cutoff c.ranges.displacement

pub overflow_add-displaced : goal.overflow_add-displaced
overflow_add-displaced c = sum_fits _ _ c.ranges.cutoff c.ranges.displacement

pub returns-then-displaced-lt0 : goal.returns-then-displaced-lt0
returns-then-displaced-lt0 c = rw c.if-displaced-lt0.true at (displaced_told _ _ c.ranges.cutoff c.ranges.displacement)

pub returns-then-displaced : goal.returns-then-displaced
returns-then-displaced c = rw (c.if-displaced-lt0.false, c.if-displaced.true) at (displaced_told _ _ c.ranges.cutoff c.ranges.displacement)

pub overflow_cast-result : goal.overflow_cast-result
overflow_cast-result c = displaced_cast _ _ c.ranges.cutoff c.ranges.displacement c.if-displaced-lt0.false c.if-displaced.false

pub returns : goal.returns
returns c = rw (c.if-displaced-lt0.false, c.if-displaced.false) at (displaced_told _ _ c.ranges.cutoff c.ranges.displacement)
