use native.Mathlib.Omega.{arith}
use Rattle.response.proofs.Laws.{near_index, near_told}
use Rattle.response.proofs.operating_position_near.Goals as goal

pub overflow_add-result : goal.overflow_add-result
overflow_add-result c = omega (arith, c.bin_near-lower.ensures, near_index _ c.if-sum-position.true)

pub returns-then-sum-position : goal.returns-then-sum-position
returns-then-sum-position c =
    let a = c.args in
    near_told _ c.if-sum-position.true a.input a.band a.low c.plain_activity-sum.ensures c.bin_near-lower.ensures c.of_usize.ensures
