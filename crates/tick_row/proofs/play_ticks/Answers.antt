use Prim.Native.Nat.{◌+◌, ◌-◌, ◌*◌}
use native.Mathlib.Omega.{arith}
use mathlib.Core.Path.{◌≡◌, refl}
use lib.ListN.{length}
use Rattle.tick_row.proofs.Rows.{count_room, sofar_start, row_end, row_refused, row_taken}
use Rattle.tick_row.proofs.play_ticks.Goals as goal

pub loop-i-init : goal.loop-i-init
loop-i-init c =
    let z = c.args in
    sofar_start _ _ _ _ _ _ _ _ _ (rw c.tick_count-count.ensures (count_room (length z.voices.now) (length z.output.now)))

pub loop-i-preserved : goal.loop-i-preserved
loop-i-preserved c =
    let part : 36 * c.loop-i.i + 36 - 36 * c.loop-i.i ≡ 36 = omega arith in
    rw c.put.ensures (row_taken _ _ _ _ _ _ _ _ _ _ _ _ _ c.loop-i.invariant c.loop-i-test.true (rw part refl) c.voiced_tick.ensures _ c.in-Ok.is)

pub returns-in-Err : goal.returns-in-Err
returns-in-Err c =
    let part : 36 * c.loop-i.i + 36 - 36 * c.loop-i.i ≡ 36 = omega arith in
    let told = row_refused _ _ _ _ _ _ _ _ _ _ _ _ _ c.loop-i.invariant c.loop-i-test.true (rw part refl) c.voiced_tick.ensures _ c.in-Err.is in
    rw (← c.tick_count-count.ensures) (record { value = told.0; output_after = told.1 })

pub returns : goal.returns
returns c =
    let told = row_end _ _ _ _ _ _ _ _ _ _ _ _ _ c.loop-i.invariant c.loop-i-test.false in
    rw (← c.tick_count-count.ensures) (record { value = told.0; output_after = told.1 })
