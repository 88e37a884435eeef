use Prim.Native.Nat.{◌+◌, ◌-◌}
use mathlib.Core.Path.{◌≡◌}
use native.Mathlib.Omega.{arith}
use Rattle.curves.specs.Sampling.{table_place}
use Rattle.curves.specs.Inner.{row_length, table_row_of}
use Rattle.curves.proofs.table_row.Goals as goal

pub returns : goal.returns
unfolding table_row_of
returns c =
    let from = table_place c.args.base in
    let e : from + row_length - from ≡ row_length = omega arith in
    rw e
