-- Each word joins those before it in one write.
use Prim.Native.Nat.{◌+◌}
use mathlib.Core.Path.{refl, sym}
use mathlib.Core.List.{◌++◌}
use native.Mathlib.Omega.{arith}
use Rattle.wire.specs.Wire.{bytes_of, row_bytes}
use Rattle.wire.proofs.Laws.{put_at_out, put_at-join}
use Rattle.wire.proofs.put_row.Goals as goal

pub returns-then-holds : goal.returns-then-holds
unfolding bytes_of
returns-then-holds c =
    let a = c.args in
    let join = put_at-join a.s.now a.p in
    let A = bytes_of 4 a.a in
    let B = bytes_of 4 a.b in
    let C = bytes_of 4 a.c in
    let D = bytes_of 4 a.d in
    rw (c.store-then-holds-3.ensures, c.store-then-holds-2.ensures, c.store-then-holds.ensures, c.store.ensures)
    (rw (join A B (a.p + 4) refl (omega arith), join (A ++ B) C (a.p + 8) refl (omega arith), join (A ++ B ++ C) D (a.p + 12) refl (omega arith)))

pub returns-else-holds : goal.returns-else-holds
unfolding bytes_of
returns-else-holds c = let a = c.args in sym (put_at_out a.s.now a.p (row_bytes a.a a.b a.c a.d) (grind arith))
