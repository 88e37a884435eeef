use mathlib.Core.Path.{sym}
use native.Mathlib.Omega.{arith}
use Rattle.wire.proofs.Laws.{put_at_out, put_mid-put_at}
use Rattle.wire.proofs.put.Goals as goal

pub returns-then-holds : goal.returns-then-holds
returns-then-holds c = let a = c.args in put_mid-put_at a.dst.now a.at _ _ a.src.now c.copy_from_slice.ensures.after (omega arith) (omega arith)

pub returns-else-holds : goal.returns-else-holds
returns-else-holds c = let a = c.args in sym (put_at_out a.dst.now a.at a.src.now (grind arith))
