use mathlib.Core.Path.{sym}
use native.Mathlib.Omega.{arith}
use Rattle.wire.specs.Wire.{bytes_of}
use Rattle.wire.proofs.Laws.{length-bytes_of, put_at_out}
use Rattle.wire.proofs.put_u32.Goals as goal

pub returns-else-holds : goal.returns-else-holds
returns-else-holds c = let a = c.args in sym (put_at_out a.s.now a.p (bytes_of 4 a.v) (grind (arith, length-bytes_of 4 a.v)))
