-- The shift is the law `shifted`.
use Rattle.std.proofs.Common.{T, sym, subst, arith}
use lib.Ieee.{binary32}
use Rattle.floats.proofs.Laws.{shifted}
use Rattle.floats.proofs.as_usize.Goals as goal

pub returns-then-exponent-lt151 : goal.returns-then-exponent-lt151
returns-then-exponent-lt151 c = sym (shifted binary32 c.args.x (subst T (sym c.well_formed.0.1) tt) (omega arith) (omega arith))
