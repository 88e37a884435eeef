use Rattle.std.proofs.Common.{T, sym, subst}
use Rattle.floats.proofs.Rounding.{zero_rounds}
use Rattle.floats.proofs.round.Goals as goal

pub returns-then-x : goal.returns-then-x
returns-then-x c = zero_rounds c.args.x (subst T (sym c.well_formed.0.1) tt) c.if-x.true
