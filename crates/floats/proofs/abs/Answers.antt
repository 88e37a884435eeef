use Rattle.std.proofs.Common.{T, sym, subst}
use lib.Ieee.{binary32}
use Rattle.floats.proofs.Laws.{equal_no_nan, abs_bits, abs_no_nan, abs_nan}
use Rattle.floats.proofs.abs.Goals as goal

pub float_from_bits-result : goal.float_from_bits-result
float_from_bits-result c = abs_no_nan binary32 _ (subst T (sym c.well_formed.0.1) tt) (equal_no_nan _ c.if-x.true)

pub returns-then-x : goal.returns-then-x
returns-then-x c = abs_bits binary32 _ (subst T (sym c.well_formed.0.1) tt) (equal_no_nan _ c.if-x.true)

pub returns-else-x : goal.returns-else-x
returns-else-x c = abs_nan _ c.if-x.false
