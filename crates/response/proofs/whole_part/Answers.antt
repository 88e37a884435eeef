use mathlib.Core.Path.{sym, subst}
use native.Mathlib.Omega.{arith}
use borrow.Author.Tests.{le-leb}
use denote.Floats.{passes}
use lib.Dec.{T}
use lib.Ieee.{in_float}
use Rattle.floats.proofs.Rounding.{whole_from, whole_past}
use Rattle.response.proofs.whole_part.Goals as goal

pub int_to_float-result : goal.int_to_float-result
unfolding in_float
int_to_float-result c = passes _ (le-leb c.args.lower 0x100_0000 (omega arith))

pub returns-then-position : goal.returns-then-position
returns-then-position c = whole_from c.args.position (subst T (sym c.well_formed.0.1) tt) c.requires (omega arith) c.if-position.true

pub returns-else-position : goal.returns-else-position
returns-else-position c = whole_past c.args.position c.requires (omega arith) c.if-position.false
