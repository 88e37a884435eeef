use mathlib.Core.Path.{sym, subst}
use lib.Dec.{T}
use lib.Ieee.{binary32}
use Rattle.floats.proofs.Laws.{abs_bits, abs_no_nan}
use Rattle.response.proofs.magnitude.Goals as goal

pub float_to_bits-result : goal.float_to_bits-result
float_to_bits-result c = c.requires

pub float_from_bits-result : goal.float_from_bits-result
float_from_bits-result c = abs_no_nan binary32 c.args.x (subst T (sym c.well_formed.0.1) tt) c.requires

pub returns : goal.returns
returns c = abs_bits binary32 c.args.x (subst T (sym c.well_formed.0.1) tt) c.requires
