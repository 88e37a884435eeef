use mathlib.Core.Path.{ap, ◌∙◌}
use lib.Ieee.{binary32, of_bits}
use Rattle.wire.specs.Wire.{usable_of}
use Rattle.wire.proofs.Floats.{usable_no_nan}
use Rattle.curves.proofs.row_entry.Goals as goal

pub float_from_bits-result : goal.float_from_bits-result
float_from_bits-result c = usable_no_nan c.u32_at.result (ap usable_of c.u32_at.ensures ∙ c.requires.1)

pub returns : goal.returns
returns c = ap (of_bits binary32) c.u32_at.ensures
