use mir.Syntax.{w16}
use mir.ValLaws.{to_z-of_z}
use mathlib.Core.Path.{ap, ◌∙◌}
use mir.Val.{of_z}
use Rattle.wire.specs.Wire.{bytes_of}
use Rattle.control.proofs.Block.{narrow_told}
use Rattle.control.proofs.State.narrow.Goals as goal

pub returns : goal.returns
unfolding bytes_of
returns c =
    narrow_told c.args.self
    (c.bits16-displacement.ensures ∙ ap (of_z w16) (to_z-of_z w16 c.args.self.registers.cutoff_dac_displacement_codes (record { sfits = c.struct_told-1.given.1.0.1 })))
    c.float_bits-band.ensures
    c.float_bits-low.ensures
    c.float_bits-energy.ensures
