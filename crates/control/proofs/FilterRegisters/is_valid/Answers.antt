use mir.Syntax.{w16}
use mir.ValLaws.{to_z-of_z}
use Rattle.control.specs.Block.{valid_registers_of}
use Rattle.control.proofs.FilterRegisters.is_valid.Goals as goal

pub returns : goal.returns
unfolding valid_registers_of
returns c = rw (to_z-of_z w16 c.args.self.cutoff_dac_displacement_codes (record { sfits = c.struct_told-2-1.given.1.0.1 }))
