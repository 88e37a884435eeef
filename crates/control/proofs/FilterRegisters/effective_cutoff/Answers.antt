use mir.Syntax.{w16}
use mir.ValLaws.{to_z-of_z}
use Rattle.control.proofs.FilterRegisters.effective_cutoff.Goals as goal

pub returns : goal.returns
returns c = rw (c.displaced.ensures, to_z-of_z w16 _ (record { sfits = c.struct_told-1.given.1.0.1 }))
