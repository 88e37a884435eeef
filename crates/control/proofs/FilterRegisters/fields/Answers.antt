use mir.Syntax.{w16}
use mir.ValLaws.{to_z-of_z}
use Rattle.control.specs.Block.{register_fields_of}
use Rattle.control.proofs.FilterRegisters.fields.Goals as goal

pub returns : goal.returns
unfolding register_fields_of
returns c =
    let d = c.i16_at in
    cc (to_z-of_z w16 d.result (record { sfits = d.type_inv }))
