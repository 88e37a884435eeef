use mathlib.Core.Path.{ap, ◌∙◌}
use lib.Ieee.{binary32, of_int}
use mir.Syntax.{w16, w32}
use mir.ValLaws.{to_z-of_z}
use Rattle.control.proofs.Laws.{displacement_told}
use Rattle.control.proofs.displacement.Goals as goal

pub returns : goal.returns
returns c =
    let d = c.as_i16 in
    to_z-of_z w16 d.result (record { sfits = d.type_inv })
    ∙ displacement_told c.args.step c.of_i16-limit.ensures (c.of_i32.ensures ∙ ap (of_int binary32) (to_z-of_z w32 c.args.step c.ranges.step)) c.round-charge.ensures
    c.clamp.ensures d.ensures
