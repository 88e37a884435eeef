use mir.Syntax.{w16, w32}
use mir.ValLaws.{to_z-of_z}
use Rattle.control.proofs.Laws.{next_code}
use Rattle.control.proofs.FilterRegisters.write_cutoff_high.Goals as goal

pub returns : goal.returns
returns c =
    let s = c.step_between in
    let r = c.args.self in
    let next = next_code r.cutoff c.args.value c.ranges.value in
    rw (to_z-of_z w16 c.displacement.result (record { sfits = c.displacement.type_inv }), c.displacement.ensures, to_z-of_z w32 s.result (record { sfits = s.type_inv }), s.ensures, c.previous_cutoff-previous.ensures, next)
