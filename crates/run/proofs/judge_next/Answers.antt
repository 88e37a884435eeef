use native.Mathlib.Omega.{arith}
use mathlib.Core.Path.{sym, ◌∙◌}
use Rattle.refresh.proofs.Alike.{Fit, judged_alike}
use Rattle.run.proofs.judge_next.Goals as goal

pub returns-then-before-next : goal.returns-then-before-next
returns-then-before-next c =
    let a = c.struct_told-1.given in
    let b = c.struct_told-2-1.given in
    let first : Fit c.args.before = record { cutoff = omega arith; displacement = record { sfits = a.1.0.1 }; resonance = omega arith; volume = omega (arith, a.1.1.1.1.1.1) } in
    let second : Fit c.args.next = record { cutoff = omega arith; displacement = record { sfits = b.1.0.1 }; resonance = omega arith; volume = omega (arith, b.1.1.1.1.1.1) } in
    sym c.requires ∙ judged_alike c.args.bundle.now c.args.before c.args.next first second c.if-before-next.true
