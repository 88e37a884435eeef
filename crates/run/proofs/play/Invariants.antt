use Prim.Native.Nat.{◌-◌}
use Rattle.filter.specs.Lent.{lent_all}
use Rattle.run.proofs.Loop.{Turn}
use Rattle.run.proofs.play.Given as goal

abbrev pub invariant-loop-i : goal.invariant-loop-i
invariant-loop-i l =
    Turn (lent_all l.bundle l.curves l.decays) l.script l.count l.initial.state l.initial.output l.output l.resting l.state l.gain l.samples l.i

abbrev pub decreases-loop-i : goal.decreases-loop-i
decreases-loop-i l = l.count - l.i
