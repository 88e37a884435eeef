use Prim.Native.Nat.{◌-◌}
use Rattle.run.specs.Parts.{cache_of_parts}
use Rattle.run.proofs.Rows.{Sofar}
use Rattle.run.proofs.play_samples.Given as goal

abbrev pub invariant-loop-i : goal.invariant-loop-i
invariant-loop-i l =
    Sofar l.bundle l.curves l.parts.topology (cache_of_parts l.parts) l.registers.mode l.script l.count l.start l.before l.initial.output l.initial.integrator l.output l.integrator l.samples l.i
