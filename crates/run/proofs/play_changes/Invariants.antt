use Rattle.run.proofs.Moves.{Sofar}
use Rattle.run.proofs.play_changes.Given as goal

abbrev pub invariant-loop-i : goal.invariant-loop-i
invariant-loop-i l = Sofar l.bundle l.script l.count l.start l.initial.state l.state l.gain l.i
