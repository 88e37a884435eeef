-- No more records agree than were asked for, and the test may be called again.
use Rattle.std.proofs.Common.{◌≤◌}
use denote.Param.Always.{always_mut}
use Rattle.replay.proofs.replay_file.Given as goal

abbrev pub invariant-loop-i : goal.invariant-loop-i
invariant-loop-i g l = (l.agreed ≤ l.i) × (always_mut g.F.FnMut l.initial.agrees → always_mut g.F.FnMut l.agrees)
