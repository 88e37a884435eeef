-- No more pieces agree than were run.
use Rattle.std.proofs.Common.{◌≤◌}
use Rattle.vectors_songs.proofs.song.count_agreeing.Given as goal

abbrev pub invariant-loop-i : goal.invariant-loop-i
invariant-loop-i l = l.agreed ≤ l.i
