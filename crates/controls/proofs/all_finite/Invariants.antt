use mathlib.Core.Path.{◌≡◌}
use mathlib.Core.Bool.{◌&&◌}
use lib.ListN.{drop}
use Rattle.controls.specs.Judging.{all_finite}
use Rattle.controls.proofs.all_finite.Given as goal

-- `all` is of the numbers so far
abbrev pub invariant-loop-x : goal.invariant-loop-x
invariant-loop-x l = all_finite l.values ≡ (l.all && all_finite (drop l.x-index l.values))
