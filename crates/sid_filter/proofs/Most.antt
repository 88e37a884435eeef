-- A run's counts fit a u32.
use Prim.Native.Nat.{ℕ, ◌^◌, ◌<◌}
use native.Mathlib.Omega.{arith}
use mathlib.Core.Path.{◌≡◌}
use mathlib.Core.List.{List}
use Rattle.filter.specs.Lent.{Lent}
use Rattle.run.specs.declared.Ended.{Ended}
use Rattle.run.specs.Run.{run_of}
use Rattle.run.specs.Rows.{ended_of}
use Rattle.run.proofs.Whole.{run_most}

module _ (lent : Lent) (block script output : List ℕ) {e : Ended} (is : e ≡ ended_of (run_of lent block script output)) where
  pub events_fit : e.events < 2 ^ 32
  events_fit = rw is (omega (arith, (run_most lent block script output).0))

  pub samples_fit : e.samples < 2 ^ 32
  samples_fit = rw is (omega (arith, (run_most lent block script output).1))
