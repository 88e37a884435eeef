-- The summer by its nibble, as C asks for it, on an accepted bundle with the curves built from it: with no input routed it is answered, and makes 0 of a sum of 0.
-- Assumes nothing.
use mathlib.Core.Path.{◌≡◌}
use mathlib.Core.Bool.{true}
use mathlib.Core.List.{List}
use Prim.Native.Nat.{ℕ}
use lib.Ieee.{Float, eq}
use Rattle.floats.specs.Arithmetic.{f32}
use Rattle.bundle.specs.Opening.{Accepted}
use Rattle.curves.specs.Building.{build_curves_of}
use Rattle.direct.proofs.WholeLoads.{Rests, bundle_checked, built_long, call_rests}
use Rattle.filter.specs.Lent.{lent_of, judge_tables_of}
use Rattle.points.specs.Points.{summer_call_of}

pub nibble_rests : (bundle : List ℕ) → Accepted bundle → (sum : Float) → eq sum (f32 0) ≡ true → Rests (summer_call_of (lent_of bundle (build_curves_of bundle)) 0 sum)
unfolding summer_call_of judge_tables_of
nibble_rests bundle a sum silent = rw (bundle_checked bundle a, built_long bundle a) (call_rests bundle a 0 sum silent)
