use mathlib.Core.Path.{◌≡◌, ap, ◌∙◌}
use Prim.Native.Nat.{ℕ, ◌<◌}
use native.Mathlib.Omega.{arith}
use lib.IntN.{ℤ}
use mir.Syntax.{w16}
use mir.Val.{SFits, to_z, of_z}
use mir.ValLaws.{to_z-of_z}
use Rattle.bundle.specs.Layout.{displacement_index_of}
use Rattle.bundle.proofs.Laws.{index_small}
use Rattle.bundle.proofs.directional_power_place.Goals as goal

index : (z : ℤ) (r : ℕ) → SFits w16 z → r ≡ displacement_index_of (to_z w16 (of_z w16 z)) → r ≡ displacement_index_of z
index z r h e = e ∙ ap displacement_index_of (to_z-of_z w16 z h)

small : (z : ℤ) (r : ℕ) → SFits w16 z → r ≡ displacement_index_of (to_z w16 (of_z w16 z)) → r < 32825
small z r h e = rw (index z r h e) (index_small z h)

pub overflow_add-result-2 : goal.overflow_add-result-2
overflow_add-result-2 c = omega (arith, small _ _ c.ranges.displacement c.displacement_index.ensures)

pub overflow_mul-result-3 : goal.overflow_mul-result-3
overflow_mul-result-3 c = omega (arith, small _ _ c.ranges.displacement c.displacement_index.ensures)

pub overflow_add-result-3 : goal.overflow_add-result-3
overflow_add-result-3 c = omega (arith, small _ _ c.ranges.displacement c.displacement_index.ensures)

pub returns : goal.returns
returns c = rw (index _ _ c.ranges.displacement c.displacement_index.ensures)
