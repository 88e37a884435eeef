-- A signed parameter is read as what its bits stand for, which `to_z-of_z` turns into itself.
use mathlib.Core.Path.{◌≡◌, ap, ◌∙◌}
use Prim.Native.Nat.{ℕ}
use lib.IntN.{ℤ}
use mir.Syntax.{w16}
use mir.Val.{SFits, to_z, of_z}
use mir.ValLaws.{to_z-of_z}
use Rattle.bundle.proofs.Laws.{index_from_zero, index_far_below, index_below_zero}
use Rattle.bundle.proofs.displacement_index.Goals as goal

bits : (z : ℤ) (r : ℕ) → SFits w16 z → r ≡ of_z w16 (to_z w16 (of_z w16 z)) → r ≡ of_z w16 z
bits z r h e = e ∙ ap (of_z w16) (to_z-of_z w16 z h)

pub returns-then-bits-lt32768 : goal.returns-then-bits-lt32768
returns-then-bits-lt32768 c = index_from_zero c.args.displacement c.ranges.displacement (bits _ _ c.ranges.displacement c.bits16-bits.ensures) c.if-bits-lt32768.true

pub returns-then-bits-lt-LOWEST_DISPLACEMENT : goal.returns-then-bits-lt-LOWEST_DISPLACEMENT
returns-then-bits-lt-LOWEST_DISPLACEMENT c = index_far_below c.args.displacement c.ranges.displacement (bits _ _ c.ranges.displacement c.bits16-bits.ensures) c.if-bits-lt32768.false c.if-bits-lt-LOWEST_DISPLACEMENT.true

pub returns : goal.returns
returns c = index_below_zero c.args.displacement c.ranges.displacement (bits _ _ c.ranges.displacement c.bits16-bits.ensures) c.if-bits-lt-LOWEST_DISPLACEMENT.false
