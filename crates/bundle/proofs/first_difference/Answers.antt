use Prim.Native.Nat.{◌+◌, ◌-◌, ◌*◌, ◌≤◌, ◌<◌}
use mathlib.Core.Path.{◌≡◌, sym}
use mathlib.Core.Logic.{⊎_elim}
use native.Mathlib.Omega.{arith}
use borrow.Author.Rules.{rules}
use Rattle.wire.proofs.Laws.{le_or_lt}
use Rattle.wire.proofs.First.{first_is}
use Rattle.bundle.specs.Layout.{header_length}
use Rattle.bundle.specs.Opening.{header_byte}
use Rattle.bundle.proofs.first_difference.Goals as goal

pub difference_from-requires : goal.difference_from-requires
difference_from-requires c = (search rules, c.loop-k.invariant)

pub loop-k-preserved : goal.loop-k-preserved
loop-k-preserved c =
    let m = 4 * c.loop-k.k in
    λ i l. ⊎_elim
    (λ (h : m ≤ i). let e : m + (i - m) ≡ i = omega arith in rw e at (c.has_word.ensures c.if-not-has_word.false (i - m) (omega arith)))
    (λ (h : i < m). c.loop-k.invariant i h)
    (le_or_lt m i)

pub returns : goal.returns
returns c = sym (first_is (header_byte c.args.bundle.now) header_length 0 header_length (search rules) (search rules) (λ k _ l. c.loop-k.invariant k (omega arith)) (λ l. absurd (omega arith)))
