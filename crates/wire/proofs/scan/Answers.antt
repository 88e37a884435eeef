-- The invariant: each entry passed is usable. The loop ends at the one index of which `first-is` speaks.
use Prim.Native.Nat.{◌-◌}
use mathlib.Core.Path.{ap, sym, ◌∙◌}
use native.Mathlib.Omega.{arith}
use borrow.Author.Count.{below_more}
use borrow.Author.Rules.{rules}
use Rattle.wire.specs.Wire.{usable_of}
use Rattle.wire.specs.First.{usable_entry}
use Rattle.wire.proofs.First.{first_is, block_fits, block_more}
use Rattle.wire.proofs.scan.Goals as goal

pub loop-i-preserved-then-block_usable : goal.loop-i-preserved-then-block_usable
loop-i-preserved-then-block_usable c =
    let a = c.args in
    let i = c.loop-i.i in
    let e = sym c.block_usable.ensures ∙ c.if-block_usable.true in
    (omega (arith, block_fits a.s.now a.from i (a.n - i) e), block_more a.s.now a.from i (a.n - i) e c.loop-i.invariant.1)

pub loop-i-preserved : goal.loop-i-preserved
unfolding usable_entry
loop-i-preserved c = (search rules, below_more _ _ c.loop-i.invariant.1 (ap usable_of (sym c.word.ensures) ∙ sym c.usable.ensures ∙ c.if-usable.true))

pub returns-else-usable : goal.returns-else-usable
unfolding usable_entry
returns-else-usable c =
    let a = c.args in
    sym (first_is (usable_entry a.s.now a.from) a.n 0 c.loop-i.i (search rules) (search rules) (λ k _. c.loop-i.invariant.1 k)
    (λ _. ap usable_of (sym c.word.ensures) ∙ sym c.usable.ensures ∙ c.if-usable.false))

pub returns : goal.returns
returns c =
    let a = c.args in
    sym (first_is (usable_entry a.s.now a.from) a.n 0 c.loop-i.i (search rules) (search rules) (λ k _. c.loop-i.invariant.1 k) (λ l. absurd (omega arith)))
