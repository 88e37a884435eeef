use mathlib.Core.Path.{sym, ◌∙◌}
use native.Mathlib.Omega.{arith}
use borrow.Author.Count.{below_more}
use borrow.Author.Rules.{rules}
use borrow.Author.Tests.{eq-eqb, ne_eqb}
use Rattle.wire.proofs.First.{first_is}
use Rattle.bundle.specs.Layout.{header_length}
use Rattle.bundle.specs.Opening.{header_byte}
use Rattle.bundle.proofs.difference_from.Goals as goal

pub loop-i-init : goal.loop-i-init
loop-i-init c = c.requires.1

pub returns-then-byte_at-header_byte : goal.returns-then-byte_at-header_byte
unfolding header_byte
returns-then-byte_at-header_byte c =
    sym (first_is (header_byte c.args.bundle.now) header_length 0 c.loop-i.i (search rules) (search rules) (λ k _. c.loop-i.invariant k)
    (λ _. ne_eqb _ _ (λ e. c.if-byte_at-header_byte.true (c.byte_at.ensures ∙ e ∙ sym c.header_byte.ensures))))

pub loop-i-preserved : goal.loop-i-preserved
unfolding header_byte
loop-i-preserved c = below_more _ _ c.loop-i.invariant (eq-eqb _ _ (sym c.byte_at.ensures ∙ c.if-byte_at-header_byte.false ∙ c.header_byte.ensures))

pub returns : goal.returns
returns c = sym (first_is (header_byte c.args.bundle.now) header_length 0 header_length (search rules) (search rules) (λ k _ l. c.loop-i.invariant k (omega arith)) (λ l. absurd (omega arith)))
