use mathlib.Core.Path.{sym, ◌∙◌}
use native.Mathlib.Omega.{arith}
use borrow.Author.Tests.{eqb-true}
use Rattle.bundle.proofs.Laws.{word_told}
use Rattle.bundle.proofs.has_word.Goals as goal

pub returns : goal.returns
returns c told =
    word_told _ _ c.byte_at-a.ensures c.byte_at-b.ensures c.byte_at-c.ensures c.byte_at-d.ensures (omega arith) (omega arith) (omega arith) (omega arith)
    (sym c.join4.ensures ∙ eqb-true _ _ told ∙ c.requires.1)
