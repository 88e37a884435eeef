use mathlib.Core.Path.{sym, ◌∙◌}
use Rattle.answers.proofs.Laws.{handed_on}
use Rattle.filter.specs.Lent.{judge_tables_of}
use Rattle.filter.proofs.judge_lent.Goals as goal

pub returns-in_err-check : goal.returns-in_err-check
unfolding judge_tables_of
returns-in_err-check c = handed_on _ c.from_residual.ensures ∙ simp (sym c.check.ensures ∙ c.in_err-check.was)

pub returns : goal.returns
unfolding judge_tables_of
returns c = simp (c.judge_length.ensures, sym c.check.ensures ∙ c.in_ok-check.was)
