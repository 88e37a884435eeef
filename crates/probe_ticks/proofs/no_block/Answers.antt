use mathlib.Core.Path.{sym, ◌∙◌}
use Rattle.answers.proofs.Laws.{handed_on}
use Rattle.probe_ticks.proofs.no_block.Goals as goal

pub returns-in_err-judge_lent : goal.returns-in_err-judge_lent
returns-in_err-judge_lent c = handed_on _ c.from_residual.ensures ∙ simp (sym c.judge_lent.ensures ∙ c.in_err-judge_lent.was)

pub returns : goal.returns
returns c = simp (sym c.judge_lent.ensures ∙ c.in_ok-judge_lent.was)
