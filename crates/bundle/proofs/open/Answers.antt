use mathlib.Core.Path.{sym, ◌∙◌}
use Rattle.answers.proofs.Laws.{handed_on}
use Rattle.bundle.specs.Opening.{open_of}
use Rattle.bundle.proofs.open.Goals as goal

pub returns-in_err-check : goal.returns-in_err-check
unfolding open_of
returns-in_err-check c = handed_on _ c.from_residual.ensures ∙ simp (sym c.check.ensures ∙ c.in_err-check.was)

pub returns : goal.returns
unfolding open_of
returns c = simp (c.judge_section.ensures, sym c.check.ensures ∙ c.in_ok-check.was)
