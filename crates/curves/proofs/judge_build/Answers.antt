use mathlib.Core.Path.{sym, ◌∙◌}
use Rattle.answers.proofs.Laws.{handed_on}
use Rattle.curves.specs.Building.{judge_build_of}
use Rattle.curves.proofs.judge_build.Goals as goal

pub returns-in_err-check : goal.returns-in_err-check
unfolding judge_build_of
returns-in_err-check c = handed_on _ c.from_residual.ensures ∙ simp (sym c.check.ensures ∙ c.in_err-check.was)

pub returns-in_err-judge_length : goal.returns-in_err-judge_length
unfolding judge_build_of
returns-in_err-judge_length c =
    handed_on _ c.from_residual-in_err-judge_length.ensures ∙ simp (sym c.check.ensures ∙ c.in_ok-check.was, sym c.judge_length.ensures ∙ c.in_err-judge_length.was)

pub returns : goal.returns
unfolding judge_build_of
returns c =
    simp (c.judge_surface.ensures, sym c.check.ensures ∙ c.in_ok-check.was, sym c.judge_length.ensures ∙ c.in_ok-judge_length.was)
