use mathlib.Core.Path.{sym, ◌∙◌}
use Rattle.answers.proofs.Laws.{handed_on}
use Rattle.turns.proofs.judge_tick.Goals as goal

pub returns-in_err-judge_lent : goal.returns-in_err-judge_lent
returns-in_err-judge_lent c = handed_on _ c.from_residual.ensures ∙ simp (sym c.judge_lent.ensures ∙ c.in_err-judge_lent.was)

pub returns-in_err-judge : goal.returns-in_err-judge
returns-in_err-judge c =
    handed_on _ c.from_residual-in_err-judge.ensures ∙ simp (sym c.judge_lent.ensures ∙ c.in_ok-judge_lent.was, sym c.judge.ensures ∙ c.in_err-judge.was)

pub returns-in_err-judge_decays : goal.returns-in_err-judge_decays
returns-in_err-judge_decays c =
    handed_on _ c.from_residual-in_err-judge_decays.ensures
    ∙ simp (sym c.judge_lent.ensures ∙ c.in_ok-judge_lent.was, sym c.judge.ensures ∙ c.in_ok-judge.was, sym c.judge_decays.ensures ∙ c.in_err-judge_decays.was)

pub returns-in_err-judge_levels : goal.returns-in_err-judge_levels
returns-in_err-judge_levels c =
    handed_on _ c.from_residual-in_err-judge_levels.ensures
    ∙ simp (
      sym c.judge_lent.ensures ∙ c.in_ok-judge_lent.was,
      sym c.judge.ensures ∙ c.in_ok-judge.was,
      sym c.judge_decays.ensures ∙ c.in_ok-judge_decays.was,
      sym c.judge_levels.ensures ∙ c.in_err-judge_levels.was,
    )

pub returns : goal.returns
returns c =
    simp (
      c.judge_voices.ensures,
      sym c.judge_lent.ensures ∙ c.in_ok-judge_lent.was,
      sym c.judge.ensures ∙ c.in_ok-judge.was,
      sym c.judge_decays.ensures ∙ c.in_ok-judge_decays.was,
      sym c.judge_levels.ensures ∙ c.in_ok-judge_levels.was,
    )
