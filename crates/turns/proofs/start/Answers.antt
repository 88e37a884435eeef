use mathlib.Core.Path.{sym, ◌∙◌}
use Rattle.answers.proofs.Laws.{handed_on, unless_done, unless_refused}
use Rattle.filter.specs.Plain.{plain_start}
use Rattle.turns.specs.Turns.{turn_start}
use Rattle.turns.proofs.start.Goals as goal

pub returns-in_err-judge_lent : goal.returns-in_err-judge_lent
unfolding turn_start
returns-in_err-judge_lent c = handed_on _ c.from_residual.ensures ∙ simp (sym c.judge_lent.ensures ∙ c.in_err-judge_lent.was)

pub returns-in_err-unless : goal.returns-in_err-unless
unfolding turn_start
returns-in_err-unless c =
    let off = unless_refused _ _ (sym c.unless.ensures ∙ c.in_err-unless.was) in
    handed_on _ c.from_residual-in_err-unless.ensures ∙ simp (sym c.judge_lent.ensures ∙ c.in_ok-judge_lent.was, ← c.is_valid.ensures, off.0, off.1)

pub returns-in_err-judge_decays : goal.returns-in_err-judge_decays
unfolding turn_start
returns-in_err-judge_decays c =
    handed_on _ c.from_residual-in_err-judge_decays.ensures
    ∙ simp (
      sym c.judge_lent.ensures ∙ c.in_ok-judge_lent.was,
      ← c.is_valid.ensures,
      unless_done _ _ (sym c.unless.ensures ∙ c.in_ok-unless.was),
      sym c.judge_decays.ensures ∙ c.in_err-judge_decays.was,
    )

pub returns-in_err-judge_levels : goal.returns-in_err-judge_levels
unfolding turn_start
returns-in_err-judge_levels c =
    handed_on _ c.from_residual-in_err-judge_levels.ensures
    ∙ simp (
      sym c.judge_lent.ensures ∙ c.in_ok-judge_lent.was,
      ← c.is_valid.ensures,
      unless_done _ _ (sym c.unless.ensures ∙ c.in_ok-unless.was),
      sym c.judge_decays.ensures ∙ c.in_ok-judge_decays.was,
      sym c.judge_levels.ensures ∙ c.in_err-judge_levels.was,
    )

pub returns : goal.returns
unfolding turn_start plain_start
returns c =
    simp (
      c.start.ensures,
      sym c.judge_lent.ensures ∙ c.in_ok-judge_lent.was,
      ← c.is_valid.ensures,
      unless_done _ _ (sym c.unless.ensures ∙ c.in_ok-unless.was),
      sym c.judge_decays.ensures ∙ c.in_ok-judge_decays.was,
      sym c.judge_levels.ensures ∙ c.in_ok-judge_levels.was,
    )
