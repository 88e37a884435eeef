use mathlib.Core.Path.{sym, ◌∙◌}
use Rattle.answers.proofs.Laws.{handed_on, unless_done, unless_refused, and_refused, and_done}
use Rattle.probe_ticks.specs.Ticks.{tick_left_of, state_tick_of}
use Rattle.probe_ticks.proofs.state_tick.Goals as goal

pub returns-in_err-judge_lent : goal.returns-in_err-judge_lent
unfolding state_tick_of tick_left_of
returns-in_err-judge_lent c = handed_on _ c.from_residual.ensures ∙ simp (sym c.judge_lent.ensures ∙ c.in_err-judge_lent.was)

pub returns-in_err-unless : goal.returns-in_err-unless
unfolding state_tick_of tick_left_of
returns-in_err-unless c =
    let off = unless_refused _ _ (sym c.unless.ensures ∙ c.in_err-unless.was) in
    handed_on _ c.from_residual-in_err-unless.ensures ∙ simp (sym c.judge_lent.ensures ∙ c.in_ok-judge_lent.was, ← c.is_valid.ensures, off.0, off.1)

pub returns-in_err-judge_decays : goal.returns-in_err-judge_decays
unfolding state_tick_of tick_left_of
returns-in_err-judge_decays c =
    handed_on _ c.from_residual-in_err-judge_decays.ensures
    ∙ simp (
      sym c.judge_lent.ensures ∙ c.in_ok-judge_lent.was,
      ← c.is_valid.ensures,
      unless_done _ _ (sym c.unless.ensures ∙ c.in_ok-unless.was),
      sym c.judge_decays.ensures ∙ c.in_err-judge_decays.was,
    )

pub returns-in_err-judge_levels : goal.returns-in_err-judge_levels
unfolding state_tick_of tick_left_of
returns-in_err-judge_levels c =
    handed_on _ c.from_residual-in_err-judge_levels.ensures
    ∙ simp (
      sym c.judge_lent.ensures ∙ c.in_ok-judge_lent.was,
      ← c.is_valid.ensures,
      unless_done _ _ (sym c.unless.ensures ∙ c.in_ok-unless.was),
      sym c.judge_decays.ensures ∙ c.in_ok-judge_decays.was,
      sym c.judge_levels.ensures ∙ c.in_err-judge_levels.was,
    )

pub returns-in_err-judge_voices : goal.returns-in_err-judge_voices
unfolding state_tick_of tick_left_of
returns-in_err-judge_voices c =
    handed_on _ c.from_residual-in_err-judge_voices.ensures
    ∙ simp (
      sym c.judge_lent.ensures ∙ c.in_ok-judge_lent.was,
      ← c.is_valid.ensures,
      unless_done _ _ (sym c.unless.ensures ∙ c.in_ok-unless.was),
      sym c.judge_decays.ensures ∙ c.in_ok-judge_decays.was,
      sym c.judge_levels.ensures ∙ c.in_ok-judge_levels.was,
      sym c.judge_voices.ensures ∙ c.in_err-judge_voices.was,
    )

pub returns-in_err-core : goal.returns-in_err-core
unfolding state_tick_of tick_left_of
returns-in_err-core c =
    handed_on _ c.from_residual-in_err-core.ensures
    ∙ simp (
      sym c.judge_lent.ensures ∙ c.in_ok-judge_lent.was,
      ← c.is_valid.ensures,
      unless_done _ _ (sym c.unless.ensures ∙ c.in_ok-unless.was),
      sym c.judge_decays.ensures ∙ c.in_ok-judge_decays.was,
      sym c.judge_levels.ensures ∙ c.in_ok-judge_levels.was,
      sym c.judge_voices.ensures ∙ c.in_ok-judge_voices.was,
      and_refused _ _ (sym c.start.ensures ∙ c.in_err-core.was),
    )

pub returns-in_err-outputs : goal.returns-in_err-outputs
unfolding state_tick_of tick_left_of
returns-in_err-outputs c =
    let started = and_done _ _ (sym c.start.ensures ∙ c.in_ok-core.was) in
    handed_on _ c.from_residual-in_err-outputs.ensures
    ∙ simp (
      sym c.judge_lent.ensures ∙ c.in_ok-judge_lent.was,
      ← c.is_valid.ensures,
      unless_done _ _ (sym c.unless.ensures ∙ c.in_ok-unless.was),
      sym c.judge_decays.ensures ∙ c.in_ok-judge_decays.was,
      sym c.judge_levels.ensures ∙ c.in_ok-judge_levels.was,
      sym c.judge_voices.ensures ∙ c.in_ok-judge_voices.was,
      started.0,
      started.1,
      and_refused _ _ (sym c.tick.ensures.value ∙ c.in_err-outputs.was),
    )

pub returns : goal.returns
unfolding state_tick_of tick_left_of
returns c =
    let started = and_done _ _ (sym c.start.ensures ∙ c.in_ok-core.was) in
    let ticked = and_done _ _ (sym c.tick.ensures.value ∙ c.in_ok-outputs.was) in
    simp (
      sym c.judge_lent.ensures ∙ c.in_ok-judge_lent.was,
      ← c.is_valid.ensures,
      unless_done _ _ (sym c.unless.ensures ∙ c.in_ok-unless.was),
      sym c.judge_decays.ensures ∙ c.in_ok-judge_decays.was,
      sym c.judge_levels.ensures ∙ c.in_ok-judge_levels.was,
      sym c.judge_voices.ensures ∙ c.in_ok-judge_voices.was,
      started.0,
      started.1,
      ticked.0,
      ticked.1,
      c.tick.ensures.core_after,
    )
