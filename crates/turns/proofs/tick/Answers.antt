use mathlib.Core.Path.{sym, ◌∙◌}
use Rattle.answers.proofs.Laws.{handed_on}
use Rattle.turns.specs.Turns.{core_tick_of}
use Rattle.turns.proofs.tick.Goals as goal

pub returns-in_err-judge_tick : goal.returns-in_err-judge_tick
unfolding core_tick_of
returns-in_err-judge_tick c =
    let judged = sym c.judge_tick.ensures ∙ c.in_err-judge_tick.was in
    record { value = handed_on _ c.from_residual.ensures ∙ simp judged; core_after = simp judged }

pub returns : goal.returns
unfolding core_tick_of
returns c =
    let judged = sym c.judge_tick.ensures ∙ c.in_ok-judge_tick.was in
    record { value = simp (judged, c.take_tick.ensures.value); core_after = simp (judged, c.take_tick.ensures.core_after) }
