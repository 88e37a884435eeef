use mathlib.Core.Path.{sym, ◌∙◌}
use Rattle.answers.proofs.Laws.{handed_on, unless_done, unless_refused}
use Rattle.tick_row.specs.TickRow.{voiced_tick_of}
use Rattle.tick_row.proofs.voiced_tick.Goals as goal

pub returns-in_err-unless : goal.returns-in_err-unless
unfolding voiced_tick_of
returns-in_err-unless c =
    let off = unless_refused _ _ (sym c.unless.ensures ∙ c.in_err-unless.was) in
    handed_on _ c.from_residual.ensures ∙ simp (← c.valid_voices.ensures, off.0, off.1)

pub returns : goal.returns
unfolding voiced_tick_of
returns c = simp (← c.valid_voices.ensures, unless_done _ _ (sym c.unless.ensures ∙ c.in_ok-unless.was), c.tick_from_parts.ensures, c.voices_of.ensures)
