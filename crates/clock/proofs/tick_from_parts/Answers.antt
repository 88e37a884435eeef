use mathlib.Core.Path.{sym, ◌∙◌}
use Rattle.answers.proofs.Laws.{handed_on, unless_done, unless_refused}
use Rattle.clock.specs.Clock.{after_core_of, tick_of, tick_from_parts_of}
use Rattle.clock.proofs.tick_from_parts.Goals as goal

pub returns-in_err-unless : goal.returns-in_err-unless
unfolding tick_from_parts_of tick_of
returns-in_err-unless c =
    let off = unless_refused _ _ (sym c.unless.ensures ∙ c.in_err-unless.was) in
    handed_on _ c.from_residual.ensures ∙ simp (← c.tracked-held.ensures, ← c.tick_signals-signals.ensures, ← c.is_finite.ensures, off.0, off.1)

pub returns-in_err-sampled : goal.returns-in_err-sampled
unfolding tick_from_parts_of tick_of after_core_of
returns-in_err-sampled c =
    handed_on _ c.from_residual-in_err-sampled.ensures
    ∙ simp (
      ← c.tracked-held.ensures,
      ← c.tick_signals-signals.ensures,
      ← c.is_finite.ensures,
      unless_done _ _ (sym c.unless.ensures ∙ c.in_ok-unless.was),
      sym c.sample_from_parts.ensures ∙ c.in_err-sampled.was,
    )

pub returns : goal.returns
unfolding tick_from_parts_of tick_of
returns c =
    simp (
      ← c.tracked-held.ensures,
      ← c.tick_signals-signals.ensures,
      ← c.is_finite.ensures,
      unless_done _ _ (sym c.unless.ensures ∙ c.in_ok-unless.was),
      sym c.sample_from_parts.ensures ∙ c.in_ok-sampled.was,
      c.after_core.ensures,
    )
