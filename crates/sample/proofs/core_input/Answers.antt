use mathlib.Core.Path.{sym, ◌∙◌}
use Rattle.answers.proofs.Laws.{handed_on, unless_done, unless_refused}
use Rattle.sample.specs.Parts.{core_input_of}
use Rattle.sample.proofs.core_input.Goals as goal

pub returns-in_err-unless : goal.returns-in_err-unless
unfolding core_input_of
returns-in_err-unless c =
    let off = unless_refused _ _ (sym c.unless.ensures ∙ c.in_err-unless.was) in
    handed_on _ c.from_residual.ensures ∙ simp (← c.is_finite.ensures, ← c.is_finite-2.ensures, off.0, off.1)

pub returns-then-is_idle : goal.returns-then-is_idle
unfolding core_input_of
returns-then-is_idle c =
    simp (← c.is_finite.ensures, ← c.is_finite-2.ensures, unless_done _ _ (sym c.unless.ensures ∙ c.in_ok-unless.was), ← c.is_idle.ensures, c.if-is_idle.true)

pub returns-in_err-level : goal.returns-in_err-level
unfolding core_input_of
returns-in_err-level c =
    handed_on _ c.from_residual-in_err-level.ensures
    ∙ simp (
      ← c.is_finite.ensures,
      ← c.is_finite-2.ensures,
      unless_done _ _ (sym c.unless.ensures ∙ c.in_ok-unless.was),
      ← c.is_idle.ensures,
      c.if-is_idle.false,
      sym c.summed.ensures ∙ c.in_err-level.was,
    )

pub returns : goal.returns
unfolding core_input_of
returns c =
    simp (
      ← c.is_finite.ensures,
      ← c.is_finite-2.ensures,
      unless_done _ _ (sym c.unless.ensures ∙ c.in_ok-unless.was),
      ← c.is_idle.ensures,
      c.if-is_idle.false,
      sym c.summed.ensures ∙ c.in_ok-level.was,
    )
