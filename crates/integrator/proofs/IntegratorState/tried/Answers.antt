use Rattle.integrator.specs.Integrator.{advance_of}
use Rattle.integrator.specs.Tried.{tried_of}
use Rattle.integrator.proofs.Laws.{some_if}
use Rattle.integrator.proofs.IntegratorState.tried.Goals as goal

pub returns-then-not-is_finite : goal.returns-then-not-is_finite
unfolding tried_of advance_of
returns-then-not-is_finite c =
    simp (
      ← c.effective_input-effective_input.ensures,
      ← c.band_output-band.ensures,
      ← c.trapezoidal.ensures,
      ← c.is_finite.ensures,
      c.if-not-is_finite.true,
    )

pub returns : goal.returns
unfolding tried_of advance_of
returns c =
    simp (
      c.then_some.ensures,
      some_if,
      c.is_finite-2.ensures,
      ← c.effective_input-effective_input.ensures,
      ← c.band_output-band.ensures,
      ← c.trapezoidal.ensures,
      ← c.is_finite.ensures,
      c.if-not-is_finite.false,
      ← c.low_output-low.ensures,
      c.concluded-advanced.ensures,
    )
