use Rattle.integrator.specs.Integrator.{advance_of}
use Rattle.integrator.proofs.IntegratorState.advance.Goals as goal

pub returns : goal.returns
unfolding advance_of
returns c = simp (c.concluded.ensures, c.low_output-low.ensures, c.band_output-band.ensures, c.effective_input-effective_input.ensures)
