use Rattle.integrator.proofs.IntegratorState.effective_input.Goals as goal

pub returns : goal.returns
returns c = simp c.saturate-nonlinear_band.ensures
