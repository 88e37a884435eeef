use Rattle.integrator.proofs.IntegratorState.concluded.Goals as goal

pub returns : goal.returns
returns c = simp (c.trapezoidal-2.ensures, c.trapezoidal.ensures)
