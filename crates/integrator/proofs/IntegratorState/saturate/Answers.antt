use mathlib.Core.Path.{refl}
use Rattle.integrator.specs.Integrator.{saturate_of}
use Rattle.integrator.proofs.IntegratorState.saturate.Goals as goal

pub returns : goal.returns
unfolding saturate_of
returns c = refl
