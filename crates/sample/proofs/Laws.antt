-- Both operating bins are among the sixteen. Assumes nothing.
use Prim.Native.Nat.{◌≤◌}
use mathlib.Core.Path.{◌≡◌}
use native.Mathlib.Omega.{arith}
use lib.Ieee.{Float}
use Rattle.integrator.specs.declared.IntegratorState.{IntegratorState}
use Rattle.response.specs.declared.TablePosition.{TablePosition}
use Rattle.response.specs.Position.{operating_position_of}
use Rattle.response.proofs.Laws.{operating_lower}

operating_upper : (input band low : Float) → (operating_position_of input band low).upper ≤ 15
unfolding operating_position_of
operating_upper input band low = omega arith

pub both_bins : (input : Float) (s : IntegratorState) {at : TablePosition} → at ≡ operating_position_of input s.band_state s.low_state → (at.lower ≤ 15) × (at.upper ≤ 15)
both_bins input s e = rw e (operating_lower input s.band_state s.low_state, operating_upper input s.band_state s.low_state)
