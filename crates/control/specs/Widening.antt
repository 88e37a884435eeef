-- A 24-byte block, which has no transients, and what it becomes: zeros there, and the conductance of its volume.
use Rattle.std.specs.Prelude.{ℕ, Bool, cond, ◌&&◌, List, eqb, length}
use Rattle.transients.specs.Transients.{at_volume_of}
use Rattle.control.specs.declared.State.{State}
use Rattle.control.specs.Block.{valid_registers_of, finite_floats_of, block_length, narrow_length, block_of, register_fields_of, integrator_fields_of, tidy_of}

-- valid as a block of 24 bytes
unfoldable pub narrow_valid_of : List ℕ → Bool
narrow_valid_of b = eqb (length b) narrow_length && tidy_of b && (valid_registers_of (register_fields_of b) && finite_floats_of (integrator_fields_of b))

unfoldable pub wide_of : List ℕ → State
wide_of b = record { registers = register_fields_of b; integrator = integrator_fields_of b; transients = at_volume_of (register_fields_of b).volume }

-- where the block is valid and the target has 68 bytes
abbrev pub widens_of : List ℕ → List ℕ → Bool
widens_of b old = narrow_valid_of b && eqb (length old) block_length

unfoldable pub widened_of : List ℕ → List ℕ → List ℕ
widened_of b old = cond (widens_of b old) (block_of (wide_of b)) old
