-- The state block (docs/FORMATS.md): which states are valid, the 68 bytes of a state, and the state that bytes stand for.
use Rattle.std.specs.Prelude.{ℕ, Bool, cond, ◌&&◌, List, [], ◌∷◌, ◌++◌, leb, eqb, length, Option, Some, None}
use Rattle.std.specs.Int.Signed.{le_z}
use Rattle.std.specs.Int.{w16}
use mir.Val.{of_z, bool_byte}
use Rattle.floats.specs.Floats.{finite_f32_of}
use Rattle.wire.specs.Wire.{byte_at, u16_at, i16_at, f32_at, bytes_of, float_bytes}
use Rattle.integrator.specs.declared.IntegratorState.{IntegratorState}
use Rattle.transients.specs.Transients.{finite_transients_of}
use Rattle.transients.specs.Block.{transient_bytes, transient_fields_of, tidy_transients_of}
use Rattle.control.specs.Registers.{cutoff_max, nibble_max, displacement_min, displacement_max}
use Rattle.control.specs.declared.FilterRegisters.{FilterRegisters}
use Rattle.control.specs.declared.State.{State}

-- ---- validity

-- Cutoff and write base at most 2,047, displacement -57 to 57, the four nibbles at most 15. Pending is 0 or 1 by its type.
unfoldable pub valid_registers_of : FilterRegisters → Bool
valid_registers_of r =
    (leb r.cutoff cutoff_max
    && leb r.cutoff_write_base cutoff_max
    && le_z displacement_min r.cutoff_dac_displacement_codes
    && le_z r.cutoff_dac_displacement_codes displacement_max)
    && (leb r.resonance nibble_max && leb r.routing nibble_max && leb r.mode nibble_max && leb r.volume nibble_max)

-- The three floats finite.
unfoldable pub finite_floats_of : IntegratorState → Bool
finite_floats_of i = finite_f32_of i.band_state && finite_f32_of i.low_state && finite_f32_of i.filter_source_energy

-- A valid state.
unfoldable pub valid_of : State → Bool
valid_of s = valid_registers_of s.registers && finite_floats_of s.integrator && finite_transients_of s.transients

-- ---- the block

abbrev pub block_length : ℕ
block_length = 68

abbrev pub narrow_length : ℕ
narrow_length = 24

-- Its first 24 bytes: cutoff u16; displacement i16; write base u16; a byte each: pending, resonance, routing, mode, volume, zero; then f32 band, low and source energy.
unfoldable pub narrow_bytes : FilterRegisters → IntegratorState → List ℕ
narrow_bytes r i =
    bytes_of 2 r.cutoff
    ++ bytes_of 2 (of_z w16 r.cutoff_dac_displacement_codes)
    ++ bytes_of 2 r.cutoff_write_base
    ++ (bool_byte r.cutoff_low_pending ∷ r.resonance ∷ r.routing ∷ r.mode ∷ r.volume ∷ 0 ∷ [])
    ++ float_bytes i.band_state
    ++ float_bytes i.low_state
    ++ float_bytes i.filter_source_energy

-- Behind them the transients' 44.
unfoldable pub block_of : State → List ℕ
block_of s = narrow_bytes s.registers s.integrator ++ transient_bytes s.transients

-- The fields by their places. What is not there reads as 0.
unfoldable pub register_fields_of : List ℕ → FilterRegisters
register_fields_of b =
    record {
      cutoff = u16_at b 0;
      cutoff_dac_displacement_codes = i16_at b 2;
      cutoff_write_base = u16_at b 4;
      cutoff_low_pending = eqb (byte_at b 6) 1;
      resonance = byte_at b 7;
      routing = byte_at b 8;
      mode = byte_at b 9;
      volume = byte_at b 10;
    }

unfoldable pub integrator_fields_of : List ℕ → IntegratorState
integrator_fields_of b = record { band_state = f32_at b 12; low_state = f32_at b 16; filter_source_energy = f32_at b 20 }

unfoldable pub fields_of : List ℕ → State
fields_of b = record { registers = register_fields_of b; integrator = integrator_fields_of b; transients = transient_fields_of b }

-- Pending 0 or 1, the zero byte zero.
unfoldable pub tidy_of : List ℕ → Bool
tidy_of b = leb (byte_at b 6) 1 && eqb (byte_at b 11) 0

-- 68 bytes long, the bytes that are no numbers as they should be, and the fields a valid state.
unfoldable pub decode_of : List ℕ → Option State
decode_of b = cond (eqb (length b) block_length && tidy_of b && tidy_transients_of b && valid_of (fields_of b)) (Some (fields_of b)) None

-- A block of 68 bytes takes the state's; any other bytes stay.
unfoldable pub encode_of : State → List ℕ → List ℕ
encode_of s old = cond (eqb (length old) block_length) (block_of s) old
