-- The filter's registers (the 6581's data sheet, registers 21 to 24), and what each write makes of the state (control.rs and
-- filter.rs, in the Rust's order).
use Rattle.std.specs.Prelude.{ℕ, ◌+◌, ◌*◌, ◌/◌, ◌%◌, ◌^◌, Bool, true, false, cond, ℤ, pos, negsuc, nat_abs, ◌+ℤ◌, ◌-ℤ◌}
use Rattle.std.specs.Int.Signed.{lt_z}
use Rattle.std.specs.Float.{binary32}
use Rattle.std.specs.Float.Ieee.{of_bits, of_int, to_signed, mul, neg}
use Rattle.floats.specs.Floats.{round_of, clamp_of}
use Rattle.constants.specs.Values.{filter_cutoff_step_charge_gain, filter_cutoff_step_charge_limit_codes}
use Rattle.transients.specs.declared.TransientState.{TransientState}
use Rattle.transients.specs.Transients.{starting_transients, charge_of}
use Rattle.control.specs.declared.FilterRegisters.{FilterRegisters}
use Rattle.control.specs.declared.State.{State}

-- ---- the data sheet

-- The width bits from bit low up, as a number.
abbrev pub field : ℕ → ℕ → ℕ → ℕ
field low width v = v / 2 ^ low % 2 ^ width

-- 21, FC LO. Bits 2..0: the cutoff's bits 2..0. The others are not used.
abbrev pub fc_low : ℕ → ℕ
fc_low v = field 0 3 v

-- 22, FC HI. Bits 7..0: the cutoff's bits 10..3.
abbrev pub fc_high : ℕ → ℕ
fc_high v = field 0 8 v

-- 23, RES/FILT. Bits 7..4: the resonance. Bits 3..0: the routing of the external input and of voices 3, 2 and 1.
abbrev pub resonance_bits : ℕ → ℕ
resonance_bits v = field 4 4 v

abbrev pub routing_bits : ℕ → ℕ
routing_bits v = field 0 4 v

-- 24, MODE/VOL. Bits 7..4: voice 3 off, high-pass, band-pass, low-pass. Bits 3..0: the volume.
abbrev pub mode_bits : ℕ → ℕ
mode_bits v = field 4 4 v

abbrev pub volume_bits : ℕ → ℕ
volume_bits v = field 0 4 v

-- The cutoff, a code of 11 bits, from its bits 10..3 and its bits 2..0; and the two parts of a code.
abbrev pub cutoff_of : ℕ → ℕ → ℕ
cutoff_of high low = high * 8 + low

abbrev pub cutoff_high : ℕ → ℕ
cutoff_high c = field 3 8 c

abbrev pub cutoff_low : ℕ → ℕ
cutoff_low c = field 0 3 c

-- ---- the ends of the fields

-- the largest cutoff, a code of 11 bits; the largest value of a field of 4 bits; the displacement's two ends, in codes
abbrev pub cutoff_max : ℕ
cutoff_max = 2047

abbrev pub nibble_max : ℕ
nibble_max = 15

abbrev pub displacement_min : ℤ
displacement_min = negsuc 56

abbrev pub displacement_max : ℤ
displacement_max = filter_cutoff_step_charge_limit_codes

-- ---- the cutoff DAC

-- i32::from(next) - i32::from(previous)
unfoldable pub step_between_of : ℕ → ℕ → ℤ
step_between_of previous next = pos next -ℤ pos previous

-- (step as f32 * FILTER_CUTOFF_STEP_CHARGE_GAIN).round().clamp(-57.0, 57.0) as i16
unfoldable pub displacement_of : ℤ → ℤ
displacement_of step =
    let limit = of_int binary32 filter_cutoff_step_charge_limit_codes in
    to_signed 15 (clamp_of (round_of binary32 (mul binary32 (of_int binary32 step) filter_cutoff_step_charge_gain)) (neg limit) limit)

-- (cutoff + displacement).clamp(0, 2047)
unfoldable pub displaced_of : ℕ → ℤ → ℕ
displaced_of cutoff displacement =
    let sum = pos cutoff +ℤ displacement in
    cond (lt_z sum (pos 0)) 0 (cond (lt_z (pos cutoff_max) sum) cutoff_max (nat_abs sum))

abbrev pub effective_cutoff_of : State → ℕ
effective_cutoff_of s = displaced_of s.registers.cutoff s.registers.cutoff_dac_displacement_codes

-- ---- the starting value: all zero

abbrev pub starting_registers : FilterRegisters
starting_registers =
    record {
      cutoff = 0;
      cutoff_dac_displacement_codes = pos 0;
      cutoff_write_base = 0;
      cutoff_low_pending = false;
      resonance = 0;
      routing = 0;
      mode = 0;
      volume = 0;
    }

abbrev pub starting_state : State
starting_state =
    record {
      registers = starting_registers;
      integrator = record { band_state = of_bits binary32 0; low_state = of_bits binary32 0; filter_source_energy = of_bits binary32 0 };
      transients = starting_transients;
    }

-- A state with these registers: what a write makes of them, and what is worked out from them, depends on nothing else.
abbrev pub of_registers : FilterRegisters → State
of_registers r = record { registers = r; integrator = starting_state.integrator; transients = starting_state.transients }

-- ---- the writes

-- The state with other cutoff fields.
abbrev pub with_cutoff : State → ℕ → ℤ → ℕ → Bool → State
with_cutoff s cutoff displacement base pending =
    let r = s.registers in
    record {
      registers =
          record {
            cutoff = cutoff;
            cutoff_dac_displacement_codes = displacement;
            cutoff_write_base = base;
            cutoff_low_pending = pending;
            resonance = r.resonance;
            routing = r.routing;
            mode = r.mode;
            volume = r.volume;
          };
      integrator = s.integrator;
      transients = s.transients;
    }

-- The state with other nibbles.
abbrev pub with_nibbles : State → ℕ → ℕ → ℕ → ℕ → State
with_nibbles s resonance routing mode volume =
    let r = s.registers in
    record {
      registers =
          record {
            cutoff = r.cutoff;
            cutoff_dac_displacement_codes = r.cutoff_dac_displacement_codes;
            cutoff_write_base = r.cutoff_write_base;
            cutoff_low_pending = r.cutoff_low_pending;
            resonance = resonance;
            routing = routing;
            mode = mode;
            volume = volume;
          };
      integrator = s.integrator;
      transients = s.transients;
    }

-- The state with other transients.
abbrev pub with_transients : State → TransientState → State
with_transients s t = record { registers = s.registers; integrator = s.integrator; transients = t }

-- The base takes the cutoff at every write, pending or not. The displacement stays.
abbrev pub write_cutoff_low_of : State → ℕ → State
write_cutoff_low_of s value =
    let r = s.registers in
    let base = r.cutoff in
    let pending = true in
    let cutoff = cutoff_of (cutoff_high r.cutoff) (fc_low value) in
    with_cutoff s cutoff r.cutoff_dac_displacement_codes base pending

-- Where a write of FC HI steps from: the base while a write of FC LO is pending, else the cutoff.
abbrev pub previous_cutoff_of : FilterRegisters → ℕ
previous_cutoff_of r = cond r.cutoff_low_pending r.cutoff_write_base r.cutoff

-- The displacement follows from the step. The base stays.
abbrev pub write_cutoff_high_of : State → ℕ → State
write_cutoff_high_of s value =
    let r = s.registers in
    let next = cutoff_of (fc_high value) (cutoff_low r.cutoff) in
    let displacement = displacement_of (step_between_of (previous_cutoff_of r) next) in
    let pending = false in
    with_cutoff s next displacement r.cutoff_write_base pending

-- Two nibbles are replaced.
abbrev pub write_signal_routing_of : State → ℕ → State
write_signal_routing_of s value = with_nibbles s (resonance_bits value) (routing_bits value) s.registers.mode s.registers.volume

-- Two nibbles too, and the step of the volume is charged, also where the volume stays.
abbrev pub write_mode_and_volume_of : State → ℕ → State
write_mode_and_volume_of s value =
    with_transients (with_nibbles s s.registers.resonance s.registers.routing (mode_bits value) (volume_bits value)) (charge_of s.transients (volume_bits value))
