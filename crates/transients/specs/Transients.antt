-- The transients (transients.rs), and what a write of the volume charges (filter.rs, `write_mode_and_volume`), operation by operation.
use Rattle.std.specs.Prelude.{ℕ, Bool, false, ◌&&◌, Float}
use Rattle.std.specs.Float.Ieee.Scale.{finite}
use Rattle.constants.specs.Values as K
use Rattle.floats.specs.Arithmetic.{◌⊕◌, ◌⊖◌, ◌⊗◌, ◌⊘◌, f32}
use Rattle.floats.specs.Floats.{finite_f32_of}
use Rattle.response.specs.Levels.{volume_dac_conductance_code_of}
use Rattle.transients.specs.declared.SawBlends.{SawBlends}
use Rattle.transients.specs.declared.TransientState.{TransientState}

-- `TransientState::new`, and what its `reset` leaves
abbrev pub starting_transients : TransientState
starting_transients =
    record {
      volume_fast_charge = f32 0;
      volume_slow_charge = f32 0;
      bypass_attack_charge = f32 0;
      pulse_gate_fast_charge = f32 0;
      pulse_gate_slow_charge = f32 0;
      volume_conductance_code = f32 0;
      previous_bypass_activity = f32 0;
      saw_mixer_blend = record { one = f32 0; two = f32 0; three = f32 0 };
      pulse_gate_pending = false;
    }

-- the same with other charges of the volume and another conductance
abbrev pub with_volume : TransientState → Float → Float → Float → TransientState
with_volume t fast slow conductance =
    record {
      volume_fast_charge = fast;
      volume_slow_charge = slow;
      bypass_attack_charge = t.bypass_attack_charge;
      pulse_gate_fast_charge = t.pulse_gate_fast_charge;
      pulse_gate_slow_charge = t.pulse_gate_slow_charge;
      volume_conductance_code = conductance;
      previous_bypass_activity = t.previous_bypass_activity;
      saw_mixer_blend = t.saw_mixer_blend;
      pulse_gate_pending = t.pulse_gate_pending;
    }

-- What a 24-byte block becomes: zeros, and the conductance of its volume.
abbrev pub at_volume_of : ℕ → TransientState
at_volume_of volume = with_volume starting_transients (f32 0) (f32 0) (volume_dac_conductance_code_of volume)

-- The step goes from the conductance that is held to the volume's own, as a part of the full one; each charge takes its share. It is done at every write, also where the volume stays.
abbrev pub charge_of : TransientState → ℕ → TransientState
charge_of t volume =
    let previous = t.volume_conductance_code in
    let conductance = volume_dac_conductance_code_of volume in
    let full = volume_dac_conductance_code_of 15 in
    let step = (previous ⊖ conductance) ⊘ full in
    with_volume t
    (t.volume_fast_charge ⊕ step ⊗ K.sid_volume_transition_fast_charge_full_scale)
    (t.volume_slow_charge ⊕ step ⊗ K.sid_volume_transition_slow_charge_full_scale)
    conductance

-- ---- finite

unfoldable pub finite_blends_of : SawBlends → Bool
finite_blends_of b = finite_f32_of b.one && finite_f32_of b.two && finite_f32_of b.three

-- The ten floats.
unfoldable pub finite_transients_of : TransientState → Bool
finite_transients_of t =
    (finite_f32_of t.volume_fast_charge
    && finite_f32_of t.volume_slow_charge
    && finite_f32_of t.bypass_attack_charge
    && finite_f32_of t.pulse_gate_fast_charge)
    && (finite_f32_of t.pulse_gate_slow_charge
    && finite_f32_of t.volume_conductance_code
    && finite_f32_of t.previous_bypass_activity
    && finite_blends_of t.saw_mixer_blend)

-- The two charges that a write moves. Its third float, the conductance of a volume, is always finite.
unfoldable pub finite_charges_of : TransientState → Bool
finite_charges_of t = finite t.volume_fast_charge && finite t.volume_slow_charge
