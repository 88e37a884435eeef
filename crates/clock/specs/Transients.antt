-- What a tick does to the transients (filter.rs, `clock`), operation by operation, in the Rust's order: the saws settle, an attack and a pulse's gate charge, the charges decay.
use Rattle.std.specs.Prelude.{ℕ, false, ◌&&◌, cond, List, eqb, ltb, Float}
use Rattle.std.specs.Float.Ieee.{lt}
use Rattle.constants.specs.Values as K
use Rattle.floats.specs.Arithmetic.{◌⊕◌, ◌⊖◌, ◌⊗◌, f32}
use Rattle.wire.specs.Wire.{f32_at}
use Rattle.voice.specs.declared.VoiceSignal.{VoiceSignal}
use Rattle.transients.specs.declared.SawBlends.{SawBlends}
use Rattle.transients.specs.declared.TransientState.{TransientState}
use Rattle.signals.specs.declared.Voices.{Voices}
use Rattle.signals.specs.declared.RoutedSignals.{RoutedSignals}
use Rattle.activity.specs.Activity.{attack_charge_of}
use Rattle.clock.specs.declared.Factors.{Factors}

-- The six lent numbers: the decays of the five charges, and the saw tracking.
unfoldable pub factors_of : List ℕ → Factors
factors_of s =
    record {
      volume_fast_decay = f32_at s 0;
      volume_slow_decay = f32_at s 4;
      bypass_attack_decay = f32_at s 8;
      pulse_gate_fast_decay = f32_at s 12;
      pulse_gate_slow_decay = f32_at s 16;
      saw_mixer_tracking = f32_at s 20;
    }

-- ---- the saws

-- f32::from(voice.waveform_selection == 2 && voice.envelope > 0.02)
abbrev pub target_of : VoiceSignal → Float
target_of v = cond (eqb v.waveform_selection 2 && lt (f32 0x3ca3_d70a) v.envelope) (f32 0x3f80_0000) (f32 0)

-- *blend += saw_mixer_tracking * (target - *blend)
abbrev pub tracked_blend_of : Float → VoiceSignal → Float → Float
tracked_blend_of tracking v blend = blend ⊕ tracking ⊗ (target_of v ⊖ blend)

-- each voice's, routed or not
unfoldable pub tracked_blends_of : Float → Voices → SawBlends → SawBlends
tracked_blends_of tracking voices b =
    record {
      one = tracked_blend_of tracking voices.one b.one;
      two = tracked_blend_of tracking voices.two b.two;
      three = tracked_blend_of tracking voices.three b.three;
    }

abbrev pub with_blends : TransientState → SawBlends → TransientState
with_blends t blends =
    record {
      volume_fast_charge = t.volume_fast_charge;
      volume_slow_charge = t.volume_slow_charge;
      bypass_attack_charge = t.bypass_attack_charge;
      pulse_gate_fast_charge = t.pulse_gate_fast_charge;
      pulse_gate_slow_charge = t.pulse_gate_slow_charge;
      volume_conductance_code = t.volume_conductance_code;
      previous_bypass_activity = t.previous_bypass_activity;
      saw_mixer_blend = blends;
      pulse_gate_pending = t.pulse_gate_pending;
    }

-- ---- the combined voices

-- voices.iter().filter(combined).map(envelope).sum(): an iterator's sum starts from -0.0. Each voice, routed or not.
abbrev pub add_combined_of : Float → VoiceSignal → Float
add_combined_of sum v = cond v.combined (sum ⊕ v.envelope) sum

unfoldable pub combined_activity_of : Voices → Float
combined_activity_of voices = add_combined_of (add_combined_of (add_combined_of (f32 0x8000_0000) voices.one) voices.two) voices.three

-- ---- the attack

-- the same with another attack charge and another previous activity
abbrev pub with_attack : TransientState → Float → Float → TransientState
with_attack t charge previous =
    record {
      volume_fast_charge = t.volume_fast_charge;
      volume_slow_charge = t.volume_slow_charge;
      bypass_attack_charge = charge;
      pulse_gate_fast_charge = t.pulse_gate_fast_charge;
      pulse_gate_slow_charge = t.pulse_gate_slow_charge;
      volume_conductance_code = t.volume_conductance_code;
      previous_bypass_activity = previous;
      saw_mixer_blend = t.saw_mixer_blend;
      pulse_gate_pending = t.pulse_gate_pending;
    }

-- No voice beside the filter: the previous activity is 0.0. Else it becomes the pure one, and where that is a rise the charge becomes the attack's.
unfoldable pub attacked_of : TransientState → ℕ → RoutedSignals → TransientState
attacked_of t mask s =
    let pure = s.pure_bypass_envelope_activity in
    cond (eqb mask 0)
    (with_attack t t.bypass_attack_charge (f32 0))
    (with_attack t (cond (lt t.previous_bypass_activity pure) (attack_charge_of s.pure_bypass_attack_drive pure) t.bypass_attack_charge) pure)

-- ---- the pulse's gate

-- the same with both pulse charges at a charge, and nothing pending
abbrev pub with_pulse : TransientState → Float → TransientState
with_pulse t charge =
    record {
      volume_fast_charge = t.volume_fast_charge;
      volume_slow_charge = t.volume_slow_charge;
      bypass_attack_charge = t.bypass_attack_charge;
      pulse_gate_fast_charge = charge;
      pulse_gate_slow_charge = charge;
      volume_conductance_code = t.volume_conductance_code;
      previous_bypass_activity = t.previous_bypass_activity;
      saw_mixer_blend = t.saw_mixer_blend;
      pulse_gate_pending = false;
    }

-- pulse_gate_pending && pure_pulse_envelope_activity > 0.0 && volume > 0: PURE_PULSE_GATE_RELAXATION_CHARGE * volume_fraction
unfoldable pub pulsed_of : TransientState → ℕ → Float → Float → TransientState
pulsed_of t volume fraction pulse = cond (t.pulse_gate_pending && lt (f32 0) pulse && ltb 0 volume) (with_pulse t (K.pure_pulse_gate_relaxation_charge ⊗ fraction)) t

-- ---- the output node

-- volume fast plus slow plus pulse fast minus pulse slow, left to right, just before they decay
unfoldable pub node_charge_of : TransientState → Float
node_charge_of t = t.volume_fast_charge ⊕ t.volume_slow_charge ⊕ t.pulse_gate_fast_charge ⊖ t.pulse_gate_slow_charge

-- each charge times its decay
unfoldable pub decayed_of : TransientState → Factors → TransientState
decayed_of t f =
    record {
      volume_fast_charge = t.volume_fast_charge ⊗ f.volume_fast_decay;
      volume_slow_charge = t.volume_slow_charge ⊗ f.volume_slow_decay;
      bypass_attack_charge = t.bypass_attack_charge ⊗ f.bypass_attack_decay;
      pulse_gate_fast_charge = t.pulse_gate_fast_charge ⊗ f.pulse_gate_fast_decay;
      pulse_gate_slow_charge = t.pulse_gate_slow_charge ⊗ f.pulse_gate_slow_decay;
      volume_conductance_code = t.volume_conductance_code;
      previous_bypass_activity = t.previous_bypass_activity;
      saw_mixer_blend = t.saw_mixer_blend;
      pulse_gate_pending = t.pulse_gate_pending;
    }
