-- The transients in a state's block (docs/FORMATS.md), its bytes 24 to 67, and the six numbers that are lent beside it.
use Rattle.std.specs.Prelude.{ℕ, Bool, ◌&&◌, List, [], ◌∷◌, ◌++◌, leb, eqb, length, Err}
use Rattle.std.specs.Float.Ieee.{le}
use mir.Val.{bool_byte}
use Rattle.answers.specs.declared.Refusal.TheVariants.{Decays}
use Rattle.answers.specs.Answers.{Answer, unless_of}
use Rattle.floats.specs.Arithmetic.{f32}
use Rattle.wire.specs.Wire.{byte_at, f32_at, float_bytes}
use Rattle.transients.specs.declared.TransientState.{TransientState}

-- Ten f32: the five charges, the conductance code, the activity and the three blends; then the pending byte and three zeros.
unfoldable pub transient_bytes : TransientState → List ℕ
transient_bytes t =
    float_bytes t.volume_fast_charge
    ++ float_bytes t.volume_slow_charge
    ++ float_bytes t.bypass_attack_charge
    ++ float_bytes t.pulse_gate_fast_charge
    ++ float_bytes t.pulse_gate_slow_charge
    ++ float_bytes t.volume_conductance_code
    ++ float_bytes t.previous_bypass_activity
    ++ float_bytes t.saw_mixer_blend.one
    ++ float_bytes t.saw_mixer_blend.two
    ++ float_bytes t.saw_mixer_blend.three
    ++ (bool_byte t.pulse_gate_pending ∷ 0 ∷ 0 ∷ 0 ∷ [])

-- The fields by their places in the block.
unfoldable pub transient_fields_of : List ℕ → TransientState
transient_fields_of b =
    record {
      volume_fast_charge = f32_at b 24;
      volume_slow_charge = f32_at b 28;
      bypass_attack_charge = f32_at b 32;
      pulse_gate_fast_charge = f32_at b 36;
      pulse_gate_slow_charge = f32_at b 40;
      volume_conductance_code = f32_at b 44;
      previous_bypass_activity = f32_at b 48;
      saw_mixer_blend = record { one = f32_at b 52; two = f32_at b 56; three = f32_at b 60 };
      pulse_gate_pending = eqb (byte_at b 64) 1;
    }

-- Pending 0 or 1, the zeros zero.
unfoldable pub tidy_transients_of : List ℕ → Bool
tidy_transients_of b = leb (byte_at b 64) 1 && eqb (byte_at b 65) 0 && eqb (byte_at b 66) 0 && eqb (byte_at b 67) 0

-- ---- the lent numbers: the five decays in the charges' order, then the saw tracking

-- from 0 to 1 by value, so that -0 is one of them and a NaN is not
unfoldable pub factor_at : List ℕ → ℕ → Bool
factor_at s p = le (f32 0) (f32_at s p) && le (f32_at s p) (f32 0x3f80_0000)

-- 12
unfoldable pub judge_decays_of : List ℕ → Answer
judge_decays_of s =
    unless_of
    (eqb (length s) 24 && (factor_at s 0 && factor_at s 4 && factor_at s 8 && factor_at s 12 && factor_at s 16) && factor_at s 20)
    Decays
