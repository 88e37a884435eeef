-- What the voices beside the filter do to the mixer and the output (filter.rs, `clock`), operation by operation: laws of their activity, the sum of their envelopes.
use Rattle.std.specs.Prelude.{ℕ, Bool, cond, eqb, Float}
use Rattle.std.specs.Float.Ieee.{lt}
use Rattle.constants.specs.Values as K
use Rattle.floats.specs.Arithmetic.{◌⊕◌, ◌⊖◌, ◌⊗◌, f32}
use Rattle.floats.specs.Floats.{clamp_of}
use Rattle.response.specs.Levels.{filter_mode_quiescent_level_of}

abbrev one : Float
one = f32 0x3f80_0000

abbrev two : Float
two = f32 0x4000_0000

-- ---- how far two voices sound, and a third

-- (1.0 - (activity - 2.0) * (activity - 2.0)).clamp(0.0, 1.0)
unfoldable pub two_voice_activity_of : Float → Float
two_voice_activity_of a = clamp_of (one ⊖ (a ⊖ two) ⊗ (a ⊖ two)) (f32 0) one

-- (activity - 2.0).clamp(0.0, 1.0)
unfoldable pub three_voice_activity_of : Float → Float
three_voice_activity_of a = clamp_of (a ⊖ two) (f32 0) one

-- ---- the mixer

-- 1.0 - SID_MIXER_TWO_VOICE_ACTIVITY_LOAD * two_voice_activity + SID_MIXER_THREE_VOICE_ACTIVITY_LIFT * three_voice_activity
unfoldable pub mixer_activity_gain_of : Float → Float
mixer_activity_gain_of a = one ⊖ K.sid_mixer_two_voice_activity_load ⊗ two_voice_activity_of a ⊕ K.sid_mixer_three_voice_activity_lift ⊗ three_voice_activity_of a

-- 1.0 + two_voice_activity * two_voice_volume_gain_offset
unfoldable pub two_voice_volume_gain_of : Float → Float → Float
two_voice_volume_gain_of a offset = one ⊕ two_voice_activity_of a ⊗ offset

-- `mixer_output`: as it is where the bypass is quiescent, else moved about the level at rest, at an activity of 0 too
unfoldable pub mixer_output_of : Bool → Float → Float → Float → Float
mixer_output_of quiescent a offset raw =
    let rest = filter_mode_quiescent_level_of in
    cond quiescent raw (rest ⊕ (raw ⊖ rest) ⊗ mixer_activity_gain_of a ⊗ two_voice_volume_gain_of a offset)

-- ---- the output

-- `bypass_output_gain`: 1.0 where the mode selects an output
unfoldable pub bypass_output_gain_of : ℕ → Float → Float
bypass_output_gain_of outputs a =
    cond (eqb outputs 0) (one ⊕ K.filter_bypass_activity_linear_gain ⊗ a ⊖ K.filter_bypass_activity_quadratic_gain ⊗ a ⊗ a) one

-- ---- an attack of the pure voices

unfoldable pub load_coefficient_of : Float → Float
load_coefficient_of pure =
    K.pure_bypass_attack_common_mode_one_voice
    ⊕ K.pure_bypass_attack_common_mode_two_voice_delta ⊗ two_voice_activity_of pure
    ⊕ K.pure_bypass_attack_common_mode_three_voice_delta ⊗ three_voice_activity_of pure

-- x.max(0.0): a NaN gives 0.0. Of two zeros the Rust may give either; the coefficient is never one.
abbrev pub max_zero_of : Float → Float
max_zero_of x = cond (lt (f32 0) x) x (f32 0)

-- `bypass_attack_charge` at a rise to an activity, with the drive of its voices
unfoldable pub attack_charge_of : Float → Float → Float
attack_charge_of drive pure =
    K.pure_bypass_output_common_mode ⊗ drive ⊗ max_zero_of (load_coefficient_of pure) ⊗ K.pure_bypass_attack_common_mode_scale
