-- `frozen_dac_operating_point` of mixing.rs, operation by operation. Where the Rust has no point, `configured_of` is false.
use Rattle.std.specs.Prelude.{ℕ, ◌/◌, ◌%◌, Bool, ◌&&◌, cond, List, [], ◌∷◌, eqb, pos, get_or, Float}
use Rattle.std.specs.Float.{nan, binary32}
use Rattle.std.specs.Float.Ieee.{lt, of_int}
use Rattle.constants.specs.Values as K
use Rattle.floats.specs.Arithmetic.{◌⊕◌, ◌⊖◌, ◌⊗◌, ◌⊘◌, f32}
use Rattle.voice.specs.declared.VoiceSignal.{VoiceSignal}
use Rattle.signals.specs.declared.Voices.{Voices}

-- voice.frozen && voice.envelope > 0.99
abbrev pub stands_of : VoiceSignal → Bool
stands_of v = v.frozen && lt (f32 0x3f7d_70a4) v.envelope

-- the bias mode, and all three voices so
unfoldable pub configured_of : Bool → Voices → Bool
configured_of bias voices = bias && (stands_of voices.one && stands_of voices.two && stands_of voices.three)

-- ---- the point

-- (volume - 7.5) / 7.5
abbrev pub volume_position_of : ℕ → Float
volume_position_of volume = (of_int binary32 (pos volume) ⊖ f32 0x40f0_0000) ⊘ f32 0x40f0_0000

-- f32::from(bool)
abbrev pub unit_of : Bool → Float
unit_of on = cond on (f32 0x3f80_0000) (f32 0)

abbrev pub mode_bit_of : ℕ → ℕ → Float
mode_bit_of mode weight = unit_of (eqb (mode / weight % 2) 1)

-- 1.0, the mode's four bits, and each pair of them multiplied
unfoldable pub terms_of : ℕ → List Float
terms_of mode =
    let b0 = mode_bit_of mode 1 in
    let b1 = mode_bit_of mode 2 in
    let b2 = mode_bit_of mode 4 in
    let b3 = mode_bit_of mode 8 in
    f32 0x3f80_0000 ∷ b0 ∷ b1 ∷ b2 ∷ b3 ∷ b0 ⊗ b1 ∷ b0 ⊗ b2 ∷ b0 ⊗ b3 ∷ b1 ⊗ b2 ∷ b1 ⊗ b3 ∷ b2 ⊗ b3 ∷ []

-- row[0] + x * (row[1] + x * row[2])
abbrev pub polynomial_of : List Float → Float → Float
polynomial_of row x = get_or row 0 nan ⊕ x ⊗ (get_or row 1 nan ⊕ x ⊗ get_or row 2 nan)

-- term * row for each row with its term, added up in turn
unfoldable pub weighted_sum_of : Float → Float → List (List Float) → List Float → Float
weighted_sum_of x sum [] terms = sum
weighted_sum_of x sum (row ∷ rows) [] = sum
weighted_sum_of x sum (row ∷ rows) (term ∷ terms) = weighted_sum_of x (sum ⊕ term ⊗ polynomial_of row x) rows terms

-- An iterator's sum starts from -0.0.
unfoldable pub frozen_dac_operating_point_of : ℕ → ℕ → Float
frozen_dac_operating_point_of mode volume = weighted_sum_of (volume_position_of volume) (f32 0x8000_0000) K.sid_frozen_dac_polynomial (terms_of mode)
