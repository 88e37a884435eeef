-- Positions in the operating bins and in the loading tables.
use Rattle.std.specs.Prelude.{ℕ, ◌+◌, min, pos, Float}
use Rattle.std.specs.Float.{binary32}
use Rattle.std.specs.Float.Ieee.{of_int, to_unsigned}
use Rattle.floats.specs.Arithmetic.{◌⊕◌, ◌⊖◌, ◌⊗◌, ◌⊘◌, f32}
use Rattle.floats.specs.Floats.{abs_of, clamp_of}
use Rattle.response.specs.declared.TablePosition.{TablePosition}

-- a position in a table whose last index is `last`: the whole part, the next index where there is one, and the fraction
abbrev pub table_position_of : ℕ → Float → TablePosition
table_position_of last position =
    let lower = to_unsigned 64 position in
    record { lower = lower; upper = min (lower + 1) last; fraction = position ⊖ of_int binary32 (pos lower) }

-- `operating_position`: 0.45, 0.33 and 0.22 of the input's, the band's and the low state's magnitude, in 15ths
unfoldable pub activity_of : Float → Float → Float → Float
activity_of input band low =
    clamp_of (f32 0x3ee6_6666 ⊗ abs_of input ⊕ f32 0x3ea8_f5c3 ⊗ abs_of band ⊕ f32 0x3e61_47ae ⊗ abs_of low) (f32 0) (f32 0x3f80_0000)

unfoldable pub operating_position_of : Float → Float → Float → TablePosition
operating_position_of input band low = table_position_of 15 (activity_of input band low ⊗ f32 0x4170_0000)

-- cutoff as f32 * 31.0 / 2047.0, which is not negative, so that its floor is its whole part
unfoldable pub loading_position_of : ℕ → TablePosition
loading_position_of cutoff = table_position_of 31 (of_int binary32 (pos cutoff) ⊗ f32 0x41f8_0000 ⊘ f32 0x44ff_e000)
