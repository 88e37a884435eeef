-- The drives at an operating bin (tables.rs, `build_filter_coefficients`): the bin over 15 is rounded, then its product with the slope, then the sum.
use Rattle.std.specs.Prelude.{ℕ, List, [], ◌∷◌, pos, Float}
use Rattle.std.specs.Float.{binary32}
use Rattle.std.specs.Float.Ieee.{of_bits, of_int, add, mul, div}

unfoldable pub drive_of : Float → Float → ℕ → Float
drive_of offset slope bin =
    add binary32 offset (mul binary32 slope (div binary32 (of_int binary32 (pos bin)) (of_bits binary32 0x41700000)))

-- The drive into the filter, 0.72 + 0.88 × p.
unfoldable pub input_drive_of : ℕ → Float
input_drive_of bin = drive_of (of_bits binary32 0x3f3851ec) (of_bits binary32 0x3f6147ae) bin

-- The drive of its feedback, 0.48 + 1.62 × p.
unfoldable pub feedback_drive_of : ℕ → Float
feedback_drive_of bin = drive_of (of_bits binary32 0x3ef5c28f) (of_bits binary32 0x3fcf5c29) bin

-- One entry for each of the sixteen operating bins.
abbrev pub sixteen : (ℕ → Float) → List Float
sixteen entry =
    entry 0 ∷ entry 1 ∷ entry 2 ∷ entry 3 ∷ entry 4 ∷ entry 5 ∷ entry 6 ∷ entry 7
    ∷ entry 8 ∷ entry 9 ∷ entry 10 ∷ entry 11 ∷ entry 12 ∷ entry 13 ∷ entry 14 ∷ entry 15 ∷ []

unfoldable pub input_drives_of : List Float
input_drives_of = sixteen input_drive_of

unfoldable pub feedback_drives_of : List Float
feedback_drives_of = sixteen feedback_drive_of
