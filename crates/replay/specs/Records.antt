-- oracle/README.md: a file is a row of records, a record a fixed number of little-endian u32 words.
use Rattle.std.specs.Prelude.{ℕ, ◌+◌, ◌*◌, ◌/◌, Bool, true, false, cond, ◌&&◌, List, [], ◌∷◌, eqb, ltb, length, take, drop, Float}
use Rattle.std.specs.Float.{binary32}
use Rattle.std.specs.Float.Ieee.{to_bits}
use Rattle.wire.specs.Wire.{u32_at}

-- the whole records in a number of bytes
unfoldable pub record_count_of : ℕ → ℕ → ℕ
record_count_of bytes words = cond (eqb words 0) 0 (bytes / 4 / words)

-- the i-th record, and nothing past the last
unfoldable pub record_of : List ℕ → ℕ → ℕ → List ℕ
record_of s words i = cond (ltb i (record_count_of (length s) words)) (take (4 * words) (drop (4 * (words * i)) s)) []

-- two words, the low one first, and 0 past the end
unfoldable pub u64_at : List ℕ → ℕ → ℕ
u64_at s p = cond (ltb p (length s)) (u32_at s p + u32_at s (p + 4) * 0x1_0000_0000) 0

-- the words from p on are the bits of floats
abbrev pub are_floats : List ℕ → ℕ → List Float → Bool
are_floats s p [] = true
are_floats s p (x ∷ xs) = eqb (u32_at s p) (to_bits binary32 x) && are_floats s (p + 4) xs

-- the same of at most 64 floats at a place in the record
unfoldable pub has_floats : List ℕ → ℕ → List Float → Bool
has_floats s p xs = cond (ltb (length s) p) false (cond (ltb 64 (length xs)) false (are_floats s p xs))
