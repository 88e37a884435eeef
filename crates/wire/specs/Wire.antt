-- Little-endian numbers and floats in a list of bytes: what stands at a place, and the list with bytes written at a place.
use Rattle.std.specs.Prelude.{ℕ, zero, suc, ◌+◌, ◌*◌, ◌/◌, ◌%◌, ◌^◌, ◌<◌, Bool, true, cond, ◌&&◌, List, [], ◌∷◌, ◌++◌, length, get_or, take, drop, leb, ltb, ℤ, Float}
use Rattle.std.specs.Float.{binary32}
use Rattle.std.specs.Float.Ieee.{of_bits, to_bits}
use Rattle.std.specs.Float.Ieee.Scale.{finite}
use Rattle.std.specs.Int.{w16}
use Rattle.std.proofs.Common.{to_z}

-- ---- numbers

-- The number that bytes stand for, the least significant first.
abbrev pub little : List ℕ → ℕ
little [] = 0
little (b ∷ bs) = b + 256 * little bs

-- The n lowest bytes of a number, the least significant first.
unfoldable pub bytes_of : ℕ → ℕ → List ℕ
bytes_of zero v = []
bytes_of (suc n) v = v % 256 ∷ bytes_of n (v / 256)

-- Each element is a byte, as in any slice of u8.
abbrev pub Bytes : List ℕ → Type 0
Bytes s = (i : ℕ) → get_or s i 0 < 256

-- ---- reading

-- The byte at p, and 0 past the end.
abbrev pub byte_at : List ℕ → ℕ → ℕ
byte_at s p = get_or s p 0

-- The number of the n bytes at p, and 0 where they are not all there.
unfoldable pub number_at : ℕ → List ℕ → ℕ → ℕ
number_at n s p = cond (leb (p + n) (length s)) (little (take n (drop p s))) 0

abbrev pub u16_at : List ℕ → ℕ → ℕ
u16_at s p = number_at 2 s p

abbrev pub u32_at : List ℕ → ℕ → ℕ
u32_at s p = number_at 4 s p

-- The sixteen numbers of four bytes from p on.
abbrev pub sixteen_at : List ℕ → ℕ → List ℕ
sixteen_at s p =
    u32_at s p ∷ u32_at s (p + 4) ∷ u32_at s (p + 8) ∷ u32_at s (p + 12) ∷ u32_at s (p + 16) ∷ u32_at s (p + 20) ∷ u32_at s (p + 24) ∷ u32_at s (p + 28)
    ∷ u32_at s (p + 32) ∷ u32_at s (p + 36) ∷ u32_at s (p + 40) ∷ u32_at s (p + 44) ∷ u32_at s (p + 48) ∷ u32_at s (p + 52) ∷ u32_at s (p + 56) ∷ u32_at s (p + 60) ∷ []

-- Two bytes as a signed number, in two's complement.
unfoldable pub i16_at : List ℕ → ℕ → ℤ
i16_at s p = to_z w16 (u16_at s p)

-- The f32 whose bits stand at p: every NaN's pattern is the one `nan`.
abbrev pub f32_at : List ℕ → ℕ → Float
f32_at s p = of_bits binary32 (u32_at s p)

-- ---- patterns of an f32, with the sign's bit left out of account

-- A usable entry: finite and at most 1,024 in magnitude, by the bits, since 0x4480_0000 is 1,024. Magnitude.antt of proofs/
-- shows the same of the float.
unfoldable pub usable_of : ℕ → Bool
usable_of b = leb (b % 2 ^ 31) 0x4480_0000

-- The entry at p is usable.
abbrev pub usable_at : List ℕ → ℕ → Bool
usable_at s p = usable_of (u32_at s p)

-- Each of the patterns is usable.
abbrev pub all_usable : List ℕ → Bool
all_usable [] = true
all_usable (b ∷ bs) = usable_of b && all_usable bs

-- Finite: below the infinity's bits.
unfoldable pub finite_bits_of : ℕ → Bool
finite_bits_of b = ltb (b % 2 ^ 31) 0x7f80_0000

-- The float at p is finite.
abbrev pub finite_at : List ℕ → ℕ → Bool
finite_at s p = finite (f32_at s p)

-- ---- writing

-- The four bytes of an f32.
abbrev pub float_bytes : Float → List ℕ
float_bytes x = bytes_of 4 (to_bits binary32 x)

-- Four words side by side, as a sample has them.
abbrev pub row_bytes : ℕ → ℕ → ℕ → ℕ → List ℕ
row_bytes a b c d = bytes_of 4 a ++ bytes_of 4 b ++ bytes_of 4 c ++ bytes_of 4 d

-- The list with vs from p on where they fit, and the list as it is where they do not.
unfoldable pub put_at : List ℕ → ℕ → List ℕ → List ℕ
put_at s p vs = cond (leb (p + length vs) (length s)) (take p s ++ vs ++ drop (p + length vs) s) s

-- The bytes of n rows one after another, row k being r k: the entries of a curve, the samples of an output.
unfoldable pub rows : (ℕ → List ℕ) → ℕ → List ℕ
rows r zero = []
rows r (suc n) = rows r n ++ r n
