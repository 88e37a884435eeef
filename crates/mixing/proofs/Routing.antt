-- Every routing nibble's row is the data sheet's bits. Assumes nothing.
use mathlib.Core.Path.{◌≡◌, refl, ap, ◌∙◌}
use mathlib.Core.Bool.{Bool, false}
use mathlib.Core.List.{List, [], ◌∷◌}
use Prim.Native.Nat.{ℕ, zero, suc, ◌+◌, ◌/◌, ◌%◌, ◌<◌}
use native.Mathlib.Nat.{add-zero, zero-add, add-suc, suc-add, le_of_suc-le-suc, not-suc-le-zero, mod-lt}
use native.Mathlib.Omega.{arith}
use lib.ListN.{get_or}
use Rattle.constants.specs.Tables.{NoneOf}
use Rattle.constants.proofs.Tables.{none_of_past}
use Rattle.response.specs.Bits.{bit}
use Rattle.mixing.specs.Topology.{flags_of, count_of, filtered_of, filter_count_of}
use Rattle.mixing.specs.Routing.{filter_rows, filter_flags_of}

-- the flags of n nibbles from this one on, each worked out from its bits
abbrev bit_rows : ℕ → ℕ → List (List Bool)
bit_rows nibble zero = []
bit_rows nibble (suc n) = flags_of (bit nibble) ∷ bit_rows (suc nibble) n

-- the one check of all sixteen rows, computed
pub rows_are_bits : filter_rows ≡ bit_rows 0 16
rows_are_bits = refl

bit_row : (nibble n k : ℕ) → k < n → get_or (bit_rows nibble n) k [] ≡ flags_of (bit (nibble + k))
bit_row nibble zero k h = absurd (not-suc-le-zero h)
bit_row nibble (suc n) zero h = rw (add-zero nibble) refl
bit_row nibble (suc n) (suc k) h = bit_row (suc nibble) n k (le_of_suc-le-suc h) ∙ rw (suc-add nibble k, add-suc nibble k) refl

low_row : (routing : ℕ) → filter_flags_of routing ≡ flags_of (bit (routing % 16))
unfolding filter_flags_of
low_row routing =
    let low = bit_row 0 16 (routing % 16) (mod-lt routing (omega arith)) in
    ap (λ (rows : List (List Bool)). get_or rows (routing % 16) []) rows_are_bits ∙ rw (zero-add (routing % 16)) at low

-- bits 0 to 3 of a byte are those of its low nibble
low_bits : (routing : ℕ) → flags_of (bit (routing % 16)) ≡ flags_of (bit routing)
low_bits routing = simp (bit0, bit1, bit2, bit3)
  where
    bit0 : routing % 16 / 1 % 2 ≡ routing / 1 % 2
    bit0 = omega arith

    bit1 : routing % 16 / 2 % 2 ≡ routing / 2 % 2
    bit1 = omega arith

    bit2 : routing % 16 / 4 % 2 ≡ routing / 4 % 2
    bit2 = omega arith

    bit3 : routing % 16 / 8 % 2 ≡ routing / 8 % 2
    bit3 = omega arith

-- so every routing, also a byte of 16 or more, has the flags of its bits
pub flags_are_bits : (routing : ℕ) → filter_flags_of routing ≡ flags_of (filtered_of routing)
flags_are_bits routing = low_row routing ∙ low_bits routing

pub flag_is_bit : (routing i : ℕ) {row : List Bool} → row ≡ filter_flags_of routing → get_or row i false ≡ get_or (flags_of (filtered_of routing)) i false
flag_is_bit routing i e = rw (e, flags_are_bits routing) refl

-- and their count is the bits'
pub row_count : (routing : ℕ) {row : List Bool} → row ≡ filter_flags_of routing → count_of (λ i. get_or row i false) ≡ filter_count_of routing
unfolding filter_count_of
row_count routing e = rw (e, flags_are_bits routing) refl

-- what the last arm of `filter_flags` knows, which is of no other nibble
pub last_row : (routing : ℕ) → NoneOf 15 (routing % 16) → routing % 16 ≡ 15
last_row routing others =
    let least = none_of_past 15 (routing % 16) others in
    omega (arith, least, mod-lt routing {m = 16} (omega arith))
