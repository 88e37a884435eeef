-- The sixteen routing nibbles, to be laid beside the data sheet's register 23, RES/FILT. The sheet prints bit 3 on the left: FILTEX, FILT 3, FILT 2,
-- FILT 1. A row has the same bits the other way round, from bit 0 on: voice 1, voice 2, voice 3, external input. `rows-are-bits` of
-- proofs/Routing.antt checks them all.
use Rattle.std.specs.Prelude.{ℕ, ◌%◌, Bool, true, false, List, [], ◌∷◌, get_or}

-- through the filter, the sheet's 1
abbrev I : Bool
I = true

-- past it, the sheet's 0
abbrev O : Bool
O = false

-- 0b0000 to 0b1111
abbrev pub filter_rows : List (List Bool)
filter_rows =
    (O ∷ O ∷ O ∷ O ∷ []) ∷
    (I ∷ O ∷ O ∷ O ∷ []) ∷
    (O ∷ I ∷ O ∷ O ∷ []) ∷
    (I ∷ I ∷ O ∷ O ∷ []) ∷
    (O ∷ O ∷ I ∷ O ∷ []) ∷
    (I ∷ O ∷ I ∷ O ∷ []) ∷
    (O ∷ I ∷ I ∷ O ∷ []) ∷
    (I ∷ I ∷ I ∷ O ∷ []) ∷
    (O ∷ O ∷ O ∷ I ∷ []) ∷
    (I ∷ O ∷ O ∷ I ∷ []) ∷
    (O ∷ I ∷ O ∷ I ∷ []) ∷
    (I ∷ I ∷ O ∷ I ∷ []) ∷
    (O ∷ O ∷ I ∷ I ∷ []) ∷
    (I ∷ O ∷ I ∷ I ∷ []) ∷
    (O ∷ I ∷ I ∷ I ∷ []) ∷
    (I ∷ I ∷ I ∷ I ∷ []) ∷
    []

-- the row of a byte's low nibble
unfoldable pub filter_flags_of : ℕ → List Bool
filter_flags_of routing = get_or filter_rows (routing % 16) []
