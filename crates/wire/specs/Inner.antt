-- What the private functions of this crate are proved against, block by block as their loops go. A reader of a promise needs none of it.
use Rattle.std.specs.Prelude.{ℕ, ◌+◌, Bool, ◌&&◌, List, [], ◌∷◌, leb}
use Rattle.wire.specs.Wire.{u32_at}
use Rattle.wire.specs.First.{every, usable_entry}

-- The four numbers of four bytes from p on.
abbrev pub four_at : List ℕ → ℕ → List ℕ
four_at s p = u32_at s p ∷ u32_at s (p + 4) ∷ u32_at s (p + 8) ∷ u32_at s (p + 12) ∷ []

-- Of the entries left at p there are 64, and each of the 64 is usable.
unfoldable pub block_usable_of : List ℕ → ℕ → ℕ → Bool
block_usable_of s p left = leb 64 left && every (usable_entry s p) 64
