-- A piece of a cut script is a script of its own.
use Rattle.std.specs.Prelude.{true, ◌≡◌, ℕ, List, [], ◌∷◌, ◌++◌, length}
use Rattle.wire.specs.Wire.{bytes_of}
use Rattle.script.specs.Script.{well_formed}

-- Lists in a row.
abbrev pub joined {ℓ} : {A : Type ℓ} → List (List A) → List A
joined [] = []
joined (x ∷ xs) = x ++ joined xs

-- The script of events that are 12 bytes each: its own count, the offset 8, and the events.
unfoldable pub script_of : List (List ℕ) → List ℕ
script_of bs = bytes_of 4 (length bs) ++ bytes_of 4 8 ++ joined bs

-- Each of some scripts is well-formed.
abbrev pub AllWellFormed : List (List ℕ) → Type 0
AllWellFormed [] = Unit {0}
AllWellFormed (s ∷ ss) = (well_formed s ≡ true) × AllWellFormed ss
