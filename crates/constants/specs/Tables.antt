-- The entries of the tables with a row for each filter mode: 0 low, 1 band, 2 high.
use Rattle.std.specs.Prelude.{◌≡◌, List, [], ℕ, zero, suc, get_or, Float}
use Rattle.std.specs.Float.{nan}
use Rattle.constants.specs.Values as K

-- Entry i of row m, and NaN past the table.
abbrev pub row_entry : List (List Float) → ℕ → ℕ → Float
row_entry table m i = get_or (get_or table m []) i nan

-- i is none of the n numbers from 0 on, as the last arm of a `match` over them has it.
abbrev pub NoneOf : ℕ → ℕ → Type 0
NoneOf zero i = Unit {0}
NoneOf (suc n) i = NoneOf n i × (i ≡ n → ⊥)

-- x is entry i of each row.
abbrev pub InRows : List (List Float) → ℕ → Float → Type 0
InRows table i x = (x ≡ row_entry table 0 i) × (x ≡ row_entry table 1 i) × (x ≡ row_entry table 2 i)

unfoldable pub single_mode_cutoff_gain_of : ℕ → ℕ → Float
single_mode_cutoff_gain_of m i = row_entry K.filter_single_mode_cutoff_gain m i

unfoldable pub single_mode_resonance_gain_of : ℕ → ℕ → Float
single_mode_resonance_gain_of m i = row_entry K.filter_single_mode_resonance_gain m i

unfoldable pub symmetric_loading_gain_of : ℕ → ℕ → Float
symmetric_loading_gain_of m i = row_entry K.filter_symmetric_loading_gain m i
