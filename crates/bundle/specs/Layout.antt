-- The layout of a bundle (docs/FORMATS.md, "The bundle"): the sections, the place of an entry in each, and the header.
use Rattle.std.specs.Prelude.{ℕ, ◌+◌, ◌-◌, ◌*◌, List, [], ◌∷◌, ◌++◌, ℤ, pos, negsuc}
use Rattle.wire.specs.Wire.{bytes_of}

-- A section: the byte that it begins at, and how many entries of four bytes it has.
pub record Section : Type 0 where
  pub offset : ℕ
  pub count : ℕ

abbrev pub integrator_gain : Section
integrator_gain = record { offset = 56; count = 524288 }

abbrev pub damping : Section
damping = record { offset = 2097208; count = 16 }

abbrev pub source_gain_modulation : Section
source_gain_modulation = record { offset = 2097272; count = 2048 }

abbrev pub analogue_surface : Section
analogue_surface = record { offset = 2105464; count = 296960 }

abbrev pub highpass_loading : Section
highpass_loading = record { offset = 3293304; count = 2048 }

abbrev pub directional_power : Section
directional_power = record { offset = 3301496; count = 706560 }

abbrev pub sections : List Section
sections = integrator_gain ∷ damping ∷ source_gain_modulation ∷ analogue_surface ∷ highpass_loading ∷ directional_power ∷ []

-- All bytes of a bundle, those of its header, and all its entries: the sections follow the header in order, without gaps.
abbrev pub bundle_length : ℕ
bundle_length = 6127736

abbrev pub header_length : ℕ
header_length = 56

abbrev pub every_entry : Section
every_entry = record { offset = header_length; count = 1531920 }

-- ---- the header: the total length, the section count, then the byte offset and the entry count of each section

abbrev pub pairs : List Section → List ℕ
pairs [] = []
pairs (section ∷ rest) = section.offset ∷ section.count ∷ pairs rest

-- Numbers one after the other, four bytes each.
unfoldable pub words : List ℕ → List ℕ
words [] = []
words (n ∷ rest) = bytes_of 4 n ++ words rest

unfoldable pub header : List ℕ
header = words (bundle_length ∷ 6 ∷ pairs sections)

-- ---- the byte at which an entry stands

abbrev pub entry_place : Section → ℕ → ℕ
entry_place section index = section.offset + 4 * index

abbrev pub integrator_gain_place : ℕ → ℕ → ℕ → ℕ
integrator_gain_place code resonance bin = entry_place integrator_gain ((code * 16 + resonance) * 16 + bin)

abbrev pub damping_place : ℕ → ℕ
damping_place resonance = entry_place damping resonance

abbrev pub source_gain_modulation_place : ℕ → ℕ
source_gain_modulation_place code = entry_place source_gain_modulation code

abbrev pub surface_place : ℕ → ℕ → ℕ
surface_place load input = entry_place analogue_surface (load * 2048 + input)

abbrev pub highpass_loading_place : ℕ → ℕ
highpass_loading_place cutoff = entry_place highpass_loading cutoff

-- A section over the written cutoff has 2,048 of them, each with the 115 displacements from -57 to 57.
abbrev pub cutoffs : ℕ
cutoffs = 2048

abbrev pub displacements : ℕ
displacements = 115

abbrev pub displacement_limit : ℕ
displacement_limit = 57

-- The displacement plus its limit. One below the lowest, which no valid state has, counts as the lowest.
abbrev pub displacement_index_of : ℤ → ℕ
displacement_index_of (pos n) = n + displacement_limit
displacement_index_of (negsuc n) = displacement_limit - (n + 1)

-- Mode 0 is low, 1 band, 2 high; the cutoff is the written one.
abbrev pub directional_power_place : ℕ → ℕ → ℤ → ℕ
directional_power_place mode cutoff displacement = entry_place directional_power ((mode * cutoffs + cutoff) * displacements + displacement_index_of displacement)
