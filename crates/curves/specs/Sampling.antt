-- Positions in the analogue surface and its sampling, operation by operation from tables.rs, and what each reads.
use Rattle.std.specs.Prelude.{ℕ, ◌+◌, ◌*◌, cond, List, [], ◌∷◌, leb, pos, Float}
use Rattle.std.specs.Float.{binary32}
use Rattle.std.specs.Float.Ieee.{of_int}
use Rattle.constants.specs.Values as K
use Rattle.floats.specs.Arithmetic.{◌⊗◌, ◌⊘◌, f32}
use Rattle.floats.specs.Floats.{clamp_of}
use Rattle.response.specs.declared.TablePosition.{TablePosition}
use Rattle.response.specs.Levels.{interpolate_of, filter_mode_quiescent_level_of}
use Rattle.response.specs.Position.{table_position_of}
use Rattle.bundle.specs.Layout.{analogue_surface, entry_place}
use Rattle.bundle.specs.Opening.{entry_at}
use Rattle.curves.specs.declared.AnalogueLoadPosition.{AnalogueLoadPosition}
use Rattle.curves.specs.declared.CurvePoint.{CurvePoint}

-- ---- positions

-- The last of the 145 loads and the last of a load's 2,048 entries, each by its index; a base is the index of a load's first entry.
abbrev pub last_load : ℕ
last_load = 144

abbrev pub last_input : ℕ
last_input = 2047

abbrev pub row_entries : ℕ
row_entries = 2048

abbrev pub last_base : ℕ
last_base = 294912

-- `load_position`: a conductance of 0 to 9 lies between two of the loads.
unfoldable pub load_position_of : Float → AnalogueLoadPosition
load_position_of conductance =
    let at = table_position_of last_load (clamp_of conductance (f32 0) K.sid_analogue_max_conductance ⊗ f32 0x4310_0000 ⊘ K.sid_analogue_max_conductance) in
    record { lower_base = at.lower * row_entries; upper_base = at.upper * row_entries; fraction = at.fraction }

-- An input of 0 to 1 lies between two of the entries of a load's row.
unfoldable pub input_position_of : Float → TablePosition
input_position_of input = table_position_of last_input (clamp_of input (f32 0) (f32 0x3f80_0000) ⊗ f32 0x44ff_e000)

-- ---- the surface

-- The place of an index of the surface's table, and the entry there.
abbrev pub table_place : ℕ → ℕ
table_place index = entry_place analogue_surface index

abbrev pub table_at : List ℕ → ℕ → Float
table_at bundle index = entry_at bundle (table_place index)

-- `sample_at`: over the input first, in the row of either load, and then over the load
unfoldable pub sample_at_of : List ℕ → AnalogueLoadPosition → TablePosition → Float
sample_at_of bundle load at =
    interpolate_of (interpolate_of (table_at bundle (load.lower_base + at.lower)) (table_at bundle (load.lower_base + at.upper)) at.fraction)
    (interpolate_of (table_at bundle (load.upper_base + at.lower)) (table_at bundle (load.upper_base + at.upper)) at.fraction)
    load.fraction

-- `sample`
unfoldable pub sample_of : List ℕ → Float → Float → Float
sample_of bundle conductance input = sample_at_of bundle (load_position_of conductance) (input_position_of input)

-- The places that `sample_at` reads, in its order: lower left, lower right, upper left, upper right.
unfoldable pub corners_of : AnalogueLoadPosition → TablePosition → List ℕ
corners_of load at =
    table_place (load.lower_base + at.lower) ∷
    table_place (load.lower_base + at.upper) ∷
    table_place (load.upper_base + at.lower) ∷
    table_place (load.upper_base + at.upper) ∷
    []

unfoldable pub sample_places_of : Float → Float → List ℕ
sample_places_of conductance input = corners_of (load_position_of conductance) (input_position_of input)

-- ---- a curve, of the 31 in a buffer

-- The place of an entry of a curve.
abbrev pub curve_place : ℕ → ℕ → ℕ
curve_place curve index = 4 * (curve * 2049 + index)

-- `sample_curve`: entry 2,048 is there, so the next index needs no bound
unfoldable pub sample_curve_of : List ℕ → ℕ → Float → Float
sample_curve_of curves curve input =
    let at = input_position_of input in
    interpolate_of (entry_at curves (curve_place curve at.lower)) (entry_at curves (curve_place curve (at.lower + 1))) at.fraction

unfoldable pub sample_curve_places_of : ℕ → Float → List ℕ
sample_curve_places_of curve input =
    let at = input_position_of input in
    curve_place curve at.lower ∷ curve_place curve (at.lower + 1) ∷ []

-- the same, with the lower index and the fraction that it used
unfoldable pub curve_point_of : List ℕ → ℕ → Float → CurvePoint
curve_point_of curves curve input =
    let at = input_position_of input in
    record { value = sample_curve_of curves curve input; index = at.lower; fraction = at.fraction }

-- Zeros, where no curve is read.
abbrev pub no_point : CurvePoint
no_point = record { value = f32 0; index = 0; fraction = f32 0 }

-- ---- the summer at rest

-- `summer_resting_output` of `Filter::new`: the surface at the load of `count` inputs and the quiescent level, and 0 for counts below 2
unfoldable pub summer_resting_output_of : List ℕ → ℕ → Float
summer_resting_output_of bundle count = cond (leb 2 count) (sample_of bundle (of_int binary32 (pos count)) filter_mode_quiescent_level_of) (f32 0)

unfoldable pub summer_resting_places_of : ℕ → List ℕ
summer_resting_places_of count = cond (leb 2 count) (sample_places_of (of_int binary32 (pos count)) filter_mode_quiescent_level_of) []
