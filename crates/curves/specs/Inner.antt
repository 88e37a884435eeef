-- What the private functions of this crate are proved against, row by row as their loops go. A reader of a promise needs none of it.
use Rattle.std.specs.Prelude.{ℕ, ◌+◌, ◌*◌, ◌<◌, min, ◌≡◌, true, List, [], ◌∷◌, length, take, drop, Float, Result}
use Rattle.answers.specs.declared.Buffer.TheVariants.{Bundle}
use Rattle.wire.specs.Wire.{f32_at, usable_at, float_bytes, rows}
use Rattle.response.specs.declared.TablePosition.{TablePosition}
use Rattle.response.specs.Levels.{interpolate_of}
use Rattle.bundle.specs.Layout.{bundle_length, analogue_surface}
use Rattle.bundle.specs.Opening.{judge_places_of, judge_section_of}
use Rattle.bundle.specs.Reading.{read_of}
use Rattle.curves.specs.Sampling.{last_input, row_entries, table_place, table_at}
use Rattle.curves.specs.Building.{finished_of}
use Rattle.answers.specs.Answers.{done}
use Rattle.answers.specs.declared.Refusal.{Refusal}

-- ---- a part of `sample_at`

-- The row of a load, by the index of its first entry, at a position of the input, judged as it is read.
abbrev pub read_row_of : List ℕ → ℕ → TablePosition → Result Float Refusal
read_row_of bundle base at =
    read_of (judge_places_of Bundle bundle (table_place (base + at.lower) ∷ table_place (base + at.upper) ∷ []))
    (interpolate_of (table_at bundle (base + at.lower)) (table_at bundle (base + at.upper)) at.fraction)

-- ---- a curve from the rows of its two loads

-- A bundle of the right length whose surface has only usable entries.
pub record Buildable (bundle : List ℕ) : Type 0 where
  pub long : length bundle ≡ bundle_length
  pub judged : judge_section_of bundle analogue_surface ≡ done

-- The bytes of a load's row, of four for each of its 2,048 entries, and the row.
abbrev pub row_length : ℕ
row_length = 8192

unfoldable pub table_row_of : List ℕ → ℕ → List ℕ
table_row_of bundle base = take row_length (drop (table_place base) bundle)

abbrev pub UsableRow : List ℕ → Type 0
UsableRow row = (code : ℕ) → code < row_entries → usable_at row (4 * code) ≡ true

unfoldable pub blend_of : List ℕ → List ℕ → Float → ℕ → ℕ → Float
blend_of lower upper fraction curve k =
    let code = min k last_input in
    finished_of curve (interpolate_of (f32_at lower (4 * code)) (f32_at upper (4 * code)) fraction)

unfoldable pub blend_rows_of : List ℕ → List ℕ → Float → ℕ → List ℕ
blend_rows_of lower upper fraction curve = rows (λ k. float_bytes (blend_of lower upper fraction curve k)) 2049
