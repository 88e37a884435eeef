-- The positions lie in their tables, whatever the conductance and the input are, a NaN included.
use Prim.Native.Nat.{ℕ, ◌+◌, ◌*◌, ◌≤◌}
use mathlib.Core.Path.{◌≡◌, refl}
use native.Mathlib.Omega.{arith}
use lib.Ieee.{Float}
use Rattle.floats.proofs.Range.{curve_index, load_index}
use Rattle.bundle.specs.Layout.{surface_place}
use mathlib.Core.List.{List, [], ◌∷◌}
use Rattle.answers.specs.declared.Buffer.TheVariants.{Bundle}
use Rattle.answers.specs.Answers.{first_of}
use Rattle.bundle.specs.Opening.{judge_places_of}
use Rattle.bundle.proofs.Laws.{judge_append}
use Rattle.response.specs.declared.TablePosition.{TablePosition}
use Rattle.curves.specs.declared.AnalogueLoadPosition.{AnalogueLoadPosition}
use Rattle.curves.specs.Sampling.{last_input, last_base, load_position_of, input_position_of, table_place, corners_of, curve_place}

module _ (conductance : Float) where
  pub load_lower : (load_position_of conductance).lower_base ≤ last_base
  unfolding load_position_of
  load_lower = omega (arith, load_index conductance)

  pub load_upper : (load_position_of conductance).upper_base ≤ last_base
  unfolding load_position_of
  load_upper = omega (arith, load_index conductance)

module _ (input : Float) where
  pub input_lower : (input_position_of input).lower ≤ last_input
  unfolding input_position_of
  input_lower = curve_index input

  pub input_upper : (input_position_of input).upper ≤ last_input
  unfolding input_position_of
  input_upper = omega (arith, curve_index input)

-- The place of an index of the surface's table is the place of its load and its input.
pub surface_place_lem : (load input : ℕ) → table_place (load * 2048 + input) ≡ surface_place load input
surface_place_lem load input = refl

-- the corners of the lower load, then those of the upper
pub corners_apart : (bundle : List ℕ) (load : AnalogueLoadPosition) (at : TablePosition) → judge_places_of Bundle bundle (corners_of load at)
    ≡ first_of (judge_places_of Bundle bundle (table_place (load.lower_base + at.lower) ∷ table_place (load.lower_base + at.upper) ∷ []))
    (judge_places_of Bundle bundle (table_place (load.upper_base + at.lower) ∷ table_place (load.upper_base + at.upper) ∷ []))
unfolding corners_of
corners_apart bundle load at =
    judge_append Bundle bundle (table_place (load.lower_base + at.lower) ∷ table_place (load.lower_base + at.upper) ∷ [])
    (table_place (load.upper_base + at.lower) ∷ table_place (load.upper_base + at.upper) ∷ [])

-- the entry after an entry of a curve
pub next_place : (curve index : ℕ) → curve_place curve index + 4 ≡ curve_place curve (index + 1)
next_place curve index = omega arith
