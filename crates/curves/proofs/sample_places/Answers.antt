use Rattle.curves.specs.Sampling.{last_input, last_base, sample_places_of, corners_of}
use Rattle.curves.proofs.Laws.{load_lower, load_upper, input_lower, input_upper}
use Prim.Native.Nat.{◌≤◌}
use native.Mathlib.Omega.{arith}
use Rattle.curves.proofs.sample_places.Goals as goal
use Rattle.curves.proofs.sample_places.Goals.{After-input_position-at}

-- the bases and the indexes lie in the surface
inside : (c : After-input_position-at)
    → (c.load_position-load.result.lower_base ≤ last_base) × (c.load_position-load.result.upper_base ≤ last_base)
    × (c.input_position-at.result.lower ≤ last_input) × (c.input_position-at.result.upper ≤ last_input)
inside c =
    let a = c.args in
    rw (c.load_position-load.ensures, c.input_position-at.ensures) (load_lower a.conductance, load_upper a.conductance, input_lower a.input, input_upper a.input)

pub table_place-requires : goal.table_place-requires
table_place-requires c = omega (arith, inside (goal.at.table_place-requires c).After-input_position-at)

pub table_place-requires-2 : goal.table_place-requires-2
table_place-requires-2 c = omega (arith, inside (goal.at.table_place-requires-2 c).After-input_position-at)

pub table_place-requires-3 : goal.table_place-requires-3
table_place-requires-3 c = omega (arith, inside (goal.at.table_place-requires-3 c).After-input_position-at)

pub table_place-requires-4 : goal.table_place-requires-4
table_place-requires-4 c = omega (arith, inside (goal.at.table_place-requires-4 c).After-input_position-at)

pub returns : goal.returns
unfolding sample_places_of corners_of
returns c = simp (c.table_place-4.ensures, c.table_place-3.ensures, c.table_place-2.ensures, c.table_place.ensures, c.input_position-at.ensures, c.load_position-load.ensures)
