-- The resistor ladder of tables.rs, operation by operation, with 12 nodes. A list stands for an array, and its places count from 0.
use Rattle.std.specs.Prelude.{ℕ, zero, suc, ◌+◌, ◌-◌, ◌/◌, ◌%◌, ◌^◌, Bool, false, cond, ◌&&◌, List, [], ◌∷◌, ◌++◌, ltb, eqb, get_or, replicate, map, Float}
use Rattle.std.specs.List.{range_with_len}
use Rattle.std.specs.Float.{nan, binary32}
use Rattle.std.specs.Float.Ieee.{neg, mul}
use Rattle.constants.specs.Values.{sid_filter_dac_two_r_over_r, sid_dac_leakage}
use Rattle.floats.specs.Arithmetic.{f32}
use Rattle.floats.specs.Floats.{clamp_of, narrow_of}
use Rattle.ladder.specs.Arithmetic.{◌⊞◌, ◌⊟◌, ◌⊠◌, ◌⧄◌, f64}
use Rattle.ladder.specs.declared.Network.{Network}
use Rattle.ladder.specs.declared.Row.{Row}
use Rattle.ladder.specs.declared.Scale.{Scale}

-- ---- lists

-- The entry at a place.
abbrev pub at : List Float → ℕ → Float
at xs i = get_or xs i nan

-- The entries f 0 to f (n - 1).
unfoldable pub tabulated : {X : Type 0} → (ℕ → X) → ℕ → List X
tabulated f n = map f (range_with_len 0 n)

-- `sum()` of f 0 to f (n - 1), in this order. In rustc 1.95 it starts from -0.0.
unfoldable pub sum_of : (ℕ → Float) → ℕ → Float
sum_of f zero = f64 0x8000_0000_0000_0000
sum_of f (suc n) = sum_of f n ⊞ f n

-- ---- `solve_tridiagonal`

module _ (n : Network) where
  -- The elimination's first row.
  abbrev pub first_row_of : Row
  first_row_of = record { c = at n.upper 0 ⧄ at n.diagonal 0; d = at n.rhs 0 ⧄ at n.diagonal 0 }

  -- Row i from the row before it. The last row's c is 0.0.
  unfoldable pub next_row_of : ℕ → Row → Row
  next_row_of i before =
      let denominator = at n.diagonal i ⊟ at n.lower i ⊠ before.c in
      record {
        c = cond (ltb (i + 1) 12) (at n.upper i ⧄ denominator) (f64 0);
        d = (at n.rhs i ⊟ at n.lower i ⊠ before.d) ⧄ denominator;
      }

  unfoldable pub row_at : ℕ → Row
  row_at zero = first_row_of
  row_at (suc i) = next_row_of (suc i) (row_at i)

  abbrev pub sweep_of : List Row
  sweep_of = tabulated row_at 12

-- The row at a place.
abbrev pub row_in : List Row → ℕ → Row
row_in rows i = get_or rows i (record { c = nan; d = nan })

-- Row i of the solution, with n rows below it: the last is d, and each other takes the one below it in.
unfoldable pub result_from : List Row → ℕ → ℕ → Float
result_from rows zero i = (row_in rows i).d
result_from rows (suc n) i = (row_in rows i).d ⊟ (row_in rows i).c ⊠ result_from rows n (suc i)

-- The substitution, from the last row to the first.
abbrev pub substitute_of : List Row → List Float
substitute_of rows = tabulated (λ i. result_from rows (11 - i) i) 12

unfoldable pub solve_of : Network → List Float
solve_of n = substitute_of (sweep_of n)

-- ---- `ladder_weights`

abbrev one : Float
one = f64 0x3ff0_0000_0000_0000

abbrev add_if : Bool → Float → Float → Float
add_if on x y = cond on (x ⊞ y) x

-- The entries below and above the diagonal: -link, of a conductance of 1.0, and 0.0 where there is no neighbour.
abbrev pub lower_of : List Float
lower_of = f64 0 ∷ replicate 11 (neg one)

abbrev pub upper_of : List Float
upper_of = replicate 11 (neg one) ++ f64 0 ∷ []

-- What meets at a node, added to 0.0 in this order: its branch, the link below it, the link above it, the termination at node 0 and the
-- load at node 11.
abbrev pub diagonal_at : Float → Bool → ℕ → Float
diagonal_at source terminated node =
    let branch = f64 0 ⊞ source in
    let below = add_if (ltb 0 node) branch one in
    let linked = add_if (ltb (node + 1) 12) below one in
    let ended = add_if (eqb node 0 && terminated) linked source in
    add_if (eqb node 11) ended one

abbrev pub diagonal_of : Float → Bool → List Float
diagonal_of source terminated = tabulated (diagonal_at source terminated) 12

-- The right side: the active node's branch is driven.
abbrev pub right_side_of : Float → ℕ → List Float
right_side_of source active = tabulated (λ node. add_if (eqb node active) (f64 0) source) 12

-- The last node's level when one node is driven.
unfoldable pub driven_level_of : Float → List Float → ℕ → Float
driven_level_of source diagonal active =
    at (solve_of (record { lower = lower_of; diagonal = diagonal; upper = upper_of; rhs = right_side_of source active })) 11

abbrev pub driven_levels_of : Float → List Float → List Float
driven_levels_of source diagonal = tabulated (driven_level_of source diagonal) 12

abbrev pub total_of : List Float → Float
total_of xs = sum_of (at xs) 12

abbrev pub normalised_of : List Float → List Float
normalised_of xs = tabulated (λ i. at xs i ⧄ total_of xs) 12

unfoldable pub weights_of : Float → Bool → List Float
weights_of two_r_over_r terminated =
    let source = one ⧄ two_r_over_r in
    normalised_of (driven_levels_of source (diagonal_of source terminated))

-- ---- `ladder_value`

-- A bit that is off leaks.
abbrev pub level_at : ℕ → Float → ℕ → Float
level_at code leakage bit = cond (eqb (code / 2 ^ bit % 2) 1) one leakage

unfoldable pub value_of : ℕ → List Float → Float → Float
value_of code weights leakage = sum_of (λ bit. level_at code leakage bit ⊠ at weights bit) 12

-- ---- `build_cutoff_control_positions`

-- The cutoff DAC's twelfth bit is tied high, so that FIXED_MSB | code is 2,048 + code. A position is where the code's level lies between
-- that of code 0 and that of code 2,047.
unfoldable pub position_of : Scale → ℕ → Float
position_of s code =
    let ladder = value_of (2048 + code) s.weights sid_dac_leakage in
    let normal = narrow_of ((ladder ⊟ s.zero) ⧄ s.span) in
    clamp_of (mul binary32 normal (f32 0x44ff_e000)) (f32 0) (f32 0x44ff_e000)

unfoldable pub cutoff_scale_of : Scale
cutoff_scale_of =
    let weights = weights_of sid_filter_dac_two_r_over_r false in
    let zero = value_of 2048 weights sid_dac_leakage in
    let full = value_of 4095 weights sid_dac_leakage in
    record { weights = weights; zero = zero; span = full ⊟ zero }
