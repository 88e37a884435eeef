-- A flag as a float, and the loop over the rows. Assumes nothing.
use Prim.Native.Nat.{ℕ, ◌+◌, ◌≤◌, ◌<◌}
use mathlib.Core.Path.{◌≡◌, refl}
use mathlib.Core.List.{List, []}
use native.Mathlib.Numerals.{add-one}
use lib.ListN.{length, get_or, drop, drop_of_length-le}
use lib.Seq.{drop-cons}
use mathlib.Core.Bool.{Bool, true, false}
use lib.IntN.{pos}
use lib.Ieee.{Float, nan, binary32, of_bits, of_int}
use Rattle.std.specs.Int.{from_bool}
use Rattle.floats.specs.Arithmetic.{◌⊕◌, ◌⊗◌}
use Rattle.frozen.specs.Frozen.{unit_of, polynomial_of, weighted_sum_of}

pub from_bool_unit : (on : Bool) → of_int binary32 (pos (from_bool on)) ≡ unit_of on
unfolding of_int of_bits
from_bool_unit true = refl
from_bool_unit false = refl

module _ (x : Float) (rows : List (List Float)) (terms : List Float) where
  -- the row at i and its term come next
  pub one_row : (sum : Float) (i : ℕ) → i < length rows → i < length terms
      → weighted_sum_of x sum (drop i rows) (drop i terms) ≡ weighted_sum_of x (sum ⊕ get_or terms i nan ⊗ polynomial_of (get_or rows i []) x) (drop (i + 1) rows) (drop (i + 1) terms)
  unfolding weighted_sum_of
  one_row sum i h k = rw (add-one, drop-cons rows i [], drop-cons terms i nan) refl

  pub no_row : (sum : Float) (i : ℕ) → length rows ≤ i → weighted_sum_of x sum (drop i rows) (drop i terms) ≡ sum
  unfolding weighted_sum_of
  no_row sum i h = rw (drop_of_length-le rows h) refl
