-- The loop over a list of numbers. Assumes nothing.
use mathlib.Core.Path.{◌≡◌, sym, ◌∙◌}
use mathlib.Core.Bool.{Bool, ◌&&◌, and_assoc, and-true}
use mathlib.Core.List.{List}
use Prim.Native.Nat.{ℕ, suc, ◌+◌, ◌<◌, ◌≤◌}
use native.Mathlib.Numerals.{add-one}
use lib.ListN.{length, get_or, drop, drop_of_length-le}
use lib.Seq.{drop-cons}
use lib.Ieee.{Float, nan}
use lib.Ieee.Scale.{finite}
use Rattle.controls.specs.Judging.{all_finite}

-- `all` is of the numbers before i
pub one_more : (xs : List Float) (i : ℕ) (all r : Bool) → i < length xs → r ≡ finite (get_or xs i nan) → all_finite xs ≡ (all && all_finite (drop i xs))
    → all_finite xs ≡ ((all && r) && all_finite (drop (i + 1) xs))
one_more xs i all r h e p = p ∙ rw (add-one, drop-cons xs i nan, ← e) (sym (and_assoc all r (all_finite (drop (suc i) xs))))

pub at_end : (xs : List Float) (i : ℕ) (all : Bool) → length xs ≤ i → all_finite xs ≡ (all && all_finite (drop i xs)) → all ≡ all_finite xs
at_end xs i all h p = sym (p ∙ rw (drop_of_length-le xs h) (and-true all))
