-- Names of files.
use Prim.Native.Nat.{ℕ}
use mathlib.Core.Path.{◌≡◌, refl, ap}
use mathlib.Core.Bool.{◌&&◌}
use mathlib.Core.List.{List, [], ◌∷◌}
use lib.Dec.{eqb}
use lib.Pointwise.{pointwise}
use Rattle.bounce_lines.specs.Names.{same_name_of}

-- the test of slices is the test of names
pub same_is : (a b : List ℕ) → pointwise eqb a b ≡ same_name_of a b
unfolding same_name_of
same_is [] [] = refl
same_is [] (y ∷ b) = refl
same_is (x ∷ a) [] = refl
same_is (x ∷ a) (y ∷ b) = ap (λ r. eqb x y && r) (same_is a b)
