-- Whether two names of files are the same.
use Rattle.std.specs.Prelude.{ℕ, Bool, true, false, ◌&&◌, List, [], ◌∷◌, eqb}

-- Two names are the same where their bytes are.
unfoldable pub same_name_of : List ℕ → List ℕ → Bool
same_name_of [] [] = true
same_name_of (x ∷ a) (y ∷ b) = eqb x y && same_name_of a b
same_name_of [] (y ∷ b) = false
same_name_of (x ∷ a) [] = false
