-- Quoted text as bytes. The string's own constructors have names of their own here: `[]` and `◌∷◌` are the list's.
use Rattle.std.specs.Prelude.{ℕ, List, [], ◌∷◌}
use Prim.Native.Char.{code}
use Prim.Native.String.{String, [] as empty, ◌∷◌ as ◌then◌}

-- The codes of the characters, in ASCII a byte each.
abbrev pub ascii : String → List ℕ
ascii empty = []
ascii (c then s) = code c ∷ ascii s
