-- The invariant: the first k entries stand at the front of the row.
use Prim.Native.Nat.{ℕ}
use mathlib.Core.Path.{◌≡◌}
use mathlib.Core.List.{List}
use lib.Ieee.{Float}
use lib.ListN.{length}
use Rattle.wire.specs.Wire.{float_bytes, put_at, rows}
use Rattle.curves.specs.Inner.{blend_of}
use Rattle.curves.proofs.blend_rows.Given as goal

abbrev pub bytes : List ℕ → List ℕ → Float → ℕ → ℕ → List ℕ
bytes lower upper fraction curve k = float_bytes (blend_of lower upper fraction curve k)

abbrev pub invariant-loop-k : goal.invariant-loop-k
invariant-loop-k l =
    (length l.row ≡ length l.initial.row) × (l.row ≡ put_at l.initial.row 0 (rows (bytes l.lower l.upper l.fraction l.curve) l.k))
