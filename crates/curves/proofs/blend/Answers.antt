use Prim.Native.Nat.{min}
use mathlib.Core.Path.{◌≡◌}
use native.Mathlib.Omega.{arith}
use Rattle.curves.specs.Inner.{blend_of}
use Rattle.curves.proofs.blend.Goals as goal

pub row_entry-requires : goal.row_entry-requires
row_entry-requires c = let p = c.requires in (p.0, p.1 _ (omega arith))

pub row_entry-requires-2 : goal.row_entry-requires-2
row_entry-requires-2 c = let p = c.requires in (p.0, p.2 _ (omega arith))

pub returns : goal.returns
unfolding blend_of
returns c =
    let e : min c.args.code 2047 ≡ c.args.code = omega (arith, c.requires.0) in
    simp (e, c.finished.ensures, c.interpolate-entry.ensures, c.row_entry-2.ensures, c.row_entry.ensures)
