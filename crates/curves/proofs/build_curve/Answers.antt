use mathlib.Core.Path.{◌∙◌}
use Prim.Native.Nat.{ℕ, ◌≤◌}
use Rattle.curves.specs.Sampling.{last_base}
use Rattle.curves.specs.Inner.{table_row_of, UsableRow}
use Rattle.curves.proofs.Laws.{load_lower, load_upper}
use Rattle.curves.proofs.Building.{row_usable, blends_curve}
use borrow.Author.Rules.{rules}
use Rattle.curves.proofs.build_curve.Goals as goal
use Rattle.curves.proofs.build_curve.Goals.{After-load_position-load}

-- the rows of the two loads lie in the surface, and their entries are usable
inside : (c : After-load_position-load) → (c.load_position-load.result.lower_base ≤ last_base) × (c.load_position-load.result.upper_base ≤ last_base)
inside c = rw c.load_position-load.ensures (load_lower c.curve_load.result, load_upper c.curve_load.result)

usable_row : (c : After-load_position-load) (base : ℕ) → base ≤ last_base → UsableRow (table_row_of c.args.bundle.now base)
usable_row c base h = let b = c.requires.0 in row_usable _ b.long base h b.judged

pub table_row-requires : goal.table_row-requires
table_row-requires c = (search (rules, inside (goal.at.table_row-requires c).After-load_position-load), c.requires.0.long)

pub table_row-requires-2 : goal.table_row-requires-2
table_row-requires-2 c = (search (rules, inside (goal.at.table_row-requires-2 c).After-load_position-load), c.requires.0.long)

pub blend_rows-requires : goal.blend_rows-requires
blend_rows-requires c = (
  c.requires.1,
  λ code l. rw c.table_row.ensures (usable_row (goal.at.blend_rows-requires c).After-load_position-load _ (search (rules, inside (goal.at.blend_rows-requires c).After-load_position-load)) code l),
  λ code l. rw c.table_row-2.ensures (usable_row (goal.at.blend_rows-requires c).After-load_position-load _ (search (rules, inside (goal.at.blend_rows-requires c).After-load_position-load)) code l),
)

pub returns : goal.returns
returns c =
    c.blend_rows.ensures
    ∙ simp (c.table_row-2.ensures, c.table_row.ensures, c.load_position-load.ensures, c.curve_load.ensures)
    (blends_curve c.args.bundle.now c.requires.0.long c.args.curve)
