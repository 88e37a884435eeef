use Rattle.curves.proofs.read_row.Goals as goal

pub returns : goal.returns
returns c = simp (c.read_between.ensures, c.table_place-upper.ensures, c.table_place-lower.ensures)
