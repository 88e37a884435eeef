use Rattle.sid_filter.proofs.sid_filter_summer.Goals as goal

pub returns : goal.returns
returns c = simp (c.point_answer.ensures, c.summer.ensures)
