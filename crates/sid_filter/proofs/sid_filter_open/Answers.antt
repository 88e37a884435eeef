use Rattle.sid_filter.proofs.sid_filter_open.Goals as goal

pub returns : goal.returns
returns c = simp (c.run_answer.ensures, c.«open».ensures)
