use Rattle.sid_filter.proofs.sid_filter_sample_curve.Goals as goal

pub returns : goal.returns
returns c = simp (c.point_answer.ensures, c.sample_curve.ensures)
