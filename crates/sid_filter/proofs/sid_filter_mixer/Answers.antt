use Rattle.sid_filter.proofs.sid_filter_mixer.Goals as goal

pub returns : goal.returns
returns c = simp (c.point_answer.ensures, c.mixer.ensures)
