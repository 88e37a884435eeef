use Rattle.curves.proofs.judge_sample.Goals as goal

pub returns : goal.returns
returns c = simp (c.judge_places.ensures, c.sample_places-places.ensures)
