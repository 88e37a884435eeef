use Rattle.curves.proofs.judge_sample_curve.Goals as goal

pub returns : goal.returns
returns c = simp (c.judge_places.ensures, c.sample_curve_places-places.ensures)
