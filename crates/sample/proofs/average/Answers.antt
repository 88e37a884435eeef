use Rattle.sample.proofs.average.Goals as goal

pub returns : goal.returns
returns c = simp c.filter_mode_quiescent_level.ensures
