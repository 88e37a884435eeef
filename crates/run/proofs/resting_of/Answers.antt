use Rattle.run.proofs.resting_of.Goals as goal

pub returns : goal.returns
returns c = simp c.rest_of.ensures
