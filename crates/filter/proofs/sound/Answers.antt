use Rattle.filter.proofs.sound.Goals as goal

pub returns : goal.returns
returns c = simp c.finite_controls.ensures
