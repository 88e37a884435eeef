use Rattle.run.proofs.core_of.Goals as goal

pub returns : goal.returns
returns c = simp (c.refresh_core.ensures, c.effective_cutoff.ensures)
