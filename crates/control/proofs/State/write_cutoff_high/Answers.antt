use Rattle.control.proofs.State.write_cutoff_high.Goals as goal

pub returns : goal.returns
returns c = rw c.write_cutoff_high-self.ensures
