use Rattle.control.proofs.State.write_cutoff_low.Goals as goal

pub returns : goal.returns
returns c = rw c.write_cutoff_low-self.ensures
