use Rattle.control.proofs.State.write_signal_routing.Goals as goal

pub returns : goal.returns
returns c = rw c.write_signal_routing-self.ensures
