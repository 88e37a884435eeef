use Rattle.control.proofs.FilterRegisters.previous_cutoff.Goals as goal

pub returns-then-self : goal.returns-then-self
returns-then-self c = rw c.if-self.true

pub returns-else-self : goal.returns-else-self
returns-else-self c = rw c.if-self.false
