use Rattle.control.proofs.State.new.Goals as goal

pub returns : goal.returns
returns c = rw (c.new-registers.ensures, c.new.ensures)
