use Rattle.sample.proofs.rest_of.Goals as goal

pub returns : goal.returns
returns c = simp (c.read_resting_output.ensures, c.summer_inputs.ensures)
