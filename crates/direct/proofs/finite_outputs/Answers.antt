use Rattle.direct.proofs.finite_outputs.Goals as goal

pub returns : goal.returns
returns c = simp (c.is_finite-3.ensures, c.is_finite-2.ensures, c.is_finite.ensures)
