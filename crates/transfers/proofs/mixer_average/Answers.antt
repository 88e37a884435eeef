use borrow.Author.Tests.{eq-eqb, ne_eqb}
use Rattle.transfers.proofs.mixer_average.Goals as goal

pub returns-then-topology-eq0 : goal.returns-then-topology-eq0
returns-then-topology-eq0 c = simp (eq-eqb _ _ c.if-topology-eq0.true) c.filter_mode_quiescent_level.ensures

pub returns : goal.returns
returns c = simp (ne_eqb _ _ c.if-topology-eq0.false)
