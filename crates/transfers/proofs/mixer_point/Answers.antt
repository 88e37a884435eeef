use Rattle.transfers.specs.Transfers.{mixer_point_of}
use borrow.Author.Tests.{le-leb, lt-leb}
use Rattle.transfers.proofs.mixer_point.Goals as goal

pub returns-then-topology-le7 : goal.returns-then-topology-le7
unfolding mixer_point_of
returns-then-topology-le7 c = simp (le-leb _ _ c.if-topology-le7.true, c.curve_point.ensures, c.mixer_average.ensures)

pub returns : goal.returns
unfolding mixer_point_of
returns c = simp (lt-leb _ _ c.if-topology-le7.false, c.no_point.ensures)
