use Rattle.run.proofs.Loop.{rest_stays}
use Rattle.run.proofs.resting_at.Goals as goal

pub returns-then-filter_count-old : goal.returns-then-filter_count-old
returns-then-filter_count-old c = rest_stays _ c.args.state c.requires c.filter_count.ensures c.if-filter_count-old.true

pub returns : goal.returns
returns c = simp (c.resting_of.ensures, c.fresh_topology.ensures)
