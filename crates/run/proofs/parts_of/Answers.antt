use Rattle.refresh.specs.Refresh.{refresh_core_of}
use Rattle.run.specs.Parts.{parts_of}
use Rattle.run.proofs.parts_of.Goals as goal

pub returns : goal.returns
unfolding parts_of refresh_core_of
returns c = simp (c.fresh_topology-topology.ensures, c.core_of-fresh.ensures, c.requires.gained, c.requires.rested)
