use Rattle.points.specs.Points.{state_point_of}
use Rattle.points.proofs.state_point.Goals as goal

pub returns-then-is_idle : goal.returns-then-is_idle
unfolding state_point_of
returns-then-is_idle c = simp (← c.fresh_topology-topology.ensures, ← c.is_idle.ensures, c.if-is_idle.true, c.no_point.ensures)

pub returns : goal.returns
unfolding state_point_of
returns c =
    simp (
      ← c.fresh_topology-topology.ensures,
      ← c.is_idle.ensures,
      c.if-is_idle.false,
      c.summer_point.ensures,
      c.summer_slot-slot.ensures,
    )
