use borrow.Author.Tests.{lt-ltb, le-ltb}
use Rattle.sample.proofs.fed_energy.Goals as goal

pub returns-then-topology-gt0 : goal.returns-then-topology-gt0
returns-then-topology-gt0 c = simp (lt-ltb _ _ c.if-topology-gt0.true)

pub returns-else-topology-gt0 : goal.returns-else-topology-gt0
returns-else-topology-gt0 c = simp (le-ltb _ _ c.if-topology-gt0.false)
