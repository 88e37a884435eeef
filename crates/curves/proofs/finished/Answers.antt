use borrow.Author.Tests.{lt-ltb, le-ltb}
use Rattle.curves.specs.Building.{finished_of}
use Rattle.curves.proofs.finished.Goals as goal

pub returns-then-curve-lt15 : goal.returns-then-curve-lt15
unfolding finished_of
returns-then-curve-lt15 c = rw (lt-ltb _ _ c.if-curve-lt15.true)

pub returns-else-curve-lt15 : goal.returns-else-curve-lt15
unfolding finished_of
returns-else-curve-lt15 c = rw (le-ltb _ _ c.if-curve-lt15.false, c.volume_entry.ensures)
