use borrow.Author.Tests.{le-leb, lt-leb}
use Rattle.transfers.proofs.mixer_slot.Goals as goal

pub returns-then-count-le7 : goal.returns-then-count-le7
returns-then-count-le7 c = simp (le-leb _ _ c.if-count-le7.true)

pub returns-else-count-le7 : goal.returns-else-count-le7
returns-else-count-le7 c = simp (lt-leb _ _ c.if-count-le7.false)
