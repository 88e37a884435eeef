use borrow.Author.Tests.{le-leb, lt-leb}
use Rattle.bundle.specs.Opening.{judge_section_of}
use Rattle.bundle.proofs.judge_section.Goals as goal

pub returns-then-index-count : goal.returns-then-index-count
unfolding judge_section_of
returns-then-index-count c = rw (← c.first_unusable-index.ensures, lt-leb _ _ c.if-index-count.true)

pub returns : goal.returns
unfolding judge_section_of
returns c = rw (← c.first_unusable-index.ensures, le-leb _ _ c.if-index-count.false)
