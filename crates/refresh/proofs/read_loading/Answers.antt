use Rattle.bundle.specs.Opening.{judge_places_of}
use Rattle.bundle.specs.Reading.{read_of}
use borrow.Author.Tests.{ne_eqb}
use Rattle.refresh.proofs.read_loading.Goals as goal

pub returns-then-m-ne4 : goal.returns-then-m-ne4
unfolding judge_places_of read_of
returns-then-m-ne4 c = simp (ne_eqb _ _ c.if-m-ne4.true)

pub returns : goal.returns
returns c = simp (c.read_entry.ensures, c.highpass_loading_place.ensures, c.if-m-ne4.false)
