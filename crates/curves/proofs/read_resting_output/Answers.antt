use borrow.Author.Tests.{le-leb, lt-leb}
use Rattle.bundle.specs.Opening.{judge_places_of}
use Rattle.bundle.specs.Reading.{read_of}
use Rattle.curves.specs.Sampling.{summer_resting_output_of, summer_resting_places_of}
use Rattle.curves.proofs.read_resting_output.Goals as goal

pub returns-then-count-ge2 : goal.returns-then-count-ge2
unfolding summer_resting_output_of summer_resting_places_of
returns-then-count-ge2 c = simp (le-leb _ _ c.if-count-ge2.true, c.read_sample.ensures, c.filter_mode_quiescent_level.ensures, c.of_u16.ensures)

pub returns : goal.returns
unfolding summer_resting_output_of summer_resting_places_of judge_places_of read_of
returns c = rw (lt-leb _ _ c.if-count-ge2.false)
