use Rattle.bundle.specs.Opening.{judge_places_of}
use Rattle.direct.specs.Calls.{judge_loading_of}
use borrow.Author.Tests.{eq-eqb, ne_eqb}
use Rattle.direct.proofs.judge_loading.Goals as goal

pub returns-then-mode-eq4 : goal.returns-then-mode-eq4
unfolding judge_loading_of
returns-then-mode-eq4 c = simp (eq-eqb _ _ c.if-mode-eq4.true, c.judge_places.ensures, c.highpass_loading_place.ensures)

pub returns : goal.returns
unfolding judge_loading_of judge_places_of
returns c = simp (ne_eqb _ _ c.if-mode-eq4.false)
