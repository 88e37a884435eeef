use mathlib.Core.Path.{sym, ◌∙◌}
use Rattle.answers.proofs.Laws.{handed_on}
use Rattle.bundle.proofs.Reading.{first_refused, second_refused, both_read}
use Rattle.response.specs.Levels.{interpolate_of}
use Rattle.curves.specs.Sampling.{sample_of, sample_at_of, sample_places_of}
use Rattle.curves.proofs.Laws.{load_lower, load_upper, input_lower, input_upper, corners_apart}
use Rattle.curves.proofs.read_sample.Goals as goal

pub read_row-requires : goal.read_row-requires
read_row-requires c =
    let a = c.args in
    rw (c.load_position-load.ensures, c.input_position-at.ensures) (load_lower a.conductance, input_lower a.input, input_upper a.input)

pub read_row-requires-2 : goal.read_row-requires-2
read_row-requires-2 c =
    let a = c.args in
    rw (c.load_position-load.ensures, c.input_position-at.ensures) (load_upper a.conductance, input_lower a.input, input_upper a.input)

pub returns-in_err-lower : goal.returns-in_err-lower
unfolding sample_of sample_places_of
returns-in_err-lower c =
    let a = c.args in
    rw (← c.load_position-load.ensures, ← c.input_position-at.ensures, corners_apart a.bundle.now)
    (handed_on _ c.from_residual.ensures ∙ first_refused _ _ _ _ (sym c.in_err-lower.was ∙ c.read_row.ensures))

pub returns-in_err-upper : goal.returns-in_err-upper
unfolding sample_of sample_places_of
returns-in_err-upper c =
    let a = c.args in
    rw (← c.load_position-load.ensures, ← c.input_position-at.ensures, corners_apart a.bundle.now)
    (handed_on _ c.from_residual-in_err-upper.ensures
    ∙ second_refused _ _ _ _ _ (sym c.in_ok-lower.was ∙ c.read_row.ensures) (sym c.in_err-upper.was ∙ c.read_row-2.ensures))

pub returns : goal.returns
unfolding sample_of sample_at_of sample_places_of
returns c =
    let a = c.args in
    let load = c.load_position-load.result in
    rw (← c.load_position-load.ensures, ← c.input_position-at.ensures, corners_apart a.bundle.now, c.interpolate.ensures)
    (both_read _ _ _ _ (λ x y. interpolate_of x y load.fraction) (sym c.in_ok-lower.was ∙ c.read_row.ensures)
    (sym c.in_ok-upper.was ∙ c.read_row-2.ensures))
