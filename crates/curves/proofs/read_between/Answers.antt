use mathlib.Core.Path.{sym, ◌∙◌}
use mathlib.Core.List.{[], ◌∷◌}
use Rattle.answers.proofs.Laws.{handed_on}
use Rattle.bundle.proofs.Laws.{judge_append}
use Rattle.bundle.proofs.Reading.{first_refused, second_refused, both_read}
use Rattle.response.specs.Levels.{interpolate_of}
use Rattle.curves.proofs.read_between.Goals as goal

pub returns-in_err-from : goal.returns-in_err-from
returns-in_err-from c =
    let a = c.args in
    rw (judge_append a.buffer a.bytes.now (a.lower ∷ []) (a.upper ∷ []))
    (handed_on _ c.from_residual.ensures ∙ first_refused _ _ _ _ (sym c.in_err-from.was ∙ c.read_entry.ensures))

pub returns-in_err-to : goal.returns-in_err-to
returns-in_err-to c =
    let a = c.args in
    rw (judge_append a.buffer a.bytes.now (a.lower ∷ []) (a.upper ∷ []))
    (handed_on _ c.from_residual-in_err-to.ensures
    ∙ second_refused _ _ _ _ _ (sym c.in_ok-from.was ∙ c.read_entry.ensures) (sym c.in_err-to.was ∙ c.read_entry-2.ensures))

pub returns : goal.returns
returns c =
    let a = c.args in
    rw (judge_append a.buffer a.bytes.now (a.lower ∷ []) (a.upper ∷ []), c.interpolate.ensures)
    (both_read _ _ _ _ (λ x y. interpolate_of x y a.fraction) (sym c.in_ok-from.was ∙ c.read_entry.ensures)
    (sym c.in_ok-to.was ∙ c.read_entry-2.ensures))
