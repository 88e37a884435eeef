use mathlib.Core.Path.{sym, ◌∙◌}
use Rattle.answers.proofs.Laws.{handed_on, unless_done, unless_refused}
use Rattle.bundle.specs.Opening.{check_of}
use Rattle.bundle.proofs.check.Goals as goal

pub returns-in_err-unless : goal.returns-in_err-unless
unfolding check_of
returns-in_err-unless c =
    let off = unless_refused _ _ (sym c.unless.ensures ∙ c.in_err-unless.was) in
    handed_on _ c.from_residual.ensures ∙ simp (off.0, off.1)

pub returns : goal.returns
unfolding check_of
returns c =
    simp (unless_done _ _ (sym c.unless.ensures ∙ c.in_ok-unless.was), ← c.first_difference-place.ensures, c.unless-2.ensures)
