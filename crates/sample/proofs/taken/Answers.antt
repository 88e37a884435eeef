use mathlib.Core.Path.{◌≡◌, sym, ap, ◌∙◌}
use Rattle.std.specs.Prelude.{Some, None, Err}
use Rattle.std.specs.Result.{result_ok}
use Rattle.answers.proofs.Laws.{handed_on, same_refusal, unless_done, unless_refused}
use Rattle.sample.specs.Sample.{taken_of}
use Rattle.sample.proofs.taken.Goals as goal

pub returns-in_err-advanced : goal.returns-in_err-advanced
unfolding taken_of
returns-in_err-advanced c =
    let none : c.args.moved ≡ None = c.ok_or.ensures.ok_part ∙ ap result_ok c.in_err-advanced.was in
    let told = sym c.in_err-advanced.was ∙ rw none at c.ok_or.ensures.value in
    handed_on _ c.from_residual.ensures ∙ ap Err (same_refusal told) ∙ simp none

pub returns-in_err-unless : goal.returns-in_err-unless
unfolding taken_of
returns-in_err-unless c =
    let some = c.ok_or.ensures.ok_part ∙ ap result_ok c.in_ok-advanced.was in
    let off = unless_refused _ _ (sym c.unless.ensures ∙ c.in_err-unless.was) in
    handed_on _ c.from_residual-in_err-unless.ensures ∙ simp (some, ← c.select_filter_output-selected.ensures, ← c.is_finite.ensures, off.0, off.1)

pub returns : goal.returns
unfolding taken_of
returns c =
    let some = c.ok_or.ensures.ok_part ∙ ap result_ok c.in_ok-advanced.was in
    simp (some, ← c.select_filter_output-selected.ensures, ← c.is_finite.ensures, unless_done _ _ (sym c.unless.ensures ∙ c.in_ok-unless.was))
