use mathlib.Core.Path.{◌≡◌, sym, ap, ◌∙◌}
use Rattle.std.specs.Prelude.{Some, None, Err}
use Rattle.std.specs.Result.{result_ok}
use Rattle.answers.proofs.Laws.{handed_on, same_refusal}
use Rattle.control.proofs.RoundTrip.{decoded}
use Rattle.run.specs.Run.{judge_run_of}
use Rattle.run.proofs.judge_run.Goals as goal

pub returns-in_err-judge_lent : goal.returns-in_err-judge_lent
unfolding judge_run_of
returns-in_err-judge_lent c = handed_on _ c.from_residual.ensures ∙ simp (sym c.judge_lent.ensures ∙ c.in_err-judge_lent.was)

pub returns-in_err-state : goal.returns-in_err-state
unfolding judge_run_of
returns-in_err-state c =
    let none : c.decode.result ≡ None = c.ok_or.ensures.ok_part ∙ ap result_ok c.in_err-state.was in
    let told = same_refusal (sym c.in_err-state.was ∙ rw none at c.ok_or.ensures.value) in
    handed_on _ c.from_residual-in_err-state.ensures ∙ ap Err told ∙ simp (sym c.judge_lent.ensures ∙ c.in_ok-judge_lent.was, sym c.decode.ensures ∙ none)

pub returns-in_err-judge_decays : goal.returns-in_err-judge_decays
unfolding judge_run_of
returns-in_err-judge_decays c =
    let some = c.ok_or.ensures.ok_part ∙ ap result_ok c.in_ok-state.was in
    handed_on _ c.from_residual-in_err-judge_decays.ensures
    ∙ simp (sym c.judge_lent.ensures ∙ c.in_ok-judge_lent.was, sym c.decode.ensures ∙ some, sym c.judge_decays.ensures ∙ c.in_err-judge_decays.was)

pub returns-in_err-judge_script : goal.returns-in_err-judge_script
unfolding judge_run_of
returns-in_err-judge_script c =
    let some = c.ok_or.ensures.ok_part ∙ ap result_ok c.in_ok-state.was in
    handed_on _ c.from_residual-in_err-judge_script.ensures
    ∙ simp (
      sym c.judge_lent.ensures ∙ c.in_ok-judge_lent.was,
      sym c.decode.ensures ∙ some,
      sym c.judge_decays.ensures ∙ c.in_ok-judge_decays.was,
      sym c.judge_script.ensures ∙ c.in_err-judge_script.was,
    )

pub returns : goal.returns
unfolding judge_run_of
returns c =
    let some = sym c.decode.ensures ∙ (c.ok_or.ensures.ok_part ∙ ap result_ok c.in_ok-state.was) in
    simp (
      sym c.judge_lent.ensures ∙ c.in_ok-judge_lent.was,
      some,
      sym c.judge_decays.ensures ∙ c.in_ok-judge_decays.was,
      sym c.judge_script.ensures ∙ c.in_ok-judge_script.was,
      (decoded _ _ some).fields,
    )
