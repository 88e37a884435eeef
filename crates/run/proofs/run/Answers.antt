use mathlib.Core.Path.{sym, ◌∙◌}
use Rattle.run.proofs.Whole.{state_fine, state_done, run_refused}
use Rattle.run.proofs.run.Goals as goal

pub returns-in-Err : goal.returns-in-Err
returns-in-Err c =
    let told = run_refused _ _ _ _ (sym c.judge_run.ensures ∙ c.in-Err.is) in
    record { value = told.0; state_after = told.1.0; output_after = told.1.1 }

pub play_from-played-requires : goal.play_from-played-requires
play_from-played-requires c = state_fine _ _ _ _ (sym c.judge_run.ensures ∙ c.in-Ok.is)

pub returns : goal.returns
returns c =
    let told = state_done _ _ _ _ (sym c.judge_run.ensures ∙ c.in-Ok.is) c.play_from-played.ensures.value c.play_from-played.ensures.output_after c.encode.ensures in
    record { value = told.0; state_after = told.1.0; output_after = told.1.1 }
