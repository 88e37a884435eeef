use mathlib.Core.Path.{sym, ◌∙◌}
use Rattle.answers.proofs.Laws.{handed_on}
use Rattle.run.proofs.Whole.{script_formed, script_refused}
use Rattle.run.proofs.judge_script.Goals as goal

pub returns-in_err-samples : goal.returns-in_err-samples
returns-in_err-samples c = handed_on _ c.from_residual.ensures ∙ script_refused _ _ _ c.check_script.ensures c.in_err-samples.was

pub returns : goal.returns
returns c = c.unless.ensures ∙ script_formed _ _ _ c.check_script.ensures c.in_ok-samples.was
