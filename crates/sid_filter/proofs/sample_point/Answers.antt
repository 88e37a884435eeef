use mathlib.Core.Path.{sym, ◌∙◌}
use Rattle.answers.proofs.Laws.{handed_on}
use Rattle.sid_filter.proofs.SamplePoint.{point_refused, point_handed}
use Rattle.sid_filter.proofs.sample_point.Goals as goal

pub returns-in_err-judge_point : goal.returns-in_err-judge_point
returns-in_err-judge_point c =
    handed_on _ c.from_residual.ensures ∙ point_refused _ _ _ _ (sym c.judge_point.ensures ∙ c.in_err-judge_point.was)

pub returns : goal.returns
returns c = rw (c.state_point.ensures, c.fields.ensures) (point_handed _ _ _ _ (sym c.judge_point.ensures ∙ c.in_ok-judge_point.was))
