use mathlib.Core.Path.{sym, ◌∙◌}
use Rattle.answers.proofs.Laws.{handed_on}
use Rattle.refresh.proofs.Parts.{refreshed, refused}
use Rattle.refresh.proofs.refresh.Goals as goal

pub returns-in_err-mode_output_gain : goal.returns-in_err-mode_output_gain
returns-in_err-mode_output_gain c =
    handed_on _ c.from_residual.ensures ∙ refused _ _ (sym c.judge_controls.ensures ∙ c.in_err-mode_output_gain.was)

pub returns : goal.returns
returns c =
    refreshed _ _ (sym c.judge_controls.ensures ∙ c.in_ok-mode_output_gain.was)
    (simp c.effective_cutoff.ensures at c.refresh_filter_controls.ensures) c.refresh_register_output_state.ensures
