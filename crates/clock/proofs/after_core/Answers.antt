use mathlib.Core.Path.{sym, ◌∙◌}
use Rattle.answers.proofs.Laws.{handed_on}
use Rattle.clock.specs.Clock.{levelled_of, mixed_tick_of, after_core_of}
use Rattle.clock.proofs.after_core.Goals as goal

pub returns-in_err-raw : goal.returns-in_err-raw
unfolding after_core_of mixed_tick_of
returns-in_err-raw c = handed_on _ c.from_residual.ensures ∙ simp (sym c.read_mixer.ensures ∙ c.in_err-raw.was)

pub returns-in_err-level : goal.returns-in_err-level
unfolding after_core_of mixed_tick_of levelled_of
returns-in_err-level c =
    let level = sym (simp (c.mixer_output-mixer.ensures, c.is_quiescent.ensures) at c.volume_stage.ensures) ∙ c.in_err-level.was in
    handed_on _ c.from_residual-in_err-level.ensures ∙ simp (sym c.read_mixer.ensures ∙ c.in_ok-raw.was, level)

pub returns : goal.returns
unfolding after_core_of mixed_tick_of levelled_of
returns c =
    let level = sym (simp (c.mixer_output-mixer.ensures, c.is_quiescent.ensures) at c.volume_stage.ensures) ∙ c.in_ok-level.was in
    simp (sym c.read_mixer.ensures ∙ c.in_ok-raw.was, level, c.clocked.ensures, c.mixer_output-mixer.ensures, c.is_quiescent.ensures)
