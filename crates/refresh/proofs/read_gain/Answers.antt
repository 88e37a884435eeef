use mathlib.Core.Path.{sym, ◌∙◌}
use mir.Syntax.{w16}
use mir.ValLaws.{to_z-of_z}
use Rattle.answers.proofs.Laws.{handed_on}
use Rattle.bundle.proofs.Reading.{first_refused, second_refused, both_read}
use Rattle.floats.specs.Arithmetic.{◌⊗◌, f32}
use Rattle.response.specs.Gain.{filter_mode_output_gain_of}
use Rattle.bundle.specs.Layout.{highpass_loading_place}
use Rattle.bundle.specs.Opening.{entry_at}
use Rattle.controls.specs.Controls.{directional_of, refresh_mode_output_gain_of}
use Rattle.controls.specs.Judging.{judge_mode_of}
use Rattle.refresh.proofs.Laws.{loading_unread}
use Rattle.refresh.proofs.read_gain.Goals as goal

pub returns-in_err-loading : goal.returns-in_err-loading
unfolding judge_mode_of
returns-in_err-loading c = handed_on _ c.from_residual.ensures ∙ first_refused _ _ _ _ (sym c.in_err-loading.was ∙ c.read_loading.ensures)

pub returns-in_err-directional : goal.returns-in_err-directional
unfolding judge_mode_of
returns-in_err-directional c =
    let e = simp
    (to_z-of_z w16 c.args.r.cutoff_dac_displacement_codes (record { sfits = c.struct_told-1.given.1.0.1 })) at
    c.read_directional.ensures in
    handed_on _ c.from_residual-in_err-directional.ensures
    ∙ second_refused _ _ _ _ _ (sym c.in_ok-loading.was ∙ c.read_loading.ensures) (sym c.in_err-directional.was ∙ e)

pub returns : goal.returns
unfolding judge_mode_of refresh_mode_output_gain_of directional_of
returns c =
    let a = c.args in
    let e = simp (to_z-of_z w16 a.r.cutoff_dac_displacement_codes (record { sfits = c.struct_told-1.given.1.0.1 })) at c.read_directional.ensures in
    rw (c.filter_mode_output_gain.ensures, ← loading_unread a.r.mode a.r.resonance a.effective (entry_at a.bundle.now (highpass_loading_place a.effective)) (f32 0x3f80_0000))
    (both_read _ _ _ _ (λ x y. filter_mode_output_gain_of a.r.mode a.r.resonance a.effective x ⊗ y) (sym c.in_ok-loading.was ∙ c.read_loading.ensures)
    (sym c.in_ok-directional.was ∙ e))
