use mir.Syntax.{w16}
use mir.ValLaws.{to_z-of_z}
use mathlib.Core.Path.{sym, ◌∙◌}
use Rattle.answers.proofs.Laws.{handed_on}
use Rattle.bundle.specs.Opening.{judge_places_of}
use Rattle.bundle.specs.Reading.{read_of}
use Rattle.bundle.proofs.Reading.{still_refused, read_through}
use Rattle.floats.specs.Arithmetic.{◌⊗◌}
use Rattle.response.specs.Gain.{symmetric_gain_of, mode_index_of}
use Rattle.refresh.proofs.read_directional.Goals as goal

pub returns-then-not-is_single_mode : goal.returns-then-not-is_single_mode
unfolding judge_places_of read_of
returns-then-not-is_single_mode c = simp (← c.is_single_mode.ensures, c.if-not-is_single_mode.true)

pub returns-in_err-power : goal.returns-in_err-power
returns-in_err-power c =
    let e = simp
    (c.directional_power_place-place.ensures, c.mode_index-row.ensures, to_z-of_z w16 c.args.displacement c.ranges.displacement) at
    c.read_entry.ensures in
    handed_on _ c.from_residual.ensures
    ∙ simp (← c.is_single_mode.ensures, c.if-not-is_single_mode.false) (still_refused _ _ _ (sym c.in_err-power.was ∙ e))

pub returns : goal.returns
returns c =
    let e = simp
    (c.directional_power_place-place.ensures, c.mode_index-row.ensures, to_z-of_z w16 c.args.displacement c.ranges.displacement) at
    c.read_entry.ensures in
    simp (← c.is_single_mode.ensures, c.if-not-is_single_mode.false, c.symmetric_gain.ensures, c.mode_index-row.ensures)
    (read_through _ _ (λ x. symmetric_gain_of (mode_index_of c.args.m) c.args.cutoff ⊗ x) (sym c.in_ok-power.was ∙ e))
