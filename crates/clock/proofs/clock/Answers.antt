use mathlib.Core.Path.{sym, ◌∙◌}
use Rattle.answers.proofs.Laws.{handed_on, unless_done, unless_refused}
use Rattle.clock.proofs.Parts.{parts_are_clock}
use Rattle.clock.proofs.clock.Goals as goal

pub returns-in_err-ticked : goal.returns-in_err-ticked
returns-in_err-ticked c =
    let a = c.args in
    let plain = parts_are_clock a.bundle.now a.curves.now a.controls a.settings a.integrator a.transients a.voices in
    let ticked = sym (simp (c.rest_of.ensures, c.core_controls.ensures) at c.tick_from_parts.ensures) ∙ c.in_err-ticked.was in
    handed_on _ c.from_residual.ensures ∙ (simp ticked at plain)

pub returns-in_err-unless : goal.returns-in_err-unless
returns-in_err-unless c =
    let a = c.args in
    let plain = parts_are_clock a.bundle.now a.curves.now a.controls a.settings a.integrator a.transients a.voices in
    let ticked = sym (simp (c.rest_of.ensures, c.core_controls.ensures) at c.tick_from_parts.ensures) ∙ c.in_ok-ticked.was in
    let off = unless_refused _ _ (sym c.unless.ensures ∙ c.in_err-unless.was) in
    handed_on _ c.from_residual-in_err-unless.ensures ∙ (simp (ticked, ← c.is_finite.ensures, off.0, off.1) at plain)

pub returns : goal.returns
returns c =
    let a = c.args in
    let plain = parts_are_clock a.bundle.now a.curves.now a.controls a.settings a.integrator a.transients a.voices in
    let ticked = sym (simp (c.rest_of.ensures, c.core_controls.ensures) at c.tick_from_parts.ensures) ∙ c.in_ok-ticked.was in
    simp (ticked, ← c.is_finite.ensures, unless_done _ _ (sym c.unless.ensures ∙ c.in_ok-unless.was)) at plain
