use mathlib.Core.Path.{sym, ◌∙◌}
use Rattle.integrator.specs.Tried.{tried_after_of, with_finite_low_of}
use Rattle.integrator.proofs.Laws.{some_if, four_told, four_none}
use Rattle.integrator.proofs.IntegratorState.four_substeps.Goals as goal

pub returns-then-not-is_finite : goal.returns-then-not-is_finite
returns-then-not-is_finite c = four_none _ _ _ (sym c.is_finite.ensures ∙ c.if-not-is_finite.true)

pub returns-in_err-first : goal.returns-in_err-first
unfolding tried_after_of with_finite_low_of
returns-in_err-first c =
    let a = c.args in
    let told = four_told a.self a.driven_input a.k (sym c.is_finite.ensures ∙ c.if-not-is_finite.false) in
    simp (c.from_residual.ensures, ← told, ← c.tried.ensures, c.in_err-first.was)

pub returns-in_err-second : goal.returns-in_err-second
unfolding tried_after_of with_finite_low_of
returns-in_err-second c =
    let a = c.args in
    let told = four_told a.self a.driven_input a.k (sym c.is_finite.ensures ∙ c.if-not-is_finite.false) in
    simp (c.from_residual-in_err-second.ensures, ← told, ← c.tried.ensures, c.in_ok-first.was, ← c.tried-2.ensures, c.in_err-second.was)

pub returns-in_err-third : goal.returns-in_err-third
unfolding tried_after_of with_finite_low_of
returns-in_err-third c =
    let a = c.args in
    let told = four_told a.self a.driven_input a.k (sym c.is_finite.ensures ∙ c.if-not-is_finite.false) in
    simp (c.from_residual-in_err-third.ensures, ← told, ← c.tried.ensures, c.in_ok-first.was, ← c.tried-2.ensures, c.in_ok-second.was, ← c.tried-3.ensures, c.in_err-third.was)

pub returns-in_err-fourth : goal.returns-in_err-fourth
unfolding tried_after_of with_finite_low_of
returns-in_err-fourth c =
    let a = c.args in
    let told = four_told a.self a.driven_input a.k (sym c.is_finite.ensures ∙ c.if-not-is_finite.false) in
    simp (c.from_residual-in_err-fourth.ensures, ← told, ← c.tried.ensures, c.in_ok-first.was, ← c.tried-2.ensures, c.in_ok-second.was, ← c.tried-3.ensures, c.in_ok-third.was, ← c.tried-4.ensures, c.in_err-fourth.was)

pub returns : goal.returns
unfolding tried_after_of with_finite_low_of
returns c =
    let a = c.args in
    let told = four_told a.self a.driven_input a.k (sym c.is_finite.ensures ∙ c.if-not-is_finite.false) in
    simp (c.then_some.ensures, some_if, c.is_finite-2.ensures, ← told, ← c.tried.ensures, c.in_ok-first.was, ← c.tried-2.ensures, c.in_ok-second.was, ← c.tried-3.ensures, c.in_ok-third.was, ← c.tried-4.ensures, c.in_ok-fourth.was)
