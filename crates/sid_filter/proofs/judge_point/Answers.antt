use mathlib.Core.Path.{sym, subst, ◌∙◌}
use lib.Dec.{T}
use Rattle.sid_filter.proofs.SamplePoint.{other_length, one_run_lem, no_run_lem}
use borrow.Author.Tests.{ne_eqb}
use Rattle.sid_filter.proofs.judge_point.Goals as goal

pub returns-then-state-ne-BYTES : goal.returns-then-state-ne-BYTES
returns-then-state-ne-BYTES c =
    rw (c.first.ensures, c.judge_lent-lent.ensures) (other_length _ _ _ _ (ne_eqb _ _ c.if-state-ne-BYTES.true))

pub tried-requires : goal.tried-requires
tried-requires c = c.if-state-ne-BYTES.false

pub returns-then-is_finite : goal.returns-then-is_finite
returns-then-is_finite c =
    let known = rw (c.is_finite-2.ensures, c.is_finite.ensures) at c.if-is_finite.true in
    rw (c.tried.ensures, c.sample_script-script.ensures)
    (one_run_lem _ _ _ _ (subst T (sym c.well_formed.1.1.1.0.1) tt) (subst T (sym c.well_formed.1.1.1.1.0.1) tt) known)

pub tried-requires-2 : goal.tried-requires-2
tried-requires-2 c = c.if-state-ne-BYTES.false

pub returns : goal.returns
returns c =
    let unknown = rw (c.is_finite-2.ensures, c.is_finite.ensures) at c.if-is_finite.false in
    rw (c.input_for_script.ensures, c.tried-2.ensures) (no_run_lem _ _ _ _ unknown)
