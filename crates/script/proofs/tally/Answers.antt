use mathlib.Core.Path.{◌≡◌, sym, ap, ◌∙◌}
use native.Mathlib.Omega.{arith}
use native.Mathlib.Nat.{sub-zero}
use borrow.Author.Rules.{rules}
use Rattle.std.specs.Prelude.{None, Err}
use Rattle.std.specs.Result.{result_ok}
use Rattle.answers.proofs.Laws.{handed_on, same_refusal}
use Rattle.script.proofs.Laws.{sample_le, tally_start, tally_more, tally_stop, tally_end}
use Rattle.script.proofs.tally.Goals as goal

pub loop-i-init : goal.loop-i-init
loop-i-init c = (search rules, rw sub-zero (tally_start _ _))

pub returns-in_err-event : goal.returns-in_err-event
returns-in_err-event c =
    let a = c.args in
    let none : c.event_at.result ≡ None = c.ok_or.ensures.ok_part ∙ ap result_ok c.in_err-event.was in
    let told = sym c.in_err-event.was ∙ rw none at c.ok_or.ensures.value in
    handed_on _ c.from_residual.ensures ∙ ap Err (same_refusal told)
    ∙ sym (c.loop-i.invariant.1 ∙ tally_stop a.script.now a.count c.loop-i.samples c.loop-i.i c.loop-i-test.true (sym c.event_at.ensures ∙ none))

pub overflow_add-samples : goal.overflow_add-samples
overflow_add-samples c = record { fits = omega (arith, c.sample_count-samples.ensures, sample_le c.in_ok-event.event) }

pub loop-i-preserved : goal.loop-i-preserved
loop-i-preserved c =
    let a = c.args in
    let some = c.ok_or.ensures.ok_part ∙ ap result_ok c.in_ok-event.was in
    let m = tally_more a.script.now a.count c.loop-i.samples c.loop-i.i c.loop-i-test.true c.in_ok-event.event (sym c.event_at.ensures ∙ some) in
    (omega (arith, c.sample_count-samples.ensures, sample_le c.in_ok-event.event), rw c.sample_count-samples.ensures (c.loop-i.invariant.1 ∙ m))

pub returns : goal.returns
returns c =
    let a = c.args in
    sym (c.loop-i.invariant.1 ∙ tally_end a.script.now a.count c.loop-i.samples c.loop-i.i c.loop-i-test.false)
