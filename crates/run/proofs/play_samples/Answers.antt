use native.Mathlib.Omega.{arith}
use mathlib.Core.Path.{refl, sym, ap, ◌∙◌}
use Rattle.sample.proofs.Finite.{outputs_finite_lem}
use Rattle.run.specs.Rows.{asked_of}
use Rattle.run.proofs.Rows.{not_sample, parts_sample, sofar_start, unreadable, other, refused, turned, at_end}
use Rattle.run.proofs.play_samples.Goals as goal

pub parts_of-parts-requires : goal.parts_of-parts-requires
parts_of-parts-requires c = c.requires.given

pub loop-i-init : goal.loop-i-init
loop-i-init c =
    let z = c.requires in
    sofar_start _ _ _ _ _ _ _ _ _ _ _ z.ahead.within z.room.fewer z.ahead.readable z.room.room

pub returns-in_default : goal.returns-in_default
returns-in_default c = absurd (unreadable _ _ _ _ _ _ _ _ _ _ _ _ _ _ _ c.loop-i.invariant c.loop-i-test.true (sym c.event_at.ensures ∙ c.in_default.is))

pub returns-in_default-event : goal.returns-in_default-event
returns-in_default-event c =
    rw (← c.parts_of-parts.ensures)
    (let told = other _ _ _ _ _ _ _ _ _ _ _ _ _ _ _ c.loop-i.invariant c.loop-i-test.true c.in-Some.event
    (sym c.event_at.ensures ∙ c.in-Some.is) refl (not_sample c.in-Some.event c.in_default-event.not-Sample) in
    record { value = told.0; output_after = told.1 })

pub overflow_mul-samples : goal.overflow_mul-samples
overflow_mul-samples c =
    let few = c.loop-i.invariant.few in
    let within = c.loop-i.invariant.within in
    let most = c.requires.ahead.few in
    record { fits = omega arith }

pub put_outputs-requires : goal.put_outputs-requires
put_outputs-requires c =
    outputs_finite_lem _ _ _ _ _ _ _ _ _ _ _
    (c.sample_from_parts.ensures ∙ parts_sample _ _ _ c.parts_of-parts.ensures _
    c.input_drives-input_drives.ensures c.feedback_drives-feedback_drives.ensures c.summer_slot-slot.ensures _ _ _)
    c.in-Ok.is

pub overflow_add-samples : goal.overflow_add-samples
overflow_add-samples c =
    let few = c.loop-i.invariant.few in
    let within = c.loop-i.invariant.within in
    let most = c.requires.ahead.few in
    record { fits = omega arith }

pub loop-i-preserved : goal.loop-i-preserved
loop-i-preserved c =
    rw c.put_outputs.ensures
    (turned _ _ _ _ _ _ _ _ _ _ _ _ _ _ _ c.loop-i.invariant c.loop-i-test.true c.in-Some.event (sym c.event_at.ensures ∙ c.in-Some.is)
    (ap asked_of (sym c.in-Sample.is)) refl _ _
    (c.sample_from_parts.ensures ∙ parts_sample _ _ _ c.parts_of-parts.ensures _
    c.input_drives-input_drives.ensures c.feedback_drives-feedback_drives.ensures c.summer_slot-slot.ensures _ _ _)
    c.in-Ok.is)

pub returns-in-Err : goal.returns-in-Err
returns-in-Err c =
    rw (← c.parts_of-parts.ensures)
    (let told = refused _ _ _ _ _ _ _ _ _ _ _ _ _ _ _ c.loop-i.invariant c.loop-i-test.true c.in-Some.event (sym c.event_at.ensures ∙ c.in-Some.is)
    (ap asked_of (sym c.in-Sample.is)) refl _
    (c.sample_from_parts.ensures ∙ parts_sample _ _ _ c.parts_of-parts.ensures _
    c.input_drives-input_drives.ensures c.feedback_drives-feedback_drives.ensures c.summer_slot-slot.ensures _ _ _)
    c.in-Err.is in
    record { value = told.0; output_after = told.1 })

pub returns : goal.returns
returns c =
    rw (← c.parts_of-parts.ensures)
    (let told = at_end _ _ _ _ _ _ _ _ _ _ _ _ _ _ _ c.loop-i.invariant c.loop-i-test.false in
    record { value = told.0; output_after = told.1 })
