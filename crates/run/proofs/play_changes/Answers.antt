use mathlib.Core.Path.{sym, ◌∙◌}
use Rattle.run.proofs.Moves.{sofar_start, known, at_end, unreadable, sampled, refused, overflows, charge_none, charge_goes, reset_none, reset_goes}
use Rattle.run.proofs.play_changes.Goals as goal
use Rattle.run.proofs.play_changes.Goals.{then-charges+else-not-finite_charges, else-charges, then-resets, else-resets}

pub loop-i-init : goal.loop-i-init
loop-i-init c =
    let z = c.requires in
    sofar_start _ _ _ _ _ z.ahead.within z.ahead.readable z.from

pub returns-in_default : goal.returns-in_default
returns-in_default c = absurd (unreadable _ _ _ _ _ _ _ _ c.loop-i.invariant c.loop-i-test.true (sym c.event_at.ensures ∙ c.in_default.is))

pub returns-then-is_sample : goal.returns-then-is_sample
returns-then-is_sample c = sampled _ _ _ _ _ _ _ _ c.loop-i.invariant c.loop-i-test.true c.in-Some.event (sym c.event_at.ensures ∙ c.in-Some.is) c.is_sample.ensures c.if-is_sample.true

pub judge_next-requires : goal.judge_next-requires
judge_next-requires c = known _ _ _ _ _ _ _ _ c.loop-i.invariant

pub returns-in-Err : goal.returns-in-Err
returns-in-Err c =
    refused _ _ _ _ _ _ _ _ c.loop-i.invariant c.loop-i-test.true c.in-Some.event (sym c.event_at.ensures ∙ c.in-Some.is) c.is_sample.ensures
    c.if-is_sample.false c.next_registers-registers.ensures c.judge_next.ensures _ c.in-Err.is

pub returns-then-not-finite_charges : goal.returns-then-not-finite_charges
returns-then-not-finite_charges c =
    overflows _ _ _ _ _ _ _ _ c.loop-i.invariant c.loop-i-test.true c.in-Some.event (sym c.event_at.ensures ∙ c.in-Some.is) c.is_sample.ensures
    c.if-is_sample.false c.next_registers-registers.ensures c.judge_next.ensures c.in-Ok.is
    c.charges.ensures c.if-charges.true c.charge-transients.ensures c.finite_charges.ensures c.if-not-finite_charges.true

pub loop-i-preserved : goal.loop-i-preserved
loop-i-preserved c =
    let inv = c.loop-i.invariant in
    let more = c.loop-i-test.true in
    let event = c.in-Some.event in
    let is = sym c.event_at.ensures ∙ c.in-Some.is in
    let other = c.if-is_sample.false in
    elim c.if-charges.branch [
      | then-charges+else-not-finite_charges w ↦ elim c.if-resets.branch [
        | then-resets v ↦ reset_goes _ _ _ _ _ _ _ _ inv more event is c.is_sample.ensures other c.next_registers-registers.ensures c.judge_next.ensures c.in-Ok.is
            c.charges.ensures
            (charge_goes _ _ _ _ _ _ _ _ inv more event is c.is_sample.ensures other c.next_registers-registers.ensures c.judge_next.ensures c.in-Ok.is
            c.charges.ensures w.if-charges.true w.charge-transients.ensures w.finite_charges.ensures w.if-not-finite_charges.false w.state-is)
            c.resets.ensures v.if-resets.true v.new-fresh.ensures v.state-is
        | else-resets v ↦ reset_none _ _ _ _ _ _ _ _ inv more event is c.is_sample.ensures other c.next_registers-registers.ensures c.judge_next.ensures c.in-Ok.is
            c.charges.ensures
            (charge_goes _ _ _ _ _ _ _ _ inv more event is c.is_sample.ensures other c.next_registers-registers.ensures c.judge_next.ensures c.in-Ok.is
            c.charges.ensures w.if-charges.true w.charge-transients.ensures w.finite_charges.ensures w.if-not-finite_charges.false w.state-is)
            c.resets.ensures v.if-resets.false v.state-is
      ]
      | else-charges w ↦ elim c.if-resets.branch [
        | then-resets v ↦ reset_goes _ _ _ _ _ _ _ _ inv more event is c.is_sample.ensures other c.next_registers-registers.ensures c.judge_next.ensures c.in-Ok.is
            c.charges.ensures
            (charge_none _ _ _ _ _ _ _ _ inv more event is c.is_sample.ensures other c.next_registers-registers.ensures c.judge_next.ensures c.in-Ok.is
            c.charges.ensures w.if-charges.false w.state-is)
            c.resets.ensures v.if-resets.true v.new-fresh.ensures v.state-is
        | else-resets v ↦ reset_none _ _ _ _ _ _ _ _ inv more event is c.is_sample.ensures other c.next_registers-registers.ensures c.judge_next.ensures c.in-Ok.is
            c.charges.ensures
            (charge_none _ _ _ _ _ _ _ _ inv more event is c.is_sample.ensures other c.next_registers-registers.ensures c.judge_next.ensures c.in-Ok.is
            c.charges.ensures w.if-charges.false w.state-is)
            c.resets.ensures v.if-resets.false v.state-is
      ]
    ]

pub returns : goal.returns
returns c = at_end _ _ _ _ _ _ _ _ c.loop-i.invariant c.loop-i-test.false
