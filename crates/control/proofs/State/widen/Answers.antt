use Rattle.control.proofs.Widening.{wide_told, widen_done, widen_not}
use Rattle.control.proofs.State.widen.Goals as goal

pub returns-then-block-tidy : goal.returns-then-block-tidy
returns-then-block-tidy c =
    let wide = wide_told c.args.block.now c.fields-registers.ensures c.integrator_fields-integrator.ensures c.at_volume-transients.ensures in
    let told_all =
    widen_done c.args.block.now c.args.wide.now wide c.tidy.ensures c.is_valid.ensures c.if-block-tidy.true c.encode.ensures
    in
    record { value = told_all.0; wide_after = told_all.1 }

pub returns : goal.returns
returns c =
    let wide = wide_told c.args.block.now c.fields-registers.ensures c.integrator_fields-integrator.ensures c.at_volume-transients.ensures in
    let told_all =
    widen_not c.args.block.now c.args.wide.now wide c.tidy.ensures c.is_valid.ensures c.if-block-tidy.false
    in
    record { value = told_all.0; wide_after = told_all.1 }
