use Rattle.mixing.proofs.Routing.{flag_is_bit}
use Rattle.mixing.proofs.Laws.{topology_told}
use Rattle.mixing.proofs.MixingTopology.update.Goals as goal

pub returns : goal.returns
returns c =
    let a = c.args in
    let row = c.filter_flags.ensures in
    topology_told a.routing a.mode (flag_is_bit a.routing 0 row) (flag_is_bit a.routing 1 row) (flag_is_bit a.routing 2 row) (flag_is_bit a.routing 3 row)
    c.bit-voice_three_off.ensures c.bit.ensures c.bit-2.ensures c.bit-3.ensures c.count-filter_input_count.ensures.0 c.count-bypass_input_count.ensures.0 c.count-filter_output_count.ensures.0
    c.reciprocal.ensures c.reciprocal-2.ensures c.reciprocal-3.ensures c.mask.ensures c.mask-2.ensures
