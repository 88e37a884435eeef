use Rattle.sample.specs.Parts.{cache_of}
use Rattle.tick_row.proofs.Rows.{Sofar}
use Rattle.tick_row.proofs.play_ticks.Given as goal

abbrev pub invariant-loop-i : goal.invariant-loop-i
invariant-loop-i l =
    Sofar l.curves (cache_of l.gains l.input_drives l.feedback_drives l.core l.mode_output_gain) l.rest l.settings l.voices l.count l.initial.output l.initial.integrator l.initial.transients l.output l.integrator l.transients l.i
