-- What the comparison asks of the core.
use Rattle.std.specs.Prelude.{Err, Option, Some, None, Result}
use Rattle.std.specs.Int.{w16}
use Rattle.std.specs.Option.{unwrap_or}
use Rattle.std.specs.Result.{result_unwrap_or}
use Rattle.std.proofs.Common.{to_z, of_z}
use Rattle.answers.specs.declared.Refusal.{Refusal}
use Rattle.answers.specs.declared.Refusal.TheVariants.{Script}
use Rattle.answers.specs.Answers.{answer_of}
use Rattle.control.specs.declared.FilterRegisters.{FilterRegisters}
use Rattle.sample.specs.declared.Outputs.{Outputs}
use Rattle.script.specs.declared.Event.{Event}
use Rattle.filter.specs.declared.Core.{Core}
use Rattle.filter.specs.Core.{Fed, no_outputs, feed_of}
use Rattle.filter.specs.Lent.{Lent}
use Rattle.filter.specs.Lists.{told_of}
use Rattle.probe.specs.declared.cores.Registers.{Registers}
use Rattle.probe.specs.declared.cores.Handed.{Handed}
use Rattle.probe.specs.declared.cores.Given.{Given}
use Rattle.probe.specs.Replies as R

-- the displacement goes by its sixteen bits
abbrev pub registers_of : Registers → FilterRegisters
registers_of r = record {
  cutoff = r.cutoff;
  cutoff_dac_displacement_codes = to_z w16 r.displacement;
  cutoff_write_base = r.write_base;
  cutoff_low_pending = r.pending;
  resonance = r.resonance;
  routing = r.routing;
  mode = r.mode;
  volume = r.volume;
}

abbrev pub registered_of : FilterRegisters → Registers
registered_of r = record {
  cutoff = r.cutoff;
  displacement = of_z w16 r.cutoff_dac_displacement_codes;
  write_base = r.cutoff_write_base;
  pending = r.cutoff_low_pending;
  resonance = r.resonance;
  routing = r.routing;
  mode = r.mode;
  volume = r.volume;
}

abbrev pub handed_core_of : Handed → Core
handed_core_of h = record { state = record { registers = registers_of h.registers; integrator = h.integrator; transients = h.transients }; topology = h.topology; controls = h.controls }

abbrev pub handed_of : Core → Handed
handed_of k = record { registers = registered_of k.state.registers; integrator = k.state.integrator; transients = k.state.transients; topology = k.topology; controls = k.controls }

-- an answer by its numbers, the outputs, and the core
abbrev pub given_of : Fed → Given
given_of f = record { told = R.told_numbers_of f.answer; outputs = f.outputs; core = handed_of f.core }

-- the same from what `Core::feed` answers and the core after it
abbrev pub given_with : Result (Option Outputs) Refusal → Core → Given
given_with told k = record { told = R.told_numbers_of (answer_of told); outputs = unwrap_or (result_unwrap_or told None) no_outputs; core = handed_of k }

-- the event, and 7 where there is none
abbrev pub fed_at_of : Lent → Core → Option Event → Fed
fed_at_of lent k (Some e) = feed_of lent k e
fed_at_of lent k None = record { answer = Err Script; outputs = no_outputs; core = k }

abbrev pub told_at_of : Lent → Core → Option Event → Result (Option Outputs) Refusal
told_at_of lent k (Some e) = told_of e (feed_of lent k e)
told_at_of lent k None = Err Script
