-- What the comparison asks of a sample.
use Rattle.std.specs.Prelude.{ℕ, List, Float, Result}
use Rattle.std.specs.Result.{result_unwrap_or}
use Rattle.answers.specs.declared.Refusal.{Refusal}
use Rattle.answers.specs.Answers.{answer_of}
use Rattle.mixing.specs.Topology.{topology_of}
use Rattle.control.specs.declared.State.{State}
use Rattle.refresh.specs.Refresh.{refresh_of}
use Rattle.sample.specs.declared.Sampled.{Sampled}
use Rattle.sample.specs.Sample.{summer_slot_of, filter_sample_of}
use Rattle.filter.specs.Core.{no_outputs}
use Rattle.probe.specs.declared.steps.Step.{Step}
use Rattle.probe.specs.Probe.{no_state, controls_or}
use Rattle.probe.specs.Replies.{told_numbers_of}

-- an answer by its numbers, and the numbers of a sample that was taken
abbrev pub sample_step_of : Result Sampled Refusal → Step
sample_step_of sampled =
    let taken = result_unwrap_or sampled (record { outputs = no_outputs; state = no_state }) in
    record { told = told_numbers_of (answer_of sampled); outputs = taken.outputs; state = taken.state }

-- a sample on what a state's registers give, worked out afresh
unfoldable pub fresh_sample_of : List ℕ → List ℕ → State → Float → Float → Result Sampled Refusal
fresh_sample_of bundle curves s sum energy =
    let topology = topology_of s.registers.routing s.registers.mode in
    filter_sample_of bundle curves (summer_slot_of topology) topology (controls_or (refresh_of bundle s)) s.registers.mode s.integrator sum energy
