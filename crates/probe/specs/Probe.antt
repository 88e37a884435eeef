-- What the comparison asks of a state's block and of a script.
use Rattle.std.specs.Prelude.{ℕ, true, false, cond, List, eqb, Option, Some, None, Result, Ok, Err}
use Rattle.std.specs.Option.{unwrap_or}
use Rattle.std.specs.Result.{result_unwrap_or}
use Rattle.answers.specs.declared.Refusal.{Refusal}
use Rattle.floats.specs.Arithmetic.{f32}
use Rattle.integrator.specs.declared.IntegratorState.{IntegratorState}
use Rattle.control.specs.declared.State.{State}
use Rattle.control.specs.Registers.{effective_cutoff_of, starting_state, write_cutoff_low_of, write_cutoff_high_of, write_signal_routing_of, write_mode_and_volume_of}
use Rattle.control.specs.Block.{encode_of}
use Rattle.controls.specs.declared.ControlCache.{ControlCache}
use Rattle.refresh.specs.Refresh.{no_controls}
use Rattle.script.specs.declared.Checked.{Checked}
use Rattle.probe.specs.declared.Script.{Script}

-- registers 0 to 3 are cutoff low, cutoff high, routing and mode; any other number is a reset
unfoldable pub write_of : State → ℕ → ℕ → State
write_of s register value =
    cond (eqb register 0) (write_cutoff_low_of s value)
    (cond (eqb register 1) (write_cutoff_high_of s value)
    (cond (eqb register 2) (write_signal_routing_of s value)
    (cond (eqb register 3) (write_mode_and_volume_of s value) starting_state)))

-- the state of a valid block, and the starting value for any other
abbrev pub state_or : Option State → State
state_or decoded = unwrap_or decoded starting_state

-- a valid block after a write; an invalid one stays
abbrev pub written_of : Option State → List ℕ → ℕ → ℕ → List ℕ
written_of (Some s) block register value = encode_of (write_of s register value) block
written_of None block register value = block

-- the effective cutoff of a valid block, and 65,535 for any other
abbrev pub effective_of : Option State → ℕ
effective_of (Some s) = effective_cutoff_of s
effective_of None = 65535

-- what the check of a script gives, and zeros where it refuses
abbrev pub script_reply_of : Result Checked Refusal → Script
script_reply_of (Ok checked) = record { refused = false; events = checked.events; samples = checked.samples }
script_reply_of (Err refusal) = record { refused = true; events = 0; samples = 0 }

-- zeros, which stand where a sample is refused
abbrev pub no_state : IntegratorState
no_state = record { band_state = f32 0; low_state = f32 0; filter_source_energy = f32 0 }

-- the controls, and zeros where they are refused
abbrev pub controls_or : Result ControlCache Refusal → ControlCache
controls_or refreshed = result_unwrap_or refreshed no_controls
