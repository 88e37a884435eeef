-- A tick on a state's block: its core is worked out and ticked once.
use Rattle.std.specs.Prelude.{ℕ, cond, List, eqb, Err, Option, Some, None, Result, Ok}
use Rattle.answers.specs.declared.Refusal.TheVariants.{Argument}
use Rattle.answers.specs.Answers.{reported_of, first_of, unless_of, Answer}
use Rattle.std.specs.Result.{result_and}
use Rattle.wire.specs.Wire.{put_at}
use Rattle.integrator.specs.declared.IntegratorState.{IntegratorState}
use Rattle.transients.specs.declared.TransientState.{TransientState}
use Rattle.control.specs.declared.State.{State}
use Rattle.control.specs.Block.{valid_of, fields_of, encode_of}
use Rattle.transients.specs.Block.{judge_decays_of}
use Rattle.clock.specs.declared.TickOutputs.{TickOutputs}
use Rattle.clock.specs.declared.Ticked.{Ticked}
use Rattle.clock.specs.Clock.{tick_bytes}
use Rattle.filter.specs.Lent.{Lent, judge_lent_of}
use Rattle.turns.specs.Turns.{TickFed, judge_levels_of, judge_voices_of, turn_start_of, core_tick_of}
use Rattle.probe_ticks.specs.declared.TickReply.{TickReply}
use Rattle.answers.specs.declared.Refusal.{Refusal}

-- what a tick on a core left, or its refusal
unfoldable pub tick_left_of : Answer → TickFed → Result Ticked Refusal
tick_left_of answer r = result_and answer (Ok (record { outputs = r.outputs; integrator = r.core.state.integrator; transients = r.core.state.transients }))

-- 1, 2, 4, 10, 12, 11: all that a tick judges before its stages
abbrev pub judge_state_of : Lent → List ℕ → List ℕ → State → Answer
judge_state_of l levels voices s =
    first_of (judge_lent_of l)
    (first_of (unless_of (valid_of s) Argument)
    (first_of (judge_decays_of l.decays)
    (first_of (judge_levels_of levels) (judge_voices_of voices))))

-- those, then 3 and 6 of the controls, then the stages
unfoldable pub state_tick_of : Lent → List ℕ → List ℕ → State → Result Ticked Refusal
state_tick_of l levels voices s =
    let started = turn_start_of l levels s in
    let fed = core_tick_of l levels started.core voices in
    tick_left_of (first_of (judge_state_of l levels voices s) (first_of started.answer fed.answer)) fed

-- 10 of a block that is no state's, or of an output that is not 16 bytes long
abbrev pub no_block_of : Lent → Result Ticked Refusal
no_block_of l = result_and (judge_lent_of l) (Err Argument)

abbrev pub block_tick_of : Lent → List ℕ → List ℕ → ℕ → Option State → Result Ticked Refusal
block_tick_of l levels voices room (Some s) = cond (eqb room 16) (state_tick_of l levels voices s) (no_block_of l)
block_tick_of l levels voices room None = no_block_of l

-- ---- what it leaves

-- the block of the same registers with other numbers
abbrev pub block_after_of : IntegratorState → TransientState → List ℕ → List ℕ
block_after_of i t block = encode_of (record { registers = (fields_of block).registers; integrator = i; transients = t }) block

-- stage, charge, mixer and filter
abbrev pub output_after_of : TickOutputs → List ℕ → List ℕ
output_after_of o output = put_at output 0 (tick_bytes o)

-- an answer by its numbers
abbrev pub tick_reply_of : Result Ticked Refusal → TickReply
tick_reply_of (Ok x) = record { number = 0; buffer = 0; place = 0 }
tick_reply_of (Err refusal) = let told = reported_of refusal in record { number = told.number; buffer = told.buffer; place = told.place }

abbrev pub ticked_block_of : Result Ticked Refusal → List ℕ → List ℕ
ticked_block_of (Ok x) block = block_after_of x.integrator x.transients block
ticked_block_of (Err refusal) block = block

abbrev pub ticked_output_of : Result Ticked Refusal → List ℕ → List ℕ
ticked_output_of (Ok x) output = output_after_of x.outputs output
ticked_output_of (Err refusal) output = output
