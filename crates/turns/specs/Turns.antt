-- A tick on a core (docs/FORMATS.md): what it is lent beside bundle, curves and decays, what it reads of the core, what it refuses and what it leaves.
use Rattle.std.specs.Prelude.{ℕ, cond, ◌&&◌, List, eqb, length, Err, is_ok, Result, Ok}
use Rattle.answers.specs.declared.Refusal.TheVariants.{Argument, Sources}
use Rattle.std.specs.Result.{result_and}
use Rattle.answers.specs.Answers.{first_of, unless_of, Answer, done}
use Rattle.floats.specs.Arithmetic.{f32}
use Rattle.integrator.specs.declared.IntegratorState.{IntegratorState}
use Rattle.mixing.specs.declared.MixingTopology.{MixingTopology}
use Rattle.transients.specs.declared.TransientState.{TransientState}
use Rattle.transients.specs.Block.{judge_decays_of}
use Rattle.signals.specs.Lent.{voices_of, valid_voices_of, external_of, finite_three_at}
use Rattle.control.specs.declared.FilterRegisters.{FilterRegisters}
use Rattle.control.specs.declared.State.{State}
use Rattle.control.specs.Block.{valid_of}
use Rattle.controls.specs.declared.OutputControls.{OutputControls}
use Rattle.controls.specs.Judging.{judge_controls_of}
use Rattle.clock.specs.declared.Settings.{Settings}
use Rattle.clock.specs.declared.TickOutputs.{TickOutputs}
use Rattle.clock.specs.declared.Ticked.{Ticked}
use Rattle.clock.specs.Transients.{factors_of}
use Rattle.clock.specs.Clock.{slots_of, clock_of}
use Rattle.filter.specs.declared.Core.{Core}
use Rattle.filter.specs.Lent.{Lent, judge_lent_of}
use Rattle.filter.specs.Core.{Written, core_start_of, judge_take_of}
use Rattle.answers.specs.declared.Refusal.{Refusal}

-- ---- 11

-- the three levels of the external input: raw, at the filter, at the mixer
unfoldable pub judge_levels_of : List ℕ → Answer
judge_levels_of levels = unless_of (eqb (length levels) 12 && finite_three_at levels 0) Sources

unfoldable pub judge_voices_of : List ℕ → Answer
judge_voices_of voices = unless_of (valid_voices_of voices) Sources

-- ---- the start of a list with ticks: 1, 2, 4, 10, 12, 11, then 3 and 6 of the controls

unfoldable pub turn_start : Lent → List ℕ → State → Answer
turn_start l levels s =
    first_of (judge_lent_of l)
    (first_of (unless_of (valid_of s) Argument)
    (first_of (judge_decays_of l.decays)
    (first_of (judge_levels_of levels) (judge_controls_of l.bundle s))))

-- the core of a state is what a start without ticks hands back
abbrev pub turn_start_of : Lent → List ℕ → State → Written
turn_start_of l levels s = record { answer = turn_start l levels s; core = (core_start_of l s).core }

-- ---- what stands still between two writes

abbrev pub settings_of : Lent → List ℕ → FilterRegisters → MixingTopology → OutputControls → Settings
settings_of l levels r t output =
    record {
      slots = slots_of t r.volume;
      topology = t;
      output = output;
      mode = r.mode;
      volume = r.volume;
      factors = factors_of l.decays;
      external = external_of levels;
    }

-- ---- the tick

-- A tick's answer, with the outputs of one that was taken, and zeros in any other case, and the core after it.
pub record TickFed : Type 0 where
  pub answer : Answer
  pub outputs : TickOutputs
  pub core : Core

-- What a tick answers, beside the core after it.
abbrev pub tick_outputs_of : TickFed → Result TickOutputs Refusal
tick_outputs_of r = result_and r.answer (Ok r.outputs)

abbrev pub no_tick_outputs : TickOutputs
no_tick_outputs = record { stage = f32 0; charge = f32 0; mixer = f32 0; filter = f32 0 }

abbrev pub unticked_of : Answer → Core → TickFed
unticked_of answer k = record { answer = answer; outputs = no_tick_outputs; core = k }

-- the registers stay
abbrev pub after_state : State → IntegratorState → TransientState → State
after_state s i t = record { registers = s.registers; integrator = i; transients = t }

-- and so does all that is kept
abbrev pub ticked_of : Core → Result Ticked Refusal → TickFed
ticked_of k (Ok x) =
    record { answer = done; outputs = x.outputs; core = record { state = after_state k.state x.integrator x.transients; topology = k.topology; controls = k.controls } }
ticked_of k (Err refusal) = unticked_of (Err refusal) k

-- the topology and the controls as they are handed in
unfoldable pub take_tick_of : Lent → List ℕ → Core → List ℕ → TickFed
take_tick_of l levels k voices =
    let s = k.state in
    ticked_of k
    (clock_of l.bundle l.curves k.controls (settings_of l levels s.registers k.topology k.controls.output) s.integrator s.transients (voices_of voices))

-- 1, 2, 4, 10, 12, 11 of levels and voices
abbrev pub judge_tick_of : Lent → List ℕ → Core → List ℕ → Answer
judge_tick_of l levels k voices = first_of (judge_take_of l k) (first_of (judge_decays_of l.decays) (first_of (judge_levels_of levels) (judge_voices_of voices)))

unfoldable pub core_tick_of : Lent → List ℕ → Core → List ℕ → TickFed
core_tick_of l levels k voices =
    let judged = judge_tick_of l levels k voices in
    cond (is_ok judged) (take_tick_of l levels k voices) (unticked_of judged k)
