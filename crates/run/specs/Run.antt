-- The run: the plain machine on the bytes that are lent, up to its first refusal.
use Rattle.std.specs.Prelude.{ℕ, suc, ◌*◌, Bool, true, false, cond, List, [], ◌∷◌, ◌++◌, leb, length, drop, Err, is_ok, Option, Some, None}
use Rattle.std.specs.Float.{binary32}
use Rattle.std.specs.Float.Ieee.{to_bits}
use Rattle.answers.specs.declared.Refusal.TheVariants.{Argument, Script, OutputLength}
use Rattle.answers.specs.Answers.{first_of, unless_of, Answer, done}
use Rattle.wire.specs.Wire.{row_bytes}
use Rattle.transients.specs.Block.{judge_decays_of}
use Rattle.control.specs.declared.State.{State}
use Rattle.control.specs.Block.{block_of, fields_of, decode_of}
use Rattle.controls.specs.Judging.{judge_controls_of}
use Rattle.sample.specs.declared.Outputs.{Outputs}
use Rattle.script.specs.declared.Event.{Event}
use Rattle.script.specs.Script.{well_formed, events_of, samples_of}
use Rattle.filter.specs.Lent.{Lent, judge_lent_of}
use Rattle.filter.specs.Plain.{Plain, plain_step}

-- ---- the events

-- What was done up to the stop or the end: how many events, their samples, and the state after them.
pub record Ran : Type 0 where
  pub answer : Answer
  pub events : ℕ
  pub samples : List Outputs
  pub state : State

abbrev pub stopped : Answer → State → Ran
stopped answer s = record { answer = answer; events = 0; samples = []; state = s }

-- an event that went, and what came after it
abbrev pub went : Plain → Ran → Ran
went p r = record { answer = r.answer; events = suc r.events; samples = p.sample ++ r.samples; state = r.state }

-- The plain machine fed with events, up to the first that is refused.
unfoldable pub play_of : Lent → State → List Event → Ran
play_of lent s [] = stopped done s
play_of lent s (e ∷ es) =
    let p = plain_step lent s e in
    cond (is_ok p.answer) (went p (play_of lent p.state es)) (stopped p.answer s)

-- Controls are worked out before the first event, and with 0 events too: a 3 or 6 there counts as no event done.
unfoldable pub played_of : Lent → State → List Event → Ran
played_of lent s es =
    let started = judge_controls_of lent.bundle s in
    cond (is_ok started) (play_of lent s es) (stopped started s)

-- ---- the bytes

-- high, band, low and selected
abbrev pub output_bytes : Outputs → List ℕ
output_bytes o = row_bytes (to_bits binary32 o.high) (to_bits binary32 o.band) (to_bits binary32 o.low) (to_bits binary32 o.selected)

unfoldable pub sample_bytes : List Outputs → List ℕ
sample_bytes [] = []
sample_bytes (o ∷ os) = output_bytes o ++ sample_bytes os

abbrev pub is_valid : Option State → Bool
is_valid (Some s) = true
is_valid None = false

-- 10
abbrev pub judge_block_of : List ℕ → Answer
judge_block_of block = unless_of (is_valid (decode_of block)) Argument

-- 7, 8
unfoldable pub judge_script_of : List ℕ → ℕ → Answer
judge_script_of script room = first_of (unless_of (well_formed script) Script) (unless_of (leb (16 * samples_of (events_of script)) room) OutputLength)

-- 1, 2, 4, 10, 12, 7, 8
unfoldable pub judge_run_of : Lent → List ℕ → List ℕ → ℕ → Answer
judge_run_of lent block script room = first_of (judge_lent_of lent) (first_of (judge_block_of block) (first_of (judge_decays_of lent.decays) (judge_script_of script room)))

-- What a run answers, and the bytes that it leaves in the state block and in the output.
pub record Run : Type 0 where
  pub answer : Answer
  pub events : ℕ
  pub samples : ℕ
  pub state : List ℕ
  pub output : List ℕ

-- The samples before the stop are written from the output's start, the state before it into the block; later output bytes stay.
abbrev pub left_of : Ran → List ℕ → Run
left_of r output =
    record {
      answer = r.answer;
      events = r.events;
      samples = length r.samples;
      state = block_of r.state;
      output = sample_bytes r.samples ++ drop (16 * length r.samples) output;
    }

unfoldable pub run_of : Lent → List ℕ → List ℕ → List ℕ → Run
run_of lent block script output =
    let judged = judge_run_of lent block script (length output) in
    cond (is_ok judged)
    (left_of (played_of lent (fields_of block) (events_of script)) output)
    (record { answer = judged; events = 0; samples = 0; state = block; output = output })
