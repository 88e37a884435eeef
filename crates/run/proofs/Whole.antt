-- The run around the loop: what it judges first, the start, and the bytes that it leaves.
use Prim.Native.Nat.{ℕ, suc, ◌*◌, ◌/◌, ◌≤◌}
use native.Mathlib.Omega.{arith}
use native.Mathlib.Nat.{zero-add, sub-zero}
use mathlib.Core.Path.{◌≡◌, refl, sym, ap, ◌∙◌}
use mathlib.Core.Bool.{Bool, true, false, cond, true≢false}
use mathlib.Core.List.{List, [], ◌∷◌, ◌++◌}
use lib.Dec.{leb}
use lib.ListN.{length, drop}
use lib.Ieee.{Float}
use borrow.Author.Tests.{leb-true, leb-false, le-leb, lt-leb, eq-eqb}
use Rattle.answers.specs.declared.Refusal.TheVariants.{Argument, Script, OutputLength}
use Rattle.answers.specs.Answers.{first_of, unless_of, Answer, done}
use Rattle.answers.proofs.Laws.{done_is, first_done, unless_done}
use Rattle.wire.specs.Wire.{Bytes, u32_at, put_at}
use Rattle.wire.proofs.Laws.{put_at_in, put_at_nil}
use Rattle.transients.specs.Block.{judge_decays_of}
use Rattle.control.specs.declared.State.{State}
use Rattle.control.specs.Block.{valid_of, block_of, fields_of, decode_of, encode_of}
use Rattle.control.proofs.RoundTrip.{decoded, encode_decoded}
use Rattle.controls.specs.Judging.{judge_controls_of}
use Rattle.refresh.specs.Refresh.{state_gain_of}
use Rattle.refresh.proofs.Parts.{state_gain}
use Rattle.run.proofs.Changes.{resonance_small}
use Rattle.script.specs.declared.Event.{Event}
use Rattle.script.specs.declared.Checked.{Checked}
use Rattle.script.specs.Script.{well_formed, event_count_of, slices_of, events_of, samples_of, check_script_of}
use Rattle.script.proofs.Laws.{slices_from, sample_le}
use Rattle.script.proofs.Cut.{header, events_count}
use Rattle.filter.specs.Lent.{Lent, judge_lent_of}
use Rattle.run.specs.declared.Played.{Played}
use Rattle.run.specs.declared.Ended.{Ended}
use Rattle.run.specs.Parts.{Ahead, Room, From, play_from, play_put}
use Rattle.filter.specs.Plain.{plain_step}
use Rattle.run.specs.Run.{Ran, stopped, went, play_of, played_of, sample_bytes, is_valid, judge_block_of, judge_script_of, judge_run_of, left_of, run_of}
use Rattle.run.specs.Rows.{play_end, ended_of}
use Rattle.run.proofs.Bytes.{length_outputs}
use Rattle.run.proofs.Loop.{played_few}
use Rattle.std.specs.Prelude.{Err, is_ok, Option, Some, None, Result, Ok, Float}
use Rattle.answers.proofs.Laws.{and_done, and_refused}
use Rattle.bundle.proofs.Reading.{read_value, read_refused}
use Rattle.refresh.specs.Refresh.{judged_of}
use Rattle.run.specs.Rows.{judged_state_of}
use Rattle.answers.specs.declared.Refusal.{Refusal}

-- ---- the script

module _ (script : List ℕ) (room : ℕ) where
  fits_is : (n : ℕ) → leb n (room / 16) ≡ leb (16 * n) room
  fits_is n = go (leb n (room / 16)) refl
    where
      go : (t : Bool) → leb n (room / 16) ≡ t → t ≡ leb (16 * n) room
      go true h = let le = leb-true n (room / 16) h in sym (le-leb (16 * n) room (omega arith))
      go false h = let lt = leb-false n (room / 16) h in sym (lt-leb (16 * n) room (omega arith))

  pub script_formed : (told : Checked) {x : Result Checked Refusal} → x ≡ check_script_of script → x ≡ Ok told → unless_of (leb told.samples (room / 16)) OutputLength ≡ judge_script_of script room
  unfolding check_script_of judge_script_of
  script_formed told e h = go (well_formed script) refl (sym e ∙ h)
    where
      go : (t : Bool) → well_formed script ≡ t → cond {A = Result Checked Refusal} t (Ok (record { events = event_count_of script; samples = samples_of (events_of script) })) (Err Script) ≡ Ok told
          → unless_of (leb told.samples (room / 16)) OutputLength ≡ first_of (unless_of t Script) (unless_of (leb (16 * samples_of (events_of script)) room) OutputLength)
      go true w p = let same : ◌≡◌ {A = Checked} (record { events = event_count_of script; samples = samples_of (events_of script) }) told = cc in rw (← ap (λ (c : Checked). c.samples) same, fits_is (samples_of (events_of script))) refl
      go false w p = cc

  pub script_refused : (refusal : Refusal) {x : Result Checked Refusal} → x ≡ check_script_of script → x ≡ Err refusal → Err refusal ≡ judge_script_of script room
  unfolding check_script_of judge_script_of
  script_refused refusal e h = go (well_formed script) refl (sym e ∙ h)
    where
      go : (t : Bool) → well_formed script ≡ t → cond {A = Result Checked Refusal} t (Ok (record { events = (event_count_of script); samples = (samples_of (events_of script)) })) (Err Script) ≡ Err refusal
          → Err refusal ≡ first_of (unless_of t Script) (unless_of (leb (16 * samples_of (events_of script)) room) OutputLength)
      go true w p = cc
      go false w p = cc

-- ---- a script that is not refused

module _ (script : List ℕ) (room : ℕ) (fine : judge_script_of script room ≡ done) where
  both_done : (unless_of (well_formed script) Script ≡ done) × (unless_of (leb (16 * samples_of (events_of script)) room) OutputLength ≡ done)
  unfolding judge_script_of
  both_done = first_done (unless_of (well_formed script) Script) (unless_of (leb (16 * samples_of (events_of script)) room) OutputLength) fine

  formed : well_formed script ≡ true
  formed = unless_done (well_formed script) Script both_done.0

  fitting : 16 * samples_of (events_of script) ≤ room
  fitting = leb-true (16 * samples_of (events_of script)) room (unless_done (leb (16 * samples_of (events_of script)) room) OutputLength both_done.1)

-- ---- the start, from a valid state

module _ (lent : Lent) (script : List ℕ) (s : State) (valid : valid_of s ≡ true) where
  -- refused by its controls
  pub start_stops : (refusal : Refusal) → judged_of lent.bundle s ≡ Err refusal → (output : List ℕ)
      → (◌≡◌ {A = Played} (record { answer = Err refusal; events = 0; samples = 0; state = s }) (play_end 0 0 (played_of lent s (events_of script))))
      × (output ≡ play_put output (played_of lent s (events_of script)))
  unfolding played_of sample_bytes
  start_stops refusal h output = rw (read_refused _ _ (sym h)) (refl, sym (put_at_nil output 0))

  module _ {gain : Float} (judged : judged_of lent.bundle s ≡ Ok gain) {count : ℕ} (c : count ≡ u32_at script 0) where
    first_is : slices_from script count 0 ≡ slices_of script
    first_is = rw (c, sub-zero (event_count_of script)) refl

    pub start_plays : play_from lent s script count ≡ played_of lent s (events_of script)
    unfolding played_of
    start_plays = rw ((read_value _ _ (sym judged)).0, first_is) refl

    module _ (output : List ℕ) (fine : judge_script_of script (length output) ≡ done) where
      pub start_ahead : Ahead script count 0
      start_ahead =
          let k = header script (formed script (length output) fine) in
          record { within = omega arith; few = rw c k.few; readable = rw first_is k.readable }

      pub start_room : Room script count 0 output 0
      start_room = record { fewer = omega arith; room = rw (first_is, zero-add (samples_of (events_of script))) (fitting script (length output) fine) }

    pub start_from : From lent.bundle s gain
    start_from =
        let read = read_value _ _ (sym judged) in
        record { valid = valid; judged = read.0; gained = read.1 ∙ sym (state_gain lent.bundle s (resonance_small s valid) read.0) }

-- ---- what is judged before the controls

module _ (lent : Lent) (block script : List ℕ) (room : ℕ) where
  module _ (judged : judge_run_of lent block script room ≡ done) where
    pub parts : (judge_lent_of lent ≡ done) × (judge_block_of block ≡ done) × (judge_decays_of lent.decays ≡ done) × (judge_script_of script room ≡ done)
    unfolding judge_run_of
    parts =
        let p = first_done (judge_lent_of lent) _ judged in
        let q = first_done (judge_block_of block) _ p.1 in
        let r = first_done (judge_decays_of lent.decays) (judge_script_of script room) q.1 in
        (p.0, q.0, r.0, r.1)

    pub roomy : 16 * samples_of (events_of script) ≤ room
    roomy = fitting script room parts.3

    pub block_valid : decode_of block ≡ Some (fields_of block)
    block_valid = go (decode_of block) refl (unless_done (is_valid (decode_of block)) Argument parts.1)
      where
        go : (x : Option State) → decode_of block ≡ x → is_valid x ≡ true → decode_of block ≡ Some (fields_of block)
        go (Some s) e h = e ∙ ap Some (sym (decoded block s e).fields)
        go None e h = absurd (true≢false (sym h))

    block_long : length block ≡ 68
    block_long = (decoded block (fields_of block) block_valid).long

    -- the block of the state that a block stands for is the block
    pub block_stands : Bytes block → block_of (fields_of block) ≡ block
    block_stands bytes = (encode_decoded block (fields_of block) bytes block_valid).0

-- ---- the bytes that are left

module _ (lent : Lent) (block script output : List ℕ) (judged : judge_run_of lent block script (length output) ≡ done) where
  abbrev ran : Ran
  ran = played_of lent (fields_of block) (events_of script)

  ran_few : length ran.samples ≤ samples_of (events_of script)
  unfolding played_of
  ran_few = go (is_ok (judge_controls_of lent.bundle (fields_of block)))
    where
      go : (d : Bool)
          → length (cond d (play_of lent (fields_of block) (events_of script)) (stopped (judge_controls_of lent.bundle (fields_of block)) (fields_of block))).samples ≤ samples_of (events_of script)
      go true = played_few lent (fields_of block) (events_of script)
      go false = omega arith

  front : put_at output 0 (sample_bytes ran.samples) ≡ sample_bytes ran.samples ++ drop (16 * length ran.samples) output
  front =
      let n = length_outputs ran.samples in
      let few = ran_few in
      let room = roomy lent block script (length output) judged in
      put_at_in output 0 (sample_bytes ran.samples) (omega arith)
      ∙ rw (zero-add (length (sample_bytes ran.samples)), n) refl

  run_done :
      {p : Played} → p ≡ play_end 0 0 ran → {after state : List ℕ} → after ≡ put_at output 0 (sample_bytes ran.samples) → state ≡ encode_of p.state block
      → (◌≡◌ {A = Ended} (record { answer = p.answer; events = p.events; samples = p.samples }) (ended_of (run_of lent block script output)))
      × ((state ≡ (run_of lent block script output).state) × (after ≡ (run_of lent block script output).output))
  unfolding run_of encode_of
  run_done is put left =
      rw (put, left, is, judged, eq-eqb (length block) 68 (block_long lent block script (length output) judged), zero-add ran.events, zero-add (length ran.samples))
      (refl, (refl, front))

-- from the state that it starts from
module _ (lent : Lent) (block script output : List ℕ) {s : State} (judged : judged_state_of lent block script (length output) ≡ Ok s) where
  abbrev state_judged : (judge_run_of lent block script (length output) ≡ done) × (fields_of block ≡ s)
  state_judged = and_done _ _ judged

  pub state_fine : (valid_of s ≡ true) × (judge_script_of script (length output) ≡ done)
  state_fine =
      let j = state_judged.0 in
      (rw (← state_judged.1) (decoded block (fields_of block) (block_valid lent block script (length output) j)).valid, (parts lent block script (length output) j).3)

  pub state_done : {p : Played} → p ≡ play_end 0 0 (played_of lent s (events_of script)) → {after state : List ℕ}
      → after ≡ play_put output (played_of lent s (events_of script)) → state ≡ encode_of p.state block
      → (◌≡◌ {A = Ended} (record { answer = p.answer; events = p.events; samples = p.samples }) (ended_of (run_of lent block script output)))
      × ((state ≡ (run_of lent block script output).state) × (after ≡ (run_of lent block script output).output))
  state_done is put left = run_done lent block script output state_judged.0 (rw state_judged.1 is) (rw state_judged.1 put) left

-- turned back
pub run_refused :
    (lent : Lent) (block script output : List ℕ) {refusal : Refusal} → judged_state_of lent block script (length output) ≡ Err refusal
    → (◌≡◌ {A = Ended} (record { answer = Err refusal; events = 0; samples = 0 }) (ended_of (run_of lent block script output)))
    × ((block ≡ (run_of lent block script output).state) × (output ≡ (run_of lent block script output).output))
unfolding run_of
run_refused lent block script output h = rw (and_refused _ _ h) (refl, (refl, refl))

-- ---- how many events and samples there can be

samples_most : (es : List Event) → samples_of es ≤ length es
unfolding samples_of
samples_most [] = omega arith
samples_most (e ∷ es) = omega (arith, sample_le e, samples_most es)

play_most : (lent : Lent) (s : State) (es : List Event) → (play_of lent s es).events ≤ length es
unfolding play_of
play_most lent s [] = omega arith
play_most lent s (e ∷ es) = go (is_ok (plain_step lent s e).answer) (play_most lent (plain_step lent s e).state es)
  where
    go : (d : Bool) → (play_of lent (plain_step lent s e).state es).events ≤ length es
        → (cond d (went (plain_step lent s e) (play_of lent (plain_step lent s e).state es)) (stopped (plain_step lent s e).answer s)).events ≤ suc (length es)
    go true h = omega arith
    go false h = omega arith

-- At most 65,536 of each, so that both fit the C interface's u32.
pub run_most : (lent : Lent) (block script output : List ℕ) → ((run_of lent block script output).events ≤ 65536) × ((run_of lent block script output).samples ≤ 65536)
unfolding run_of played_of
run_most lent block script output = go (is_ok (judge_run_of lent block script (length output))) refl
  where
    go : (d : Bool) → is_ok (judge_run_of lent block script (length output)) ≡ d
        →
        ((cond d (left_of (played_of lent (fields_of block) (events_of script)) output)
        (record { answer = judge_run_of lent block script (length output); events = 0; samples = 0; state = block; output = output })).events ≤ 65536)
        ×
        ((cond d (left_of (played_of lent (fields_of block) (events_of script)) output)
        (record { answer = judge_run_of lent block script (length output); events = 0; samples = 0; state = block; output = output })).samples ≤ 65536)
    go true h =
        let judged = done_is (judge_run_of lent block script (length output)) h in
        let f = formed script (length output) (parts lent block script (length output) judged).3 in
        let n = events_count script f in
        let few = (header script f).few in
        let most = samples_most (events_of script) in
        let written = ran_few lent block script output judged in
        (either (is_ok (judge_controls_of lent.bundle (fields_of block))), omega arith)
      where
        either : (d : Bool) → (cond d (play_of lent (fields_of block) (events_of script)) (stopped (judge_controls_of lent.bundle (fields_of block)) (fields_of block))).events ≤ 65536
        either true =
            let judged = done_is (judge_run_of lent block script (length output)) h in
            let f = formed script (length output) (parts lent block script (length output) judged).3 in
            omega (arith, play_most lent (fields_of block) (events_of script), events_count script f, (header script f).few)
        either false = omega arith
    go false h = (omega arith, omega arith)
