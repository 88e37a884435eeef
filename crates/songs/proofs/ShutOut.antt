-- What is shut out of a run, said of `run_of`, which is the contract of `run`.
use Prim.Native.Nat.{ℕ, suc, ◌+◌, ◌*◌, ◌≤◌}
use native.Mathlib.Omega.{arith}
use mathlib.Core.Path.{◌≡◌, refl, sym, ap, ◌∙◌}
use mathlib.Core.Bool.{Bool, true, false, cond, true≢false}
use mathlib.Core.List.{List, [], ◌∷◌}
use lib.ListN.{length, take, drop, length-append, length-drop, take-append-drop}
use lib.Seq.{drop_at}
use Rattle.answers.specs.declared.Refusal.TheVariants.{Argument}
use Rattle.answers.specs.Answers.{first_of, Answer, done}
use Rattle.answers.proofs.Laws.{done_is}
use Rattle.wire.specs.Wire.{Bytes}
use Rattle.control.specs.declared.State.{State}
use Rattle.control.specs.Registers.{starting_state, write_cutoff_low_of, write_cutoff_high_of, write_signal_routing_of, write_mode_and_volume_of}
use Rattle.control.specs.Block.{block_of, fields_of}
use Rattle.controls.specs.Judging.{judge_controls_of}
use Rattle.sample.specs.declared.Sampled.{Sampled}
use Rattle.script.specs.declared.Event.{Event}
use Rattle.script.specs.declared.Event.TheVariants.{CutoffLow, CutoffHigh, Routing, Mode, Sample, Reset}
use Rattle.script.specs.Script.{events_of, sample_count_of, samples_of}
use Rattle.script.proofs.Cut.{samples_append}
use Rattle.filter.specs.Lent.{Lent, judge_lent_of}
use Rattle.filter.specs.Plain.{Plain, refused_at, judge_change_of, plain_change, plain_taken, judge_plain, plain_sampled, plain_sample, plain_step, plain_trace}
use Rattle.run.specs.Run.{Ran, stopped, went, play_of, played_of, sample_bytes, judge_block_of, judge_run_of, Run, left_of, run_of}
use Rattle.run.proofs.Bytes.{length_outputs}
use Rattle.run.proofs.Whole.{roomy, block_stands}
use Rattle.std.specs.Prelude.{Err, is_ok, Result, Ok}
use Rattle.answers.specs.declared.Refusal.{Refusal}

-- ---- the events

-- no event of the list is refused
abbrev pub AllDone : List Plain → Type 0
AllDone [] = Unit {0}
AllDone (p ∷ ps) = (p.answer ≡ done) × AllDone ps

-- what the first event answers, if there is one
abbrev pub first_answer : Lent → State → List Event → Answer
first_answer lent s [] = done
first_answer lent s (e ∷ es) = (plain_step lent s e).answer

-- The first event, if there is one, is done unless `first` is a refusal; where none is done, that is the answer.
abbrev pub Event0 : Answer → List Event → Answer → ℕ → Type 0
Event0 first es answer events = (first ≡ done → length (take 1 es) ≤ events) × (events ≡ 0 → answer ≡ first)

first_refused : (a : Answer) (es : List Event) → is_ok a ≡ false → Event0 a es a 0
first_refused a es h = ((λ d. absurd (true≢false (sym (ap is_ok d) ∙ h))), (λ z. refl))

-- what was done, without the refusal
abbrev pub up_to : Ran → Ran
up_to r = record { answer = done; events = r.events; samples = r.samples; state = r.state }

module _ (lent : Lent) where
  play_all : (s : State) (es : List Event) → AllDone (plain_trace lent s es) → (play_of lent s es).answer ≡ done
  unfolding play_of plain_trace
  play_all s [] h = refl
  play_all s (e ∷ es) h = rw h.0 (play_all (plain_step lent s e).state es h.1)

  play_none : (s : State) (es : List Event) → (play_of lent s es).answer ≡ done → AllDone (plain_trace lent s es)
  unfolding play_of plain_trace
  play_none s [] h = tt
  play_none s (e ∷ es) h = let p = plain_step lent s e in go (is_ok p.answer) p (play_of lent p.state es) refl (play_none p.state es) h
    where
      go : (d : Bool) (p : Plain) (r : Ran) → is_ok p.answer ≡ d → (r.answer ≡ done → AllDone (plain_trace lent p.state es))
          → (cond d (went p r) (stopped p.answer s)).answer ≡ done → (p.answer ≡ done) × AllDone (plain_trace lent p.state es)
      go true p r is rest h = (done_is p.answer is, rest h)
      go false p r is rest h = absurd (true≢false (sym (ap is_ok h) ∙ is))

  -- the event after those that were done, if there is one, gives the answer
  play_stops : (s : State) (es : List Event) → first_answer lent (play_of lent s es).state (drop (play_of lent s es).events es) ≡ (play_of lent s es).answer
  unfolding play_of
  play_stops s [] = refl
  play_stops s (e ∷ es) = let p = plain_step lent s e in go (is_ok p.answer) p (play_of lent p.state es) refl (play_stops p.state es)
    where
      go : (d : Bool) (p : Plain) (r : Ran) → p ≡ plain_step lent s e → first_answer lent r.state (drop r.events es) ≡ r.answer
          → first_answer lent (cond d (went p r) (stopped p.answer s)).state (drop (cond d (went p r) (stopped p.answer s)).events (e ∷ es)) ≡ (cond d (went p r) (stopped p.answer s)).answer
      go true p r is rest = rest
      go false p r is rest = ap (λ (q : Plain). q.answer) (sym is)

  -- The events done, played alone, end without a refusal where the whole list stopped.
  play_done : (s : State) (es : List Event) → play_of lent s (take (play_of lent s es).events es) ≡ up_to (play_of lent s es)
  unfolding play_of
  play_done s [] = refl
  play_done s (e ∷ es) = let p = plain_step lent s e in go (is_ok p.answer) p (play_of lent p.state es) refl refl (play_done p.state es)
    where
      go : (d : Bool) (p : Plain) (r : Ran) → p ≡ plain_step lent s e → is_ok p.answer ≡ d → play_of lent p.state (take r.events es) ≡ up_to r
          → play_of lent s (take (cond d (went p r) (stopped p.answer s)).events (e ∷ es)) ≡ up_to (cond d (went p r) (stopped p.answer s))
      go true p r is h rest = rw (← is, h) (ap (went p) rest)
      go false p r is h rest = refl

  -- A change takes no sample, a sample that is not refused takes one.
  change_counts : (s t : State) → length (plain_change lent s t).sample ≡ 0
  change_counts s t = go (is_ok (judge_change_of lent.bundle t))
    where
      go : (d : Bool) → length (cond d (record { answer = done; sample = []; state = t }) (refused_at s (judge_change_of lent.bundle t))).sample ≡ 0
      go true = refl
      go false = refl

  taken_counts : (s : State) (x : Result Sampled Refusal) → (plain_taken s x).answer ≡ done → length (plain_taken s x).sample ≡ 1
  taken_counts s (Ok t) h = refl
  taken_counts s (Err refusal) h = cc (ap is_ok h)

  sample_counts : (s : State) (a : Answer) (x : Result Sampled Refusal) (d : Bool) → is_ok a ≡ d
      → (cond d (plain_taken s x) (refused_at s a)).answer ≡ done → length (cond d (plain_taken s x) (refused_at s a)).sample ≡ 1
  sample_counts s a x true is h = taken_counts s x h
  sample_counts s a x false is h = cc (ap is_ok h)

  step_counts : (s : State) (e : Event) → (plain_step lent s e).answer ≡ done → length (plain_step lent s e).sample ≡ sample_count_of e
  unfolding plain_sample
  step_counts s (CutoffLow v) h = change_counts s (write_cutoff_low_of s v)
  step_counts s (CutoffHigh v) h = change_counts s (write_cutoff_high_of s v)
  step_counts s (Routing v) h = change_counts s (write_signal_routing_of s v)
  step_counts s (Mode v) h = change_counts s (write_mode_and_volume_of s v)
  step_counts s Reset h = change_counts s starting_state
  step_counts s (Sample sum energy) h = sample_counts s (judge_plain lent s sum energy) (plain_sampled lent s sum energy) (is_ok (judge_plain lent s sum energy)) refl h

  -- A list without a refusal has all its events done and a sample for each sample event.
  play_counts : (s : State) (es : List Event) → (play_of lent s es).answer ≡ done → ((play_of lent s es).events ≡ length es) × (length (play_of lent s es).samples ≡ samples_of es)
  unfolding play_of samples_of
  play_counts s [] h = (refl, refl)
  play_counts s (e ∷ es) h = let p = plain_step lent s e in go (is_ok p.answer) p (play_of lent p.state es) refl (step_counts s e) (play_counts p.state es) h
    where
      go : (d : Bool) (p : Plain) (r : Ran) → is_ok p.answer ≡ d → (p.answer ≡ done → length p.sample ≡ sample_count_of e)
          → (r.answer ≡ done → (r.events ≡ length es) × (length r.samples ≡ samples_of es))
          → (cond d (went p r) (stopped p.answer s)).answer ≡ done
          → ((cond d (went p r) (stopped p.answer s)).events ≡ suc (length es)) × (length (cond d (went p r) (stopped p.answer s)).samples ≡ sample_count_of e + samples_of es)
      go true p r is one rest h = (ap suc (rest h).0, rw (length-append p.sample r.samples, one (done_is p.answer is), (rest h).1) refl)
      go false p r is one rest h = absurd (true≢false (sym (ap is_ok h) ∙ is))

  play_first : (s : State) (es : List Event) → Event0 (first_answer lent s es) es (play_of lent s es).answer (play_of lent s es).events
  unfolding play_of
  play_first s [] = ((λ h. omega arith), (λ h. refl))
  play_first s (e ∷ es) = let p = plain_step lent s e in go (is_ok p.answer) p (play_of lent p.state es) refl
    where
      go : (d : Bool) (p : Plain) (r : Ran) → is_ok p.answer ≡ d
          → Event0 p.answer (e ∷ es) (cond d (went p r) (stopped p.answer s)).answer (cond d (went p r) (stopped p.answer s)).events
      go true p r h = ((λ a. omega arith), (λ z. absurd (omega (arith, z))))
      go false p r h = first_refused p.answer (e ∷ es) h

  played_first : (s : State) (es : List Event) → Event0 (first_of (judge_controls_of lent.bundle s) (first_answer lent s es)) es (played_of lent s es).answer (played_of lent s es).events
  unfolding played_of
  played_first s es = go (judge_controls_of lent.bundle s) (first_answer lent s es) (play_of lent s es) (play_first s es)
    where
      go : (a b : Answer) (r : Ran) → Event0 b es r.answer r.events → Event0 (first_of a b) es (cond (is_ok a) r (stopped a s)).answer (cond (is_ok a) r (stopped a s)).events
      go (Ok _) b r first = first
      go (Err refusal) b r first = first_refused (Err refusal) es refl

  played_done : (s : State) (es : List Event) → play_of lent s (take (played_of lent s es).events es) ≡ up_to (played_of lent s es)
  unfolding played_of play_of
  played_done s es = let started = judge_controls_of lent.bundle s in go (is_ok started) started (play_of lent s es) (play_done s es)
    where
      go : (d : Bool) (a : Answer) (r : Ran) → play_of lent s (take r.events es) ≡ up_to r → play_of lent s (take (cond d r (stopped a s)).events es) ≡ up_to (cond d r (stopped a s))
      go true a r h = h
      go false a r h = refl

  -- the samples written are those among the events done
  played_samples : (s : State) (es : List Event) → length (played_of lent s es).samples ≡ samples_of (take (played_of lent s es).events es)
  played_samples s es =
      let r = played_of lent s es in
      let done = played_done s es in
      sym (ap (λ (t : Ran). length t.samples) done) ∙ (play_counts s (take r.events es) (ap (λ (t : Ran). t.answer) done)).1

  -- where no event was done, nothing was
  play_none_done : (s : State) (es : List Event) → (play_of lent s es).events ≡ 0 → play_of lent s es ≡ stopped (play_of lent s es).answer s
  unfolding play_of
  play_none_done s [] h = refl
  play_none_done s (e ∷ es) h = let p = plain_step lent s e in go (is_ok p.answer) p (play_of lent p.state es) h
    where
      go : (d : Bool) (p : Plain) (r : Ran) → (cond d (went p r) (stopped p.answer s)).events ≡ 0
          → cond d (went p r) (stopped p.answer s) ≡ stopped (cond d (went p r) (stopped p.answer s)).answer s
      go true p r h = absurd (omega (arith, h))
      go false p r h = refl

  played_none : (s : State) (es : List Event) → (played_of lent s es).events ≡ 0 → played_of lent s es ≡ stopped (played_of lent s es).answer s
  unfolding played_of
  played_none s es = let started = judge_controls_of lent.bundle s in go (is_ok started) started
    where
      go : (d : Bool) (a : Answer) → (cond d (play_of lent s es) (stopped a s)).events ≡ 0
          → cond d (play_of lent s es) (stopped a s) ≡ stopped (cond d (play_of lent s es) (stopped a s)).answer s
      go true a h = play_none_done s es h
      go false a h = refl

-- ---- the run

module _ (lent : Lent) (block script output : List ℕ) where
  abbrev judged : Answer
  judged = judge_run_of lent block script (length output)

  abbrev start : State
  start = fields_of block

  abbrev started : Answer
  started = judge_controls_of lent.bundle start

  abbrev events : List Event
  events = events_of script

  abbrev ran : Run
  ran = run_of lent block script output

  abbrev played : Ran
  played = played_of lent start events

  run_left : judged ≡ done → ran ≡ left_of played output
  unfolding run_of
  run_left h = rw h refl

  -- Where nothing is refused the run is done, with every event of the script and a sample for each sample event.
  pub not_turned_back : judged ≡ done → started ≡ done → AllDone (plain_trace lent start events)
      → (ran.answer ≡ done) × (ran.events ≡ length events) × (ran.samples ≡ samples_of events)
  unfolding played_of
  not_turned_back h c all =
      let done = play_all lent start events all in
      let n = play_counts lent start events done in
      rw (run_left h, c) (done, n.0, n.1)

  -- Event 0 is done unless the start, the controls or event 0 itself is refused, and a run that does none has that answer.
  pub no_stop_before_event_0 : Event0 (first_of judged (first_of started (first_answer lent start events))) events ran.answer ran.events
  unfolding run_of
  no_stop_before_event_0 = go judged refl
    where
      go : (a : Answer) → judged ≡ a → Event0 (first_of judged (first_of started (first_answer lent start events))) events ran.answer ran.events
      go (Ok _) h = rw h (played_first lent start events)
      go (Err refusal) h = rw h (first_refused (Err refusal) events refl)

  -- The output's bytes past the written samples are the old ones, and no byte is added or lost.
  pub tail_kept : (drop (16 * ran.samples) ran.output ≡ drop (16 * ran.samples) output) × (length ran.output ≡ length output)
  unfolding run_of
  tail_kept = go (is_ok judged) refl
    where
      go : (d : Bool) → is_ok judged ≡ d → (drop (16 * ran.samples) ran.output ≡ drop (16 * ran.samples) output) × (length ran.output ≡ length output)
      go true h =
          let is = done_is judged h in
          let os = played.samples in
          let tail = drop (16 * length os) output in
          let n = length_outputs os in
          let room = roomy lent block script (length output) is in
          let few = played_samples lent start events in
          let among = samples_append (take played.events events) (drop played.events events) in
          let split = ap samples_of (take-append-drop played.events events) in
          let l = length-append (sample_bytes os) tail in
          let m = length-drop (16 * length os) output in
          rw (run_left is) (drop_at (sample_bytes os) tail (16 * length os) n, omega arith)
      go false h = rw h (refl, refl)

  -- The block that a run leaves holds the plain machine's state after exactly the events done, of which none was refused.
  pub state_before_the_refused : judged ≡ done
      → ((play_of lent start (take ran.events events)).answer ≡ done)
      × ((play_of lent start (take ran.events events)).events ≡ ran.events)
      × (ran.state ≡ block_of (play_of lent start (take ran.events events)).state)
  state_before_the_refused h = rw (run_left h, played_done lent start events) (refl, refl, refl)

  -- Of the events done none was refused, and the run's answer is that of the event after them, if there is one: it does not go on after a refusal.
  pub stops_at_the_refused : judged ≡ done → started ≡ done
      → AllDone (plain_trace lent start (take ran.events events))
      × (ran.answer ≡ first_answer lent (play_of lent start (take ran.events events)).state (drop ran.events events))
  unfolding played_of
  stops_at_the_refused h c =
      let r = play_of lent start events in
      let done = play_done lent start events in
      rw (run_left h, c) (
        play_none lent start (take r.events events) (ap (λ (t : Ran). t.answer) done),
        rw done (sym (play_stops lent start events)),
      )

  -- 10 comes before 7 and 8.
  pub block_before_script : judge_lent_of lent ≡ done → judge_block_of block ≡ Err Argument → ran.answer ≡ Err Argument
  unfolding run_of judge_run_of
  block_before_script l b = rw (l, b) refl

  -- A run that has done no event leaves every byte: it was turned back, its controls or its first event were refused, or its script has none.
  pub nothing_done : Bytes block → ran.events ≡ 0 → (ran.state ≡ block) × (ran.output ≡ output)
  unfolding run_of sample_bytes
  nothing_done bytes none = go (is_ok judged) refl none
    where
      go : (d : Bool) → is_ok judged ≡ d → ran.events ≡ 0 → (ran.state ≡ block) × (ran.output ≡ output)
      go true h none =
          let is = done_is judged h in
          let n : played.events ≡ 0 = ap (λ (r : Run). r.events) (sym (run_left is)) ∙ none in
          rw (run_left is, played_none lent start events n) (block_stands lent block script (length output) is bytes, refl)
      go false h none = rw h (refl, refl)
