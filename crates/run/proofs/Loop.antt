-- The events of a script, as the loop takes them: other events in a row, then samples in a row. What it has done, and what is left, is the whole run.
use Prim.Native.Nat.{ℕ, zero, suc, ◌+◌, ◌-◌, ◌*◌, ◌≤◌, ◌<◌}
use native.Mathlib.Omega.{arith}
use native.Mathlib.Nat.{zero-add, add-zero}
use mathlib.Core.Path.{◌≡◌, refl, sym, ap, ◌∙◌, subst}
use mathlib.Core.Bool.{Bool, true, false, not, cond, true≢false}
use mathlib.Core.List.{List, [], ◌∷◌, ◌++◌}
use lib.ListN.{length, drop, length-append}
use lib.Ieee.{Float}
use Rattle.wire.specs.Wire.{put_at}
use Rattle.wire.proofs.Laws.{length-put_at, put_at_nil, put_at-join}
use Rattle.integrator.specs.declared.IntegratorState.{IntegratorState}
use Rattle.mixing.specs.declared.MixingTopology.{MixingTopology}
use Rattle.mixing.specs.Topology.{filter_count_of}
use Rattle.mixing.proofs.Facts.{filter_counted}
use Rattle.control.specs.declared.State.{State}
use Rattle.control.specs.Registers.{starting_state, write_cutoff_low_of, write_cutoff_high_of, write_signal_routing_of, write_mode_and_volume_of}
use Rattle.control.specs.Block.{valid_of}
use Rattle.control.proofs.Valid.{valid_ranges}
use Rattle.controls.specs.declared.ControlCache.{ControlCache}
use Rattle.controls.specs.Controls.{refresh_filter_controls_of, controls_of}
use Rattle.refresh.specs.Refresh.{state_gain_of}
use Rattle.refresh.proofs.Parts.{state_gain}
use Rattle.sample.specs.declared.Outputs.{Outputs}
use Rattle.sample.specs.declared.Sampled.{Sampled}
use Rattle.sample.specs.Sample.{summer_slot_of, filter_sample_of}
use Rattle.sample.specs.Parts.{rest_of}
use Rattle.sample.proofs.Parts.{parts_are_sample}
use Rattle.script.specs.declared.Event.{Event}
use Rattle.script.specs.declared.Event.TheVariants.{CutoffLow, CutoffHigh, Routing, Mode, Sample, Reset}
use Rattle.script.specs.Script.{event_at, all_readable, events_in, sample_count_of, samples_of}
use Rattle.script.proofs.Laws.{slices_from, all_next, events_next, all_stop, events_end}
use Rattle.script.proofs.Cut.{length_slices, length_events}
use Rattle.filter.specs.Lent.{Lent}
use Rattle.filter.specs.Core.{fresh_topology_of, with_integrator}
use Rattle.filter.specs.Plain.{Plain, refused_at, judge_change_of, plain_change, plain_taken, judge_plain, plain_sampled, plain_sample, plain_step}
use Rattle.filter.proofs.Demand3.{sample_plain}
use Rattle.run.specs.declared.Row.{Row}
use Rattle.run.specs.declared.Moved.{Moved}
use Rattle.run.specs.declared.Resting.{Resting}
use Rattle.run.specs.declared.Played.{Played}
use Rattle.run.specs.Run.{Ran, stopped, went, play_of, sample_bytes}
use Rattle.run.specs.Rows.{Asked, Samples, Moves, asked_of, no_samples, one_more, row_on, row_of, moves_of, row_end, play_end}
use Rattle.run.specs.Parts.{parts_of, cache_of_parts, samples_from, moves_end, resting_of}
use Rattle.run.proofs.Bytes.{length_outputs, outputs_append}
use Rattle.run.proofs.Changes.{resonance_small}
use Rattle.run.proofs.Good.{Good, good_step}
use Rattle.run.proofs.Moves.{MovesLaw, moves_law, moves_some}
use Rattle.answers.specs.Answers.{Answer, done}
use Rattle.std.specs.Prelude.{is_ok, Result, Ok, Err, Option, Some, None}
use Rattle.answers.specs.declared.Refusal.{Refusal}

-- ---- the events left

module _ (script : List ℕ) (count : ℕ) where
  abbrev left : ℕ → List Event
  left i = events_in (slices_from script count i)

  pub later : (n i : ℕ) → i + n ≤ count → all_readable (slices_from script count i) ≡ true → (all_readable (slices_from script count (i + n)) ≡ true) × (drop n (left i) ≡ left (i + n))
  later zero i h r = rw (add-zero i) (r, refl)
  later (suc n) i h r = go (event_at script (8 + 12 * i)) refl (later n (i + 1))
    where
      more : i < count
      more = omega arith

      go : (d : Option Event) → event_at script (8 + 12 * i) ≡ d
          → (i + 1 + n ≤ count → all_readable (slices_from script count (i + 1)) ≡ true → (all_readable (slices_from script count (i + 1 + n)) ≡ true) × (drop n (left (i + 1)) ≡ left (i + 1 + n)))
          → (all_readable (slices_from script count (i + suc n)) ≡ true) × (drop (suc n) (left i) ≡ left (i + suc n))
      go (Some e) d on =
          let p = on (omega arith) (sym (all_next script count i more e d) ∙ r) in
          let k : i + 1 + n ≡ i + suc n = omega arith in
          rw (← k) (p.0, ap (drop (suc n)) (events_next script count i more e d) ∙ p.1)
      go None d on = absurd (true≢false (sym r ∙ all_stop script count i more d))

  pub length_left : (i : ℕ) → all_readable (slices_from script count i) ≡ true → length (left i) ≡ count - i
  length_left i r = length_events (slices_from script count i) r ∙ length_slices (count - i) (drop (8 + 12 * i) script)

-- ---- samples in a row are the plain machine's

module _ (lent : Lent) where
  abbrev play : State → List Event → Ran
  play s es = play_of lent s es

  -- on what is worked out from the state
  abbrev row_at : State → IntegratorState → List Event → Samples
  row_at s i es = row_of lent.bundle lent.curves (fresh_topology_of s) (controls_of lent.bundle s) s.registers.mode i es

  abbrev fresh_sample : State → Float → Float → Result Sampled Refusal
  fresh_sample s sum energy =
      let t = fresh_topology_of s in
      filter_sample_of lent.bundle lent.curves (summer_slot_of t) t (controls_of lent.bundle s) s.registers.mode s.integrator sum energy

  abbrev fresh_row : State → List Event → Samples
  fresh_row s es = row_at s s.integrator es

  abbrev resumed : State → Samples → State
  resumed s w = with_integrator s w.integrator

  -- the row, and then the rest if it was not refused
  abbrev row_then : State → Samples → Ran → Ran
  row_then s w r =
      cond (is_ok w.answer)
      (record { answer = r.answer; events = w.events + r.events; samples = w.outputs ++ r.samples; state = r.state })
      (record { answer = w.answer; events = w.events; samples = w.outputs; state = resumed s w })

  pub record RowLaw (s : State) (es : List Event) (w : Samples) : Type 0 where
    pub same : play s es ≡ row_then s w (play (resumed s w) (drop w.events es))
    pub good : Good lent (resumed s w)
    pub within : w.events ≤ length es
    pub equal : w.events ≡ length w.outputs
    pub rest : samples_of es ≡ length w.outputs + samples_of (drop w.events es)
    -- where it is not refused, no sample is next
    pub ends : (e : Event) (fs : List Event) → is_ok w.answer ≡ true → drop w.events es ≡ e ∷ fs → (asked_of e).sample ≡ false

  module _ (s : State) (good : Good lent s) where
    quiet_row : (es : List Event) → ((e : Event) (fs : List Event) → es ≡ e ∷ fs → (asked_of e).sample ≡ false) → RowLaw s es (no_samples done s.integrator)
    quiet_row es h =
        record {
          same = rw (zero-add (play s es).events) refl;
          good = good;
          within = omega arith;
          equal = refl;
          rest = sym (zero-add (samples_of es));
          ends = λ e fs d p. h e fs p;
        }

    refused_row : (e : Event) (es : List Event) (answer : Answer) → is_ok answer ≡ false → (plain_step lent s e).answer ≡ answer → RowLaw s (e ∷ es) (no_samples answer s.integrator)
    unfolding play_of
    refused_row e es answer off is =
        record {
          same = rw (is, off) refl;
          good = good;
          within = omega arith;
          equal = refl;
          rest = sym (zero-add (samples_of (e ∷ es)));
          ends = λ f fs d p. absurd (true≢false (sym d ∙ off));
        }

    taken_row : (sum energy : _) (es : List Event) (o : Outputs) (j : IntegratorState) → plain_step lent s (Sample sum energy) ≡ record { answer = done; sample = o ∷ []; state = with_integrator s j }
        → (w : Samples) → RowLaw (with_integrator s j) es w → RowLaw s (Sample sum energy ∷ es) (one_more o w)
    unfolding play_of samples_of
    taken_row sum energy es o j is w law =
        let within = law.within in
        record {
          same = rw (is) (ap (went (record { answer = done; sample = o ∷ []; state = with_integrator s j })) law.same ∙ on (is_ok w.answer) (play (resumed s w) (drop w.events es)));
          good = law.good;
          within = omega arith;
          equal = ap suc law.equal;
          rest = omega (arith, law.rest);
          ends = law.ends;
        }
      where
        on : (d : Bool) (r : Ran)
            → went (record { answer = done; sample = o ∷ []; state = with_integrator s j })
            (cond d (record { answer = r.answer; events = w.events + r.events; samples = w.outputs ++ r.samples; state = r.state })
            (record { answer = w.answer; events = w.events; samples = w.outputs; state = resumed s w }))
            ≡ cond d (record { answer = r.answer; events = suc w.events + r.events; samples = (o ∷ w.outputs) ++ r.samples; state = r.state })
            (record { answer = w.answer; events = suc w.events; samples = o ∷ w.outputs; state = resumed s w })
        on true r = let k : suc (w.events + r.events) ≡ suc w.events + r.events = omega arith in rw k refl
        on false r = refl

  -- the controls do not depend on the integrator
  moved : (s : State) (j : IntegratorState) (es : List Event) → RowLaw (with_integrator s j) es (fresh_row (with_integrator s j) es) → RowLaw (with_integrator s j) es (row_at s j es)
  unfolding controls_of
  moved s j es law = law

  pub row_law : (s : State) (es : List Event) → Good lent s → RowLaw s es (fresh_row s es)
  unfolding row_of
  row_law s [] good = quiet_row s good [] (λ e fs p. cc)
  row_law s (CutoffLow v ∷ es) good = quiet_row s good (CutoffLow v ∷ es) (λ e fs p. cc)
  row_law s (CutoffHigh v ∷ es) good = quiet_row s good (CutoffHigh v ∷ es) (λ e fs p. cc)
  row_law s (Routing v ∷ es) good = quiet_row s good (Routing v ∷ es) (λ e fs p. cc)
  row_law s (Mode v ∷ es) good = quiet_row s good (Mode v ∷ es) (λ e fs p. cc)
  row_law s (Reset ∷ es) good = quiet_row s good (Reset ∷ es) (λ e fs p. cc)
  row_law s (Sample sum energy ∷ es) good =
      go (fresh_sample s sum energy) refl (λ t. row_law t es)
    where
      plain : (x : Result Sampled Refusal) → fresh_sample s sum energy ≡ x → plain_step lent s (Sample sum energy) ≡ plain_taken s x
      plain x h = sym (sample_plain lent s good.valid good.judged sum energy) ∙ ap (plain_taken s) h

      go : (x : Result Sampled Refusal) → fresh_sample s sum energy ≡ x
          → ((t : State) → Good lent t → RowLaw t es (fresh_row t es))
          → RowLaw s (Sample sum energy ∷ es) (row_on (λ j. row_at s j es) s.integrator x)
      go (Ok t) h on =
          let j = t.state in
          let p = plain (Ok t) h in
          let g : Good lent (with_integrator s j) = subst (λ (x : Plain). Good lent x.state) p (good_step lent s (Sample sum energy) good) in
          taken_row s good sum energy es t.outputs j p (row_at s j es) (moved s j es (on (with_integrator s j) g))
      go (Err refusal) h on = refused_row s good (Sample sum energy) es (Err refusal) refl (ap (λ (x : Plain). x.answer) (plain (Err refusal) h))

-- ---- samples that an event gives

change_quiet : (lent : Lent) (s t : State) → (plain_change lent s t).sample ≡ []
change_quiet lent s t = go (is_ok (judge_change_of lent.bundle t))
  where
    go : (d : Bool) → ◌≡◌ {A = List Outputs} (cond d (record { answer = done; sample = []; state = t }) (refused_at s (judge_change_of lent.bundle t))).sample []
    go true = refl
    go false = refl

no_sample : (lent : Lent) (s : State) (e : Event) → (asked_of e).sample ≡ false → (plain_step lent s e).sample ≡ []
no_sample lent s (CutoffLow v) h = change_quiet lent s (write_cutoff_low_of s v)
no_sample lent s (CutoffHigh v) h = change_quiet lent s (write_cutoff_high_of s v)
no_sample lent s (Routing v) h = change_quiet lent s (write_signal_routing_of s v)
no_sample lent s (Mode v) h = change_quiet lent s (write_mode_and_volume_of s v)
no_sample lent s (Sample sum energy) h = absurd (true≢false h)
no_sample lent s Reset h = change_quiet lent s starting_state

sample_few : (s : State) (d : Bool) (x : Result Sampled Refusal) (a : Answer) → length (cond d (plain_taken s x) (refused_at s a)).sample ≤ 1
sample_few s true (Ok t) a = omega arith
sample_few s true (Err b) a = omega arith
sample_few s false x a = omega arith

step_few : (lent : Lent) (s : State) (e : Event) → length (plain_step lent s e).sample ≤ sample_count_of e
unfolding plain_sample
step_few lent s (Sample sum energy) =
    let judged = judge_plain lent s sum energy in
    sample_few s (is_ok judged) (plain_sampled lent s sum energy) judged
step_few lent s (CutoffLow v) = rw (no_sample lent s (CutoffLow v) refl) (omega arith)
step_few lent s (CutoffHigh v) = rw (no_sample lent s (CutoffHigh v) refl) (omega arith)
step_few lent s (Routing v) = rw (no_sample lent s (Routing v) refl) (omega arith)
step_few lent s (Mode v) = rw (no_sample lent s (Mode v) refl) (omega arith)
step_few lent s Reset = rw (no_sample lent s Reset refl) (omega arith)

pub played_few : (lent : Lent) (s : State) (es : List Event) → length (play_of lent s es).samples ≤ samples_of es
unfolding play_of samples_of
played_few lent s [] = omega arith
played_few lent s (e ∷ es) = go (is_ok (plain_step lent s e).answer) (played_few lent (plain_step lent s e).state es)
  where
    go : (d : Bool) → length (play_of lent (plain_step lent s e).state es).samples ≤ samples_of es
        → length (cond d (went (plain_step lent s e) (play_of lent (plain_step lent s e).state es)) (stopped (plain_step lent s e).answer s)).samples ≤ sample_count_of e + samples_of es
    go true h =
        let p = plain_step lent s e in
        let r = play_of lent p.state es in
        let l = length-append p.sample r.samples in
        let f = step_few lent s e in
        omega arith
    go false h = omega arith

-- ---- samples on the parts that they share

row_same_samples : (bundle curves : List ℕ) (t : MixingTopology) (c d : ControlCache) (mode : ℕ)
    →
    ((j : IntegratorState) (sum energy : Float) → filter_sample_of bundle curves (summer_slot_of t) t c mode j sum energy ≡ filter_sample_of bundle
    curves (summer_slot_of t) t d mode j sum energy)
    → (i : IntegratorState) (es : List Event) → row_of bundle curves t c mode i es ≡ row_of bundle curves t d mode i es
unfolding row_of
row_same_samples bundle curves t c d mode same i [] = refl
row_same_samples bundle curves t c d mode same i (e ∷ es) =
    let x = (asked_of e).input_sum in
    let y = (asked_of e).source_energy in
    ap (λ (z : Result Sampled Refusal). cond (asked_of e).sample (row_on (λ j. row_of bundle curves t c mode j es) i z) (no_samples done i)) (same i x y)
    ∙ ap (λ (z : Samples). cond (asked_of e).sample z (no_samples done i))
    (on (filter_sample_of bundle curves (summer_slot_of t) t d mode i x y) (λ j. row_same_samples bundle curves t c d mode same j es))
  where
    on : (z : Result Sampled Refusal) → ((j : IntegratorState) → row_of bundle curves t c mode j es ≡ row_of bundle curves t d mode j es)
        → row_on (λ j. row_of bundle curves t c mode j es) i z ≡ row_on (λ j. row_of bundle curves t d mode j es) i z
    on (Ok t) later = ap (one_more t.outputs) (later t.state)
    on (Err answer) later = refl

parts_sample : (lent : Lent) (s : State) → Good lent s → (j : IntegratorState) (sum energy : Float)
    → filter_sample_of lent.bundle lent.curves (summer_slot_of (fresh_topology_of s)) (fresh_topology_of s) (cache_of_parts (parts_of lent.bundle s)) s.registers.mode j sum energy
    ≡ filter_sample_of lent.bundle lent.curves (summer_slot_of (fresh_topology_of s)) (fresh_topology_of s) (controls_of lent.bundle s) s.registers.mode j sum energy
unfolding parts_of controls_of refresh_filter_controls_of
parts_sample lent s good j sum energy =
    sym (parts_are_sample lent.bundle lent.curves (summer_slot_of (fresh_topology_of s)) (fresh_topology_of s) (cache_of_parts (parts_of lent.bundle s)) s.registers.mode j sum energy)
    ∙ rw (state_gain lent.bundle s (resonance_small s good.valid) good.judged)
    (parts_are_sample lent.bundle lent.curves (summer_slot_of (fresh_topology_of s)) (fresh_topology_of s) (controls_of lent.bundle s) s.registers.mode j sum energy)

-- ---- the loop

module _ (lent : Lent) (script : List ℕ) (count : ℕ) (s₀ : State) (out₀ : List ℕ) where
  abbrev remaining : ℕ → List Event
  remaining i = events_in (slices_from script count i)

  abbrev whole : Ran
  whole = play_of lent s₀ (remaining 0)

  -- before event i: what is left of the run, put after what is done, is the whole run
  pub record Sofar (out : List ℕ) (s : State) (samples i : ℕ) : Type 0 where
    pub within : i ≤ count
    pub few : samples ≤ i
    pub readable : all_readable (slices_from script count i) ≡ true
    pub good : Good lent s
    pub long : length out ≡ length out₀
    pub room : 16 * (samples + samples_of (remaining i)) ≤ length out
    pub ends : play_end i samples (play_of lent s (remaining i)) ≡ play_end 0 0 whole
    pub puts : put_at out (16 * samples) (sample_bytes (play_of lent s (remaining i)).samples) ≡ put_at out₀ 0 (sample_bytes whole.samples)

  abbrev Finished : Answer → ℕ → ℕ → State → List ℕ → Type 0
  Finished answer i samples s out = (◌≡◌ {A = Played} (record { answer = answer; events = i; samples = samples; state = s }) (play_end 0 0 whole)) × (out ≡ put_at out₀ 0 (sample_bytes whole.samples))

  -- a run that ends here
  finishes : (answer : Answer) (i samples : ℕ) (s : State) (out : List ℕ) (r : Ran) → r ≡ stopped answer s → play_end i samples r ≡ play_end 0 0 whole
      → put_at out (16 * samples) (sample_bytes r.samples) ≡ put_at out₀ 0 (sample_bytes whole.samples) → Finished answer i samples s out
  unfolding sample_bytes
  finishes answer i samples s out r h ends puts = (
    sym (ap (play_end i samples) h ∙ rw (add-zero i, add-zero samples) refl) ∙ ends,
    sym (ap (λ (x : Ran). put_at out (16 * samples) (sample_bytes x.samples)) h ∙ put_at_nil out (16 * samples)) ∙ puts,
  )

  pub sofar_start : Good lent s₀ → all_readable (slices_from script count 0) ≡ true → 16 * samples_of (remaining 0) ≤ length out₀ → Sofar out₀ s₀ 0 0
  sofar_start g r m = record { within = omega arith; few = omega arith; readable = r; good = g; long = refl; room = omega arith; ends = refl; puts = refl }

  module _ (out : List ℕ) (s : State) (samples i : ℕ) (far : Sofar out s samples i) where
    pub at_end : count ≤ i → Finished done i samples s out
    unfolding play_of
    at_end h = finishes done i samples s out (play_of lent s (remaining i)) (ap (play_of lent s) (events_end script count i h)) far.ends far.puts

    -- the samples in a row from here
    abbrev row : Samples
    row = fresh_row lent s (remaining i)

    abbrev row_bytes : List ℕ
    row_bytes = sample_bytes row.outputs

    law : RowLaw lent s (remaining i) row
    law = row_law lent s (remaining i) far.good

    row_within : i + row.events ≤ count
    row_within =
        let w = law.within in
        let l = length_left script count i far.readable in
        let k = far.within in
        omega arith

    on : (all_readable (slices_from script count (i + row.events)) ≡ true) × (drop row.events (remaining i) ≡ remaining (i + row.events))
    on = later script count row.events i row_within far.readable

    module _ (d : is_ok row.answer ≡ true) where
      abbrev then : Ran
      then = play_of lent (with_integrator s row.integrator) (remaining (i + row.events))

      row_same : play_of lent s (remaining i) ≡ record { answer = then.answer; events = row.events + then.events; samples = row.outputs ++ then.samples; state = then.state }
      row_same = law.same ∙ ap (λ (es : List Event). row_then lent s row (play_of lent (with_integrator s row.integrator) es)) on.1 ∙ rw d refl

      pub row_done : Sofar (put_at out (16 * samples) row_bytes) (with_integrator s row.integrator) (samples + length row.outputs) (i + row.events)
      row_done =
          let n = length_outputs row.outputs in
          let m = length_outputs then.samples in
          let fewer = played_few lent (with_integrator s row.integrator) (remaining (i + row.events)) in
          let rest : samples_of (remaining i) ≡ length row.outputs + samples_of (remaining (i + row.events)) = law.rest ∙ ap (λ (es : List Event). length row.outputs + samples_of es) on.1 in
          let room = far.room in
          let few = far.few in
          let equal = law.equal in
          let put = length-put_at out (16 * samples) row_bytes in
          let joined = length-append row.outputs then.samples in
          let p : 16 * samples + length row_bytes ≡ 16 * (samples + length row.outputs) = omega arith in
          let events : i + (row.events + then.events) ≡ i + row.events + then.events = omega arith in
          let written : samples + length (row.outputs ++ then.samples) ≡ samples + length row.outputs + length then.samples = omega arith in
          record {
            within = row_within;
            few = omega arith;
            readable = on.0;
            good = law.good;
            long = put ∙ far.long;
            room = omega arith;
            ends = sym (ap (play_end i samples) row_same ∙ rw (events, written) refl) ∙ far.ends;
            puts =
                put_at-join out (16 * samples) row_bytes (sample_bytes then.samples) (16 * (samples + length row.outputs)) p (omega arith)
                ∙ ap (put_at out (16 * samples)) (sym (outputs_append row.outputs then.samples))
                ∙ sym (ap (λ (r : Ran). put_at out (16 * samples) (sample_bytes r.samples)) row_same)
                ∙ far.puts;
          }

      -- the next event is no sample
      pub row_next : (e : Event) → i + row.events < count → event_at script (8 + 12 * (i + row.events)) ≡ Some e → (asked_of e).sample ≡ false
      row_next e more is =
          law.ends e (remaining (i + row.events + 1)) d
          (on.1 ∙ events_next script count (i + row.events) more e is)

    pub row_stopped : is_ok row.answer ≡ false
        → Finished row.answer (i + row.events) (samples + length row.outputs) (with_integrator s row.integrator) (put_at out (16 * samples) row_bytes)
    row_stopped d =
        let is : play_of lent s (remaining i) ≡ record { answer = row.answer; events = row.events; samples = row.outputs; state = with_integrator s row.integrator } = law.same ∙ rw d refl in
        (sym (ap (play_end i samples) is) ∙ far.ends, sym (ap (λ (r : Ran). put_at out (16 * samples) (sample_bytes r.samples)) is) ∙ far.puts)

    -- the other events in a row from here
    abbrev moves : Moves
    moves = moves_of lent.bundle s (remaining i)

    moves_are : MovesLaw lent s (remaining i) moves
    moves_are = moves_law lent s (remaining i) far.good

    moves_within : i + moves.events ≤ count
    moves_within =
        let w = moves_are.within in
        let l = length_left script count i far.readable in
        let k = far.within in
        omega arith

    onward : (all_readable (slices_from script count (i + moves.events)) ≡ true) × (drop moves.events (remaining i) ≡ remaining (i + moves.events))
    onward = later script count moves.events i moves_within far.readable

    pub moves_done : is_ok moves.answer ≡ true → Sofar out moves.state samples (i + moves.events)
    moves_done d =
        let r = play_of lent moves.state (remaining (i + moves.events)) in
        let same : play_of lent s (remaining i) ≡ record { answer = r.answer; events = moves.events + r.events; samples = r.samples; state = r.state } = moves_are.same ∙ rw (d, onward.1) refl in
        let few = far.few in
        let room = far.room in
        let counts : samples_of (remaining i) ≡ samples_of (remaining (i + moves.events)) = moves_are.rest ∙ ap samples_of onward.1 in
        let events : i + (moves.events + r.events) ≡ i + moves.events + r.events = omega arith in
        record {
          within = moves_within;
          few = omega arith;
          readable = onward.0;
          good = moves_are.good;
          long = far.long;
          room = omega arith;
          ends = sym (ap (play_end i samples) same ∙ rw events refl) ∙ far.ends;
          puts = sym (ap (λ (x : Ran). put_at out (16 * samples) (sample_bytes x.samples)) same) ∙ far.puts;
        }

    pub moves_stopped : is_ok moves.answer ≡ false → Finished moves.answer (i + moves.events) samples moves.state out
    unfolding sample_bytes
    moves_stopped d =
        let is : play_of lent s (remaining i) ≡ record { answer = moves.answer; events = moves.events; samples = []; state = moves.state } = moves_are.same ∙ rw d refl in (
          sym (ap (play_end i samples) is ∙ rw (add-zero samples) refl) ∙ far.ends,
          sym (ap (λ (r : Ran). put_at out (16 * samples) (sample_bytes r.samples)) is ∙ put_at_nil out (16 * samples)) ∙ far.puts,
        )

    pub readable_here : i < count → event_at script (8 + 12 * i) ≡ None → ⊥
    readable_here more h = true≢false (sym far.readable ∙ all_stop script count i more h)

  -- ---- as the code has it

  module _ (out : List ℕ) (s : State) (samples i : ℕ) (far : Sofar out s samples i) where
    abbrev shared : Samples
    shared = samples_from lent.bundle lent.curves s script count i

    row_fresh : shared ≡ row out s samples i far
    unfolding parts_of
    row_fresh =
        row_same_samples lent.bundle lent.curves (fresh_topology_of s) (cache_of_parts (parts_of lent.bundle s)) (controls_of lent.bundle s) s.registers.mode
        (λ j sum energy. parts_sample lent s far.good j sum energy) s.integrator (remaining i)

    -- a row of samples
    module _ {r : Row} (is_row : r ≡ row_end i samples shared) {after : List ℕ} (is_after : after ≡ put_at out (16 * samples) (sample_bytes shared.outputs)) {d : Bool}
        (is_d : d ≡ is_ok r.answer) where
      abbrev w : Samples
      w = row out s samples i far

      r_is : r ≡ row_end i samples w
      r_is = is_row ∙ ap (row_end i samples) row_fresh

      after_is : after ≡ put_at out (16 * samples) (sample_bytes w.outputs)
      after_is = is_after ∙ ap (λ (x : Samples). put_at out (16 * samples) (sample_bytes x.outputs)) row_fresh

      d_is : (b : Bool) → d ≡ b → is_ok w.answer ≡ b
      d_is b h = ap (λ (x : Row). is_ok x.answer) (sym r_is) ∙ sym is_d ∙ h

      pub row_goes : d ≡ true → Sofar after (with_integrator s r.integrator) r.samples r.events
      row_goes h = rw (r_is, after_is) (row_done out s samples i far (d_is true h))

      pub row_stops : d ≡ false → Finished r.answer r.events r.samples (with_integrator s r.integrator) after
      row_stops h = rw (r_is, after_is) (row_stopped out s samples i far (d_is false h))

      -- it has one sample at least
      pub row_moves : i < count → (e : Event) → event_at script (8 + 12 * i) ≡ Some e → {ask : Asked} → ask ≡ asked_of e → ask.sample ≡ true → d ≡ true → i < r.events
      row_moves more e at asks wanted h = rw r_is (go w.events refl)
        where
          go : (n : ℕ) → w.events ≡ n → i < i + n
          go zero z =
              let here : drop w.events (remaining i) ≡ e ∷ remaining (i + 1) = ap (λ (n : ℕ). drop n (remaining i)) z ∙ events_next script count i more e at in
              absurd (true≢false (sym wanted ∙ ap (λ (a : Asked). a.sample) asks ∙ (law out s samples i far).ends e (remaining (i + 1)) (d_is true h) here))
          go (suc n) z = omega arith

    -- a row of other events
    module _ {m : Moved} (is_m : m ≡ moves_end lent.bundle i (moves_of lent.bundle s (remaining i))) {d : Bool} (is_d : d ≡ is_ok m.answer) where
      m_is : (b : Bool) → d ≡ b → is_ok (moves_of lent.bundle s (remaining i)).answer ≡ b
      m_is b h = ap (λ (x : Moved). is_ok x.answer) (sym is_m) ∙ sym is_d ∙ h

      pub moves_go : d ≡ true → Sofar out m.state samples m.events
      moves_go h = rw is_m (moves_done out s samples i far (m_is true h))

      pub moves_stop : d ≡ false → Finished m.answer m.events samples m.state out
      moves_stop h = rw is_m (moves_stopped out s samples i far (m_is false h))

      -- it has one event at least
      pub moves_move : i < count → (e : Event) → event_at script (8 + 12 * i) ≡ Some e → {ask : Asked} → ask ≡ asked_of e → ask.sample ≡ false → d ≡ true → i < m.events
      moves_move more e at asks other h =
          let next = events_next script count i more e at in
          let some = moves_some lent s e (remaining (i + 1)) (ap (λ (a : Asked). a.sample) (sym asks) ∙ other)
          (ap (λ (es : List Event). is_ok (moves_of lent.bundle s es).answer) (sym next) ∙ m_is true h) in
          let here = subst (λ (es : List Event). zero < (moves_of lent.bundle s es).events) (sym next) some in
          rw is_m (omega arith)

    pub unreadable : i < count → event_at script (8 + 12 * i) ≡ None → ⊥
    unreadable = readable_here out s samples i far

  -- ---- one turn: other events in a row, then samples in a row

  module _ (out : List ℕ) (s : State) (samples i : ℕ) (far : Sofar out s samples i) {m : Moved}
      (is_m : m ≡ moves_end lent.bundle i (moves_of lent.bundle s (remaining i))) where
    -- where the first row is empty, a sample comes
    first_empty : (e : Event) → (asked_of e).sample ≡ true → remaining i ≡ e ∷ remaining (i + 1) → m.events ≡ i
    unfolding moves_of
    first_empty e a next = rw (is_m, next, a) (add-zero i)

    -- the two rows are not both empty
    pub turn_moves : i < count → {d : Bool} → d ≡ is_ok m.answer → d ≡ true → (then : Sofar out m.state samples m.events)
        → {r : Row} → r ≡ row_end m.events samples (samples_from lent.bundle lent.curves m.state script count m.events) → {after : List ℕ}
        → after ≡ put_at out (16 * samples) (sample_bytes (samples_from lent.bundle lent.curves m.state script count m.events).outputs)
        → {f : Bool} → f ≡ is_ok r.answer → f ≡ true → i < r.events
    turn_moves more is_d d then {r} is_r is_after is_f f = go (event_at script (8 + 12 * i)) refl
      where
        onto : m.events ≤ r.events
        onto = rw is_r (omega arith)

        sampled : (e : Event) → event_at script (8 + 12 * i) ≡ Some e → (b : Bool) → (asked_of e).sample ≡ b → i < r.events
        sampled e at true a =
            let here : m.events ≡ i = first_empty e a (events_next script count i more e at) in
            let moves = row_moves out m.state samples m.events then is_r is_after is_f (rw here more) e (rw here at) refl a f in
            omega arith
        sampled e at false a = let moves = moves_move out s samples i far is_m is_d more e at refl a d in omega (arith, onto)

        go : (x : Option Event) → event_at script (8 + 12 * i) ≡ x → i < r.events
        go (Some e) at = sampled e at (asked_of e).sample refl
        go None at = absurd (unreadable out s samples i far more at)

  -- ---- what the loop keeps beside: the mode's gain, and the summer's rest at the count that it was worked out for

  pub record Turn (out : List ℕ) (resting : Resting) (s : State) (gain : Float) (samples i : ℕ) : Type 0 where
    pub far : Sofar out s samples i
    pub gained : gain ≡ (state_gain_of lent.bundle s)
    pub rested : resting ≡ resting_of lent.bundle resting.inputs

pub rest_told : (bundle : List ℕ) {n : ℕ} {r : Resting} → r ≡ resting_of bundle n → r ≡ resting_of bundle r.inputs
rest_told bundle {n} {r} h = h ∙ ap (resting_of bundle) (sym (ap (λ (x : Resting). x.inputs) h))

pub rest_stays : (bundle : List ℕ) (s : State) {old : Resting} {n : ℕ} → old ≡ resting_of bundle old.inputs → n ≡ filter_count_of s.registers.routing → n ≡ old.inputs
    → old ≡ resting_of bundle (fresh_topology_of s).filter_input_count
rest_stays bundle s told counted same = told ∙ ap (resting_of bundle) (sym same ∙ counted ∙ sym (filter_counted s.registers.routing s.registers.mode))

pub rest_here : (bundle : List ℕ) (s : State) {r : Resting} → r ≡ resting_of bundle (fresh_topology_of s).filter_input_count → r.rest ≡ rest_of bundle (fresh_topology_of s)
rest_here bundle s h = rw h refl

pub moves_gain : (bundle : List ℕ) (i : ℕ) (w : Moves) {m : Moved} → m ≡ moves_end bundle i w → m.gain ≡ (state_gain_of bundle m.state)
moves_gain bundle i w h = rw h refl
