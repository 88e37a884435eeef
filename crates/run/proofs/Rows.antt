-- Samples in a row, one by one: what the loop has done, and what is left of it, is the whole row.
use Prim.Native.Nat.{ℕ, suc, ◌+◌, ◌*◌, ◌≤◌, ◌<◌}
use native.Mathlib.Omega.{arith}
use native.Mathlib.Nat.{add-zero}
use mathlib.Core.Path.{◌≡◌, refl, sym, ap, subst, ◌∙◌}
use mathlib.Core.Bool.{Bool, true, false, cond, true≢false}
use mathlib.Core.List.{List, [], ◌∷◌}
use lib.ListN.{length}
use Rattle.wire.specs.Wire.{put_at}
use Rattle.wire.proofs.Laws.{length-put_at, put_at_nil, put_at-join}
use Rattle.integrator.specs.declared.IntegratorState.{IntegratorState}
use Rattle.mixing.specs.declared.MixingTopology.{MixingTopology}
use Rattle.controls.specs.declared.ControlCache.{ControlCache}
use Rattle.sample.specs.declared.Outputs.{Outputs}
use Rattle.sample.specs.declared.Sampled.{Sampled}
use Rattle.sample.specs.Sample.{summer_slot_of, filter_sample_of}
use Rattle.sample.specs.Parts.{cache_of, rest_of, sample_from_parts_of}
use Rattle.sample.proofs.Parts.{parts_are_sample}
use Rattle.constants.specs.Drives.{input_drives_of, feedback_drives_of}
use Rattle.run.specs.declared.Parts.{Parts}
use Rattle.control.specs.declared.State.{State}
use Rattle.run.specs.Parts.{parts_of, cache_of_parts}
use lib.Ieee.{Float}
use Rattle.script.specs.declared.Event.{Event}
use Rattle.script.specs.declared.Event.TheVariants.{CutoffLow, CutoffHigh, Routing, Mode, Sample, Reset}
use Rattle.script.specs.Script.{event_at, all_readable, events_in, sample_count_of, samples_of}
use Rattle.script.proofs.Laws.{slices_from, all_next, events_next, all_stop, events_end}
use Rattle.run.specs.declared.Row.{Row}
use Rattle.run.specs.Run.{output_bytes, sample_bytes}
use Rattle.run.specs.Rows.{Asked, Samples, asked_of, sample_first, no_samples, one_more, row_on, row_of, row_end}
use Rattle.run.proofs.Bytes.{length_outputs, length_output}
use Rattle.answers.specs.Answers.{Answer, done}
use Rattle.std.specs.Prelude.{Result, Ok, Err, Some, None}
use Rattle.answers.specs.declared.Refusal.{Refusal}

-- ---- a sample on the parts

rest_is : (bundle : List ℕ) (s : State) {k : Parts} → k ≡ parts_of bundle s → k.rest ≡ rest_of bundle k.topology
unfolding parts_of
rest_is bundle s is = rw is refl

pub parts_sample :
    (bundle curves : List ℕ) (s : State) {k : Parts} → k ≡ parts_of bundle s → (mode : ℕ)
    → {drives feedback : List Float} → drives ≡ input_drives_of → feedback ≡ feedback_drives_of → {slot : ℕ} → slot ≡ summer_slot_of k.topology
    → (i : IntegratorState) (sum energy : Float)
    → sample_from_parts_of curves slot k.topology (cache_of k.gains drives feedback k.core k.mode_output_gain) k.rest mode i sum energy
    ≡ filter_sample_of bundle curves (summer_slot_of k.topology) k.topology (cache_of_parts k) mode i sum energy
parts_sample bundle curves s {k} is mode hi hf hs i sum energy =
    rw (hi, hf, hs, rest_is bundle s is) (parts_are_sample bundle curves (summer_slot_of k.topology) k.topology (cache_of_parts k) mode i sum energy)

-- ---- the samples among events

asked_one : (e : Event) → (asked_of e).sample ≡ true → sample_count_of e ≡ 1
asked_one (CutoffLow v) h = absurd (true≢false (sym h))
asked_one (CutoffHigh v) h = absurd (true≢false (sym h))
asked_one (Routing v) h = absurd (true≢false (sym h))
asked_one (Mode v) h = absurd (true≢false (sym h))
asked_one (Sample sum energy) h = refl
asked_one Reset h = absurd (true≢false (sym h))

-- an event that is no sample
pub not_sample : (e : Event) → ((sum energy : Float) → e ≡ Sample sum energy → ⊥) → (asked_of e).sample ≡ false
not_sample (CutoffLow v) h = refl
not_sample (CutoffHigh v) h = refl
not_sample (Routing v) h = refl
not_sample (Mode v) h = refl
not_sample (Sample sum energy) h = absurd (h sum energy refl)
not_sample Reset h = refl

module _ (bundle curves : List ℕ) (t : MixingTopology) (c : ControlCache) (mode : ℕ) where
  abbrev row : IntegratorState → List Event → Samples
  row i es = row_of bundle curves t c mode i es

  -- one sample at the front
  module _ (i : IntegratorState) (e : Event) (es : List Event) where
    abbrev sampled : Result Sampled Refusal
    sampled = filter_sample_of bundle curves (summer_slot_of t) t c mode i (asked_of e).input_sum (asked_of e).source_energy

    row_taken : (asked_of e).sample ≡ true → (o : Outputs) (j : IntegratorState) → sampled ≡ Ok (record { outputs = o; state = j }) → row i (e ∷ es) ≡ one_more o (row j es)
    unfolding row_of
    row_taken a o j h = rw (a, h) refl

    row_refused : (asked_of e).sample ≡ true → (refusal : Refusal) → sampled ≡ Err refusal → row i (e ∷ es) ≡ no_samples (Err refusal) i
    unfolding row_of
    row_refused a refusal h = rw (a, h) refl

    row_other : (asked_of e).sample ≡ false → row i (e ∷ es) ≡ no_samples done i
    unfolding row_of
    row_other a = rw a refl

  row_none : (i : IntegratorState) (es : List Event) → sample_first es ≡ false → row i es ≡ no_samples done i
  unfolding row_of
  row_none i [] h = refl
  row_none i (e ∷ es) h = rw h refl

  pub outputs_few : (i : IntegratorState) (es : List Event) → length (row i es).outputs ≤ samples_of es
  unfolding row_of samples_of
  outputs_few i [] = omega arith
  outputs_few i (e ∷ es) = go (asked_of e).sample refl (sampled i e es) (λ (j : IntegratorState). outputs_few j es)
    where
      go : (a : Bool) → (asked_of e).sample ≡ a → (x : Result Sampled Refusal) → ((j : IntegratorState) → length (row_of bundle curves t c mode j es).outputs ≤ samples_of es)
          → length (cond a (row_on (λ j. row_of bundle curves t c mode j es) i x) (no_samples done i)).outputs ≤ sample_count_of e + samples_of es
      go true h (Ok t) later = omega (arith, later t.state, asked_one e h)
      go true h (Err answer) later = omega arith
      go false h x later = omega arith

  module _ (script : List ℕ) (count start before : ℕ) (out₀ : List ℕ) (from : IntegratorState) where
    abbrev left : ℕ → List Event
    left i = events_in (slices_from script count i)

    -- the loop before event i: what is left of the row, put after what is done, is the whole row
    pub record Sofar (out : List ℕ) (j : IntegratorState) (samples i : ℕ) : Type 0 where
      pub within : i ≤ count
      pub few : samples ≤ i
      pub readable : all_readable (slices_from script count i) ≡ true
      pub long : length out ≡ length out₀
      pub room : 16 * (samples + samples_of (left i)) ≤ length out
      pub ends : row_end i samples (row j (left i)) ≡ row_end start before (row from (left start))
      pub puts : put_at out (16 * samples) (sample_bytes (row j (left i)).outputs) ≡ put_at out₀ (16 * before) (sample_bytes (row from (left start)).outputs)

    pub sofar_start : start ≤ count → before ≤ start → all_readable (slices_from script count start) ≡ true → 16 * (before + samples_of (left start)) ≤ length out₀ → Sofar out₀ from before start
    sofar_start w f r m = record { within = w; few = f; readable = r; long = refl; room = m; ends = refl; puts = refl }

    module _ (out : List ℕ) (j : IntegratorState) (samples i : ℕ) (far : Sofar out j samples i) where
      -- nothing is left of it
      stops : (answer : Answer) → row j (left i) ≡ no_samples answer j
          → (◌≡◌ {A = Row} (record { answer = answer; events = i; samples = samples; integrator = j }) (row_end start before (row from (left start))))
          × (out ≡ put_at out₀ (16 * before) (sample_bytes (row from (left start)).outputs))
      unfolding sample_bytes
      stops answer h = (
        sym (ap (row_end i samples) h ∙ rw (add-zero i, add-zero samples) refl) ∙ far.ends,
        sym (ap (λ (r : Samples). put_at out (16 * samples) (sample_bytes r.outputs)) h ∙ put_at_nil out (16 * samples)) ∙ far.puts,
      )

      pub at_end : count ≤ i
          → (◌≡◌ {A = Row} (record { answer = done; events = count; samples = samples; integrator = j }) (row_end start before (row from (left start))))
          × (out ≡ put_at out₀ (16 * before) (sample_bytes (row from (left start)).outputs))
      unfolding row_of
      at_end h =
          let within = far.within in
          let last : i ≡ count = omega arith in
          let told = stops done (ap (row j) (events_end script count i h)) in
          (subst (λ (n : ℕ). ◌≡◌ {A = Row} (record { answer = done; events = n; samples = samples; integrator = j }) (row_end start before (row from (left start)))) last told.0, told.1)

      -- no sample is next
      pub none_next : sample_first (left i) ≡ false
          → (◌≡◌ {A = Row} (record { answer = done; events = i; samples = samples; integrator = j }) (row_end start before (row from (left start))))
          × (out ≡ put_at out₀ (16 * before) (sample_bytes (row from (left start)).outputs))
      none_next h = stops done (row_none j (left i) h)

      module _ (more : i < count) where
        pub unreadable : event_at script (8 + 12 * i) ≡ None → ⊥
        unreadable h = true≢false (sym far.readable ∙ all_stop script count i more h)

        module _ (e : Event) (is : event_at script (8 + 12 * i) ≡ Some e) {ask : Asked} (asks : ask ≡ asked_of e) where
          -- as the code has it, by what was asked
          abbrev taken : Result Sampled Refusal
          taken = filter_sample_of bundle curves (summer_slot_of t) t c mode j ask.input_sum ask.source_energy

          sample_is : (x : Result Sampled Refusal) → taken ≡ x → sampled j e [] ≡ x
          sample_is x h = ap (λ (a : Asked). filter_sample_of bundle curves (summer_slot_of t) t c mode j a.input_sum a.source_energy) (sym asks) ∙ h

          asked_is : (b : Bool) → ask.sample ≡ b → (asked_of e).sample ≡ b
          asked_is b h = ap (λ (a : Asked). a.sample) (sym asks) ∙ h

          next : left i ≡ e ∷ left (i + 1)
          next = events_next script count i more e is

          pub other : ask.sample ≡ false
              → (◌≡◌ {A = Row} (record { answer = done; events = i; samples = samples; integrator = j }) (row_end start before (row from (left start))))
              × (out ≡ put_at out₀ (16 * before) (sample_bytes (row from (left start)).outputs))
          other a = stops done (ap (row j) next ∙ row_other j e (left (i + 1)) (asked_is false a))

          pub refused : ask.sample ≡ true → (refusal : Refusal) {x : Result Sampled Refusal} → x ≡ taken → x ≡ Err refusal
              → (◌≡◌ {A = Row} (record { answer = Err refusal; events = i; samples = samples; integrator = j }) (row_end start before (row from (left start))))
              × (out ≡ put_at out₀ (16 * before) (sample_bytes (row from (left start)).outputs))
          refused a refusal p h = stops (Err refusal) (ap (row j) next ∙ row_refused j e (left (i + 1)) (asked_is true a) refusal (sample_is (Err refusal) (sym p ∙ h)))

          pub turned : ask.sample ≡ true → (o : Outputs) (k : IntegratorState) {x : Result Sampled Refusal} → x ≡ taken → x ≡ Ok (record { outputs = o; state = k }) → Sofar (put_at out (16 * samples) (output_bytes o)) k (samples + 1) (i + 1)
          unfolding samples_of sample_bytes
          turned wanted o k p₀ h₀ =
              let a = asked_is true wanted in
              let h = sample_is (Ok (record { outputs = o; state = k })) (sym p₀ ∙ h₀) in
              let later = row k (left (i + 1)) in
              let whole : row j (left i) ≡ one_more o later = ap (row j) next ∙ row_taken j e (left (i + 1)) a o k h in
              let one = asked_one e a in
              let asks : samples_of (left i) ≡ sample_count_of e + samples_of (left (i + 1)) = ap samples_of next in
              let room = far.room in
              let few = far.few in
              let l = length-put_at out (16 * samples) (output_bytes o) in
              let n = length_outputs later.outputs in
              let m = outputs_few k (left (i + 1)) in
              let p : 16 * samples + length (output_bytes o) ≡ 16 * (samples + 1) = omega (arith, length_output o) in
              let events : i + 1 + later.events ≡ i + suc later.events = omega arith in
              let written : samples + 1 + length later.outputs ≡ samples + suc (length later.outputs) = omega arith in
              record {
                within = omega arith;
                few = omega arith;
                readable = sym (all_next script count i more e is) ∙ far.readable;
                long = l ∙ far.long;
                room = omega arith;
                ends = rw (events, written) (sym (ap (row_end i samples) whole) ∙ far.ends);
                puts =
                    put_at-join out (16 * samples) (output_bytes o) (sample_bytes later.outputs) (16 * (samples + 1)) p (omega arith)
                    ∙ sym (ap (λ (r : Samples). put_at out (16 * samples) (sample_bytes r.outputs)) whole)
                    ∙ far.puts;
              }
