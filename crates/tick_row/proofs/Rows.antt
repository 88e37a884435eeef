-- The loop over ticks: what it has done, and what is left, is the whole row. Assumes nothing.
use Prim.Native.Nat.{ℕ, zero, suc, ◌+◌, ◌-◌, ◌*◌, ◌≤◌, ◌<◌}
use native.Mathlib.Omega.{arith}
use native.Mathlib.Nat.{add-zero, div-mul-le_self}
use mathlib.Core.Path.{◌≡◌, refl, sym, ap, ◌∙◌}
use mathlib.Core.List.{List, [], ◌∷◌}
use lib.ListN.{length, take, drop, length-append}
use lib.Seq.{drop-drop}
use lib.Ieee.{binary32, to_bits}
use Rattle.wire.specs.Wire.{put_at, row_bytes}
use Rattle.wire.proofs.Laws.{length-bytes_of, length-put_at, put_at_nil, put_at-join}
use Rattle.integrator.specs.declared.IntegratorState.{IntegratorState}
use Rattle.transients.specs.declared.TransientState.{TransientState}
use Rattle.controls.specs.declared.ControlCache.{ControlCache}
use Rattle.clock.specs.declared.Settings.{Settings}
use Rattle.clock.specs.declared.TickOutputs.{TickOutputs}
use Rattle.clock.specs.declared.Ticked.{Ticked}
use Rattle.clock.specs.Clock.{tick_bytes}
use Rattle.tick_row.specs.declared.TickRow.{TickRow}
use Rattle.tick_row.specs.TickRow.{voice_slices, tick_count_of, Ticks, no_ticks, one_tick, ticks_on, voiced_tick_of, ticks_of, ticks_end, all_tick_bytes}
use Rattle.answers.specs.Answers.{Answer, done}
use Rattle.std.specs.Prelude.{Err, Result, Float, Ok}
use Rattle.answers.specs.declared.Refusal.{Refusal}

-- ---- the bytes

length_row : (a b c d : ℕ) → length (row_bytes a b c d) ≡ 16
length_row a b c d = simp (length-append, length-bytes_of)

pub length_tick : (o : TickOutputs) → length (tick_bytes o) ≡ 16
length_tick o = length_row (to_bits binary32 o.stage) (to_bits binary32 o.charge) (to_bits binary32 o.mixer) (to_bits binary32 o.filter)

length_ticks : (os : List TickOutputs) → length (all_tick_bytes os) ≡ 16 * length os
unfolding all_tick_bytes
length_ticks [] = refl
length_ticks (o ∷ os) = omega (arith, length-append (tick_bytes o) (all_tick_bytes os), length_tick o, length_ticks os)

-- ---- the count

pub count_room : (voices room : ℕ) → 16 * tick_count_of voices room ≤ room
count_room voices room = omega (arith, div-mul-le_self room 16)

-- ---- the row

module _ (curves : List ℕ) (c : ControlCache) (rest : Result Float Refusal) (s : Settings) where
  abbrev ticks : IntegratorState → TransientState → List (List ℕ) → Ticks
  ticks i t vs = ticks_of curves c rest s i t vs

  outputs_few : (n : ℕ) (i : IntegratorState) (t : TransientState) (b : List ℕ) → length (ticks i t (voice_slices n b)).outputs ≤ n
  unfolding ticks_of voice_slices
  outputs_few zero i t b = omega arith
  outputs_few (suc n) i t b = go (voiced_tick_of curves c rest s i t (take 36 b)) (λ (j : IntegratorState) (u : TransientState). outputs_few n j u (drop 36 b))
    where
      go : (x : Result Ticked Refusal) → ((j : IntegratorState) (u : TransientState) → length (ticks_of curves c rest s j u (voice_slices n (drop 36 b))).outputs ≤ n)
          → length (ticks_on (λ j u. ticks_of curves c rest s j u (voice_slices n (drop 36 b))) i t x).outputs ≤ suc n
      go (Ok x) later = omega (arith, later x.integrator x.transients)
      go (Err refusal) later = omega arith

  module _ (voices : List ℕ) (count : ℕ) (out₀ : List ℕ) (from : IntegratorState) (held : TransientState) where
    -- what is left before tick k
    abbrev left : ℕ → List (List ℕ)
    left k = voice_slices (count - k) (drop (36 * k) voices)

    abbrev whole : Ticks
    whole = ticks from held (voice_slices count voices)

    pub record Sofar (out : List ℕ) (j : IntegratorState) (u : TransientState) (k : ℕ) : Type 0 where
      pub within : k ≤ count
      pub long : length out ≡ length out₀
      pub room : 16 * count ≤ length out
      pub ends : ticks_end k (ticks j u (left k)) ≡ ticks_end 0 whole
      pub puts : put_at out (16 * k) (all_tick_bytes (ticks j u (left k)).outputs) ≡ put_at out₀ 0 (all_tick_bytes whole.outputs)

    pub sofar_start : 16 * count ≤ length out₀ → Sofar out₀ from held 0
    sofar_start m = let z : count - 0 ≡ count = omega arith in record { within = omega arith; long = refl; room = m; ends = rw z refl; puts = rw z refl }

    module _ (out : List ℕ) (j : IntegratorState) (u : TransientState) (k : ℕ) (far : Sofar out j u k) where
      -- nothing is left of it
      stops : (answer : Answer) → ticks j u (left k) ≡ no_ticks answer j u
          → (◌≡◌ {A = TickRow} (record { answer = answer; ticks = k; integrator = j; transients = u }) (ticks_end 0 whole)) × (out ≡ put_at out₀ 0 (all_tick_bytes whole.outputs))
      unfolding all_tick_bytes
      stops answer h = (
        sym (ap (ticks_end k) h ∙ rw (add-zero k) refl) ∙ far.ends,
        sym (ap (λ (r : Ticks). put_at out (16 * k) (all_tick_bytes r.outputs)) h ∙ put_at_nil out (16 * k)) ∙ far.puts,
      )

      pub row_end : count ≤ k
          → (◌≡◌ {A = TickRow} (record { answer = done; ticks = count; integrator = j; transients = u }) (ticks_end 0 whole)) × (out ≡ put_at out₀ 0 (all_tick_bytes whole.outputs))
      unfolding ticks_of voice_slices
      row_end h =
          let within = far.within in
          let e : k ≡ count = omega arith in
          let z : count - k ≡ 0 = omega arith in
          let told = stops done (rw z refl) in
          (rw e at told.0, told.1)

      module _ (more : k < count) {part : List ℕ} (part_is : part ≡ take 36 (drop (36 * k) voices)) {x : Result Ticked Refusal} (x_is : x ≡ voiced_tick_of curves c rest s j u part) where
        next : left k ≡ part ∷ left (k + 1)
        unfolding voice_slices
        next =
            let m : count - k ≡ suc (count - (k + 1)) = omega arith in
            let p : 36 * k + 36 ≡ 36 * (k + 1) = omega arith in
            rw (m, drop-drop 36 (36 * k) voices, p, part_is) refl

        row_is : ticks j u (left k) ≡ ticks_on (λ i t. ticks i t (left (k + 1))) j u x
        unfolding ticks_of
        row_is = ap (ticks j u) next ∙ rw x_is refl

        pub row_refused : (refusal : Refusal) → x ≡ Err refusal
            → (◌≡◌ {A = TickRow} (record { answer = Err refusal; ticks = k; integrator = j; transients = u }) (ticks_end 0 whole)) × (out ≡ put_at out₀ 0 (all_tick_bytes whole.outputs))
        row_refused refusal h = stops (Err refusal) (row_is ∙ rw h refl)

        pub row_taken : (y : Ticked) → x ≡ Ok y → Sofar (put_at out (16 * k) (tick_bytes y.outputs)) y.integrator y.transients (k + 1)
        unfolding all_tick_bytes
        row_taken y h =
            let o = y.outputs in
            let later = ticks y.integrator y.transients (left (k + 1)) in
            let all : ticks j u (left k) ≡ one_tick o later = row_is ∙ rw h refl in
            let room = far.room in
            let l = length-put_at out (16 * k) (tick_bytes o) in
            let n = length_ticks later.outputs in
            let m = outputs_few (count - (k + 1)) y.integrator y.transients (drop (36 * (k + 1)) voices) in
            let p : 16 * k + length (tick_bytes o) ≡ 16 * (k + 1) = omega (arith, length_tick o) in
            let done : k + 1 + length later.outputs ≡ k + suc (length later.outputs) = omega arith in
            record {
              within = omega arith;
              long = l ∙ far.long;
              room = omega arith;
              ends = rw done (sym (ap (ticks_end k) all) ∙ far.ends);
              puts =
                  put_at-join out (16 * k) (tick_bytes o) (all_tick_bytes later.outputs) (16 * (k + 1)) p (omega arith)
                  ∙ sym (ap (λ (r : Ticks). put_at out (16 * k) (all_tick_bytes r.outputs)) all)
                  ∙ far.puts;
            }
