-- Demand 3 over every song in pieces, and so over every way of cutting a script: the joined pieces are the plain machine's, and the uncut run's where there is one.
use Prim.Native.Nat.{ℕ, suc, ◌+◌, ◌*◌}
use native.Mathlib.Omega.{arith}
use native.Mathlib.Nat.{zero-add}
use mathlib.Core.Path.{◌≡◌, refl, sym, ap, ◌∙◌}
use mathlib.Core.Bool.{Bool, true, false, cond}
use mathlib.Core.List.{List, [], ◌∷◌, ◌++◌, append_assoc}
use lib.ListN.{length, drop, length-append}
use lib.Seq.{take_at}
use borrow.Author.Tests.{le-leb}
use Rattle.answers.specs.Answers.{first_of, Answer, done}
use Rattle.answers.proofs.Laws.{done_is, first_assoc, first_of_done, first_stops}
use Rattle.wire.specs.Wire.{Bytes}
use Rattle.transients.specs.Block.{judge_decays_of}
use Rattle.control.specs.declared.State.{State}
use Rattle.control.specs.Block.{valid_of, block_of, decode_of}
use Rattle.control.proofs.RoundTrip.{fields_block, decode_block, decoded, encode_decoded}
use Rattle.controls.specs.Judging.{judge_controls_of}
use Rattle.script.specs.declared.Event.{Event}
use Rattle.script.specs.Script.{events_of, samples_of}
use Rattle.filter.specs.Lent.{Lent, judge_lent_of}
use Rattle.filter.specs.Plain.{Plain, plain_start, plain_step}
use Rattle.run.specs.Run.{Ran, stopped, went, play_of, played_of, sample_bytes, judge_run_of, judge_script_of, left_of, run_of}
use Rattle.songs.specs.Pieces.{Piece, events_of_all, Ready, AllReady, Told, told, told_ran, join_told, pieces_of, plain_told}
use Rattle.run.proofs.Bytes.{length_outputs, outputs_append}
use Rattle.run.proofs.Good.{Good, good_play}
use Rattle.std.specs.Prelude.{is_ok, Some, None}

-- ---- one run after another

abbrev join : Ran → Ran → Ran
join r t = record { answer = t.answer; events = r.events + t.events; samples = r.samples ++ t.samples; state = t.state }

-- a run, and then, if it did not stop, the next from where it ended
abbrev and_then : Ran → (State → Ran) → Ran
and_then r f = cond (is_ok r.answer) (join r (f r.state)) r

join_stopped : (s : State) (t : Ran) → join (stopped done s) t ≡ t
join_stopped s t = simp (zero-add)

went_join : (p : Plain) (r t : Ran) → went p (join r t) ≡ join (went p r) t
went_join p r t = simp (append_assoc, add_suc r.events t.events)
  where
    add_suc : (a b : ℕ) → suc a + b ≡ suc (a + b)
    add_suc a b = omega arith

went_then : (p : Plain) (r : Ran) (f : State → Ran) → went p (and_then r f) ≡ and_then (went p r) f
went_then p r f = go (is_ok r.answer) refl
  where
    go : (d : Bool) → is_ok r.answer ≡ d → went p (cond d (join r (f r.state)) r) ≡ cond d (join (went p r) (f r.state)) (went p r)
    go true h = went_join p r (f r.state)
    go false h = refl

-- ---- the events, cut once

-- d is whether the event went
cut_event : (d : Bool) (p : Plain) (s : State) (r t : Ran) (f : State → Ran) → is_ok p.answer ≡ d → r ≡ and_then t f
    → cond d (went p r) (stopped p.answer s) ≡ and_then (cond d (went p t) (stopped p.answer s)) f
cut_event true p s r t f h e = ap (went p) e ∙ went_then p t f
cut_event false p s r t f h e = rw h refl

module _ (lent : Lent) where
  play_cut : (s : State) (es fs : List Event) → play_of lent s (es ++ fs) ≡ and_then (play_of lent s es) (λ t. play_of lent t fs)
  unfolding play_of
  play_cut s [] fs = sym (join_stopped s (play_of lent s fs))
  play_cut s (e ∷ es) fs =
      let p = plain_step lent s e in
      cut_event (is_ok p.answer) p s (play_of lent p.state (es ++ fs)) (play_of lent p.state es) (λ t. play_of lent t fs) refl (play_cut p.state es fs)

  -- ---- with the start of each run

  module _ (s : State) (valid : valid_of s ≡ true) where
    abbrev started : Bool
    started = is_ok (judge_controls_of lent.bundle s)

    good : started ≡ true → Good lent s
    good h = record { valid = valid; judged = done_is (judge_controls_of lent.bundle s) h }

    played_valid : (es : List Event) → valid_of (played_of lent s es).state ≡ true
    unfolding played_of
    played_valid es = go started refl
      where
        go : (d : Bool) → started ≡ d → valid_of (cond d (play_of lent s es) (stopped (judge_controls_of lent.bundle s) s)).state ≡ true
        go true h = (good_play lent s es (good h)).valid
        go false h = valid

    played_cut : (es fs : List Event) → played_of lent s (es ++ fs) ≡ and_then (played_of lent s es) (λ t. played_of lent t fs)
    unfolding played_of
    played_cut es fs = go started refl
      where
        restart : (t : State) → Good lent t → play_of lent t fs ≡ played_of lent t fs
        restart t g = rw g.judged refl

        go : (d : Bool) → started ≡ d
            → cond d (play_of lent s (es ++ fs)) (stopped (judge_controls_of lent.bundle s) s)
            ≡ and_then (cond d (play_of lent s es) (stopped (judge_controls_of lent.bundle s) s)) (λ t. played_of lent t fs)
        go true h =
            let r = play_of lent s es in
            play_cut s es fs ∙ ap (λ (x : Ran). cond (is_ok r.answer) (join r x) r) (restart r.state (good_play lent s es (good h)))
        go false h = rw h refl

-- ---- on bytes

told_left : (r : Ran) (output : List ℕ) → told (left_of r output) ≡ told_ran r
told_left r output =
    let n = length_outputs r.samples in
    rw (take_at (sample_bytes r.samples) (drop (16 * length r.samples) output) (16 * length r.samples) n) refl

told_join : (r t : Ran) → told_ran (join r t) ≡ join_told (told_ran r) (told_ran t)
told_join r t = rw (length-append r.samples t.samples, outputs_append r.samples t.samples) refl

told_then : (d : Bool) (r t : Ran) → cond d (join_told (told_ran r) (told_ran t)) (told_ran r) ≡ told_ran (cond d (join r t) r)
told_then true r t = sym (told_join r t)
told_then false r t = refl

-- ---- a piece from a valid state: it is judged by what is lent alone

-- 1, 2, 4, 12: between them comes the 10 of the block, which is valid
abbrev lent_judged : Lent → Answer
lent_judged lent = first_of (judge_lent_of lent) (judge_decays_of lent.decays)

module _ (lent : Lent) (s : State) (v : valid_of s ≡ true) where
  abbrev run_told : Piece → Told
  run_told p = told (run_of lent (block_of s) p.script p.output)

  module _ (p : Piece) (fine : Ready p) where
    run_judged : judge_run_of lent (block_of s) p.script (length p.output) ≡ lent_judged lent
    unfolding judge_run_of judge_script_of
    run_judged = rw (decode_block s v, fine.0, le-leb (16 * samples_of (events_of p.script)) (length p.output) fine.1, first_of_done (judge_decays_of lent.decays)) refl

    piece_told : lent_judged lent ≡ done → run_told p ≡ told_ran (played_of lent s (events_of p.script))
    unfolding run_of
    piece_told ready = rw (run_judged ∙ ready, fields_block s v) (told_left (played_of lent s (events_of p.script)) p.output)

    piece_refused : is_ok (lent_judged lent) ≡ false → run_told p ≡ told_ran (stopped (lent_judged lent) s)
    unfolding run_of sample_bytes
    piece_refused h = rw (run_judged, h) refl

-- ---- the plain machine beside a run

module _ (lent : Lent) (s : State) (es : List Event) (v : valid_of s ≡ true) where
  start_lent : plain_start lent s ≡ first_of (lent_judged lent) (judge_controls_of lent.bundle s)
  unfolding plain_start
  start_lent = rw v (sym (first_assoc (judge_lent_of lent) (judge_decays_of lent.decays) (judge_controls_of lent.bundle s)))

  plain_goes : lent_judged lent ≡ done → told_ran (played_of lent s es) ≡ plain_told lent s es
  unfolding plain_told played_of
  plain_goes ready = rw (start_lent, ready) refl

  plain_stops : is_ok (lent_judged lent) ≡ false → told_ran (stopped (lent_judged lent) s) ≡ plain_told lent s es
  unfolding plain_told
  plain_stops h = let is = start_lent ∙ first_stops _ _ h in rw (is, h) refl

-- ---- any list of pieces

module _ (lent : Lent) where
  -- the pieces after one, by what it told
  abbrev onward : Piece → List Piece → Told → Told
  onward q rest t = cond (is_ok t.answer) (join_told t (pieces_of lent t.block q rest)) t

  pieces_told : lent_judged lent ≡ done → (s : State) (p : Piece) (rest : List Piece) → valid_of s ≡ true → AllReady p rest
      → pieces_of lent (block_of s) p rest ≡ told_ran (played_of lent s (events_of_all p rest))
  unfolding pieces_of
  pieces_told ready s p [] v fine = piece_told lent s v p fine ready
  pieces_told ready s p (q ∷ rest) v fine =
      let es = events_of p.script in
      let r = played_of lent s es in
      ap (onward q rest) (piece_told lent s v p fine.0 ready)
      ∙ ap (λ (x : Told). cond (is_ok r.answer) (join_told (told_ran r) x) (told_ran r)) (pieces_told ready r.state q rest (played_valid lent s v es) fine.1)
      ∙ told_then (is_ok r.answer) r (played_of lent r.state (events_of_all q rest))
      ∙ ap told_ran (sym (played_cut lent s v es (events_of_all q rest)))

  pieces_refused : is_ok (lent_judged lent) ≡ false → (s : State) (p : Piece) (rest : List Piece) → valid_of s ≡ true → AllReady p rest
      → pieces_of lent (block_of s) p rest ≡ told_ran (stopped (lent_judged lent) s)
  unfolding pieces_of
  pieces_refused h s p [] v fine = piece_refused lent s v p fine h
  pieces_refused h s p (q ∷ rest) v fine = ap (onward q rest) (piece_refused lent s v p fine.0 h) ∙ rw h refl

  -- the plain machine beside them
  pieces_plain : (s : State) (p : Piece) (rest : List Piece) → valid_of s ≡ true → AllReady p rest → pieces_of lent (block_of s) p rest ≡ plain_told lent s (events_of_all p rest)
  pieces_plain s p rest v fine = go (is_ok (lent_judged lent)) refl
    where
      go : (d : Bool) → is_ok (lent_judged lent) ≡ d → pieces_of lent (block_of s) p rest ≡ plain_told lent s (events_of_all p rest)
      go true h = let ready = done_is (lent_judged lent) h in pieces_told ready s p rest v fine ∙ plain_goes lent s (events_of_all p rest) v ready
      go false h = pieces_refused h s p rest v fine ∙ plain_stops lent s (events_of_all p rest) v h

-- DEMAND 3, the second half. From every valid state block and for every list of pieces, one or more, each a well-formed script, empty ones too, with an output that has room: samples,
-- end state, events done, samples written and refusal of the joined pieces are the plain machine's on all their events, however many these are. Where the events are those of one script,
-- as they are in every way of cutting it (crates/script/proofs/Cut.antt, `cut`), they are the uncut run's too.
pub record Demand3Cut (lent : Lent) (block : List ℕ) (s : State) (p : Piece) (rest : List Piece) : Type 0 where
  pub plain : pieces_of lent block p rest ≡ plain_told lent s (events_of_all p rest)
  pub uncut : (whole : Piece) → Ready whole → events_of whole.script ≡ events_of_all p rest → pieces_of lent block p rest ≡ told (run_of lent block whole.script whole.output)

pub demand_3_cut : (lent : Lent) (block : List ℕ) (s : State) (p : Piece) (rest : List Piece) → Bytes block → decode_of block ≡ Some s → AllReady p rest → Demand3Cut lent block s p rest
unfolding pieces_of
demand_3_cut lent block s p rest bytes d fine =
    let v = (decoded block s d).valid in
    let plain = pieces_plain lent s p rest v fine in
    rw (← (encode_decoded block s bytes d).0)
    (record { plain = plain; uncut = λ whole ready same. plain ∙ ap (plain_told lent s) (sym same) ∙ sym (pieces_plain lent s whole [] v ready) })
