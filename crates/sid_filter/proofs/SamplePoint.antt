-- What the two runs of `sample_answer` answer, of one sample and of no script. Assumes nothing.
use Prim.Native.Nat.{ℕ}
use mathlib.Core.Path.{◌≡◌, refl, sym, ap, ◌∙◌}
use mathlib.Core.Bool.{Bool, true, false, cond, ◌&&◌, true≢false}
use mathlib.Core.List.{List, [], ◌∷◌}
use lib.Dec.{T, eqb, leb}
use lib.ListN.{length, replicate}
use lib.Ieee.{Float, binary32, of_bits, fits, le}
use lib.Ieee.Scale.{finite}
use borrow.Author.Tests.{eq-eqb}
use Rattle.answers.specs.declared.Refusal.TheVariants.{BundleLength, Header, Entry, CurvesLength, InputNotFinite, Domain, Script, OutputLength, Argument, Sources, Decays}
use Rattle.answers.specs.Answers.{number_of, first_of, unless_of, answer_of, Answer, done}
use Rattle.answers.proofs.Laws.{done_is, first_assoc, first_of_done}
use Rattle.wire.specs.Wire.{number_at}
use Rattle.bundle.specs.Layout.{bundle_length, header_length}
use Rattle.bundle.specs.Opening.{first_difference, check_of}
use Rattle.curves.specs.declared.CurvePoint.{CurvePoint}
use Rattle.curves.specs.Sampling.{no_point}
use Rattle.curves.specs.Building.{curves_length}
use Rattle.transients.specs.Block.{factor_at, judge_decays_of}
use Rattle.control.specs.declared.State.{State}
use Rattle.control.specs.Block.{fields_of, decode_of}
use Rattle.control.proofs.RoundTrip.{decoded}
use Rattle.controls.specs.Judging.{judge_controls_of}
use Rattle.script.specs.declared.Event.{Event}
use Rattle.script.specs.declared.Event.TheVariants.{Sample}
use Rattle.script.specs.Script.{events_of, samples_of, header_ok, well_formed}
use Rattle.filter.specs.Lent.{Lent, lent_all, judge_tables_of, judge_lent_of}
use Rattle.filter.specs.Plain.{plain_sample, plain_step}
use Rattle.run.specs.Run.{Run, play_of, played_of, is_valid, judge_script_of, judge_run_of, run_of}
use Rattle.points.specs.Points.{state_point_of, pointed_of, sample_refusal_of, sample_point_call_of, sample_script_of}
use Rattle.points.proofs.Laws.{script_formed, script_events}
use Rattle.std.specs.Prelude.{Ok, Err, Result, is_ok, Option, Some, None}
use Rattle.std.specs.Result.{result_and}
use Rattle.answers.specs.declared.Refusal.{Refusal}

-- What is lent is not refused with 7.
lent_other : (l : Lent) → eqb (number_of (judge_lent_of l)) 7 ≡ false
unfolding judge_tables_of check_of
lent_other l =
    go (eqb (length l.bundle) bundle_length) (leb header_length (first_difference l.bundle)) (eqb (length l.curves) curves_length) (first_difference l.bundle)
  where
    go : (x y z : Bool) (place : ℕ) → eqb (number_of (first_of (first_of (unless_of x BundleLength) (unless_of y (Header place))) (unless_of z CurvesLength))) 7 ≡ false
    go false y z place = refl
    go true false z place = refl
    go true true false place = refl
    go true true true place = refl

-- the answer of a call that refuses or hands out a point
answered : (judged : Answer) (r : Result CurvePoint Refusal) → answer_of (result_and judged r) ≡ first_of judged (answer_of r)
answered (Ok _) r = refl
answered (Err refusal) r = refl

-- ---- a run's answer

run_answered : (l : Lent) (block script output : List ℕ)
    → (run_of l block script output).answer ≡ first_of (judge_run_of l block script (length output)) (played_of l (fields_of block) (events_of script)).answer
unfolding run_of
run_answered l block script output = go (judge_run_of l block script (length output)) _
  where
    go : (judged : Answer) (x : Run) → (cond (is_ok judged) x (record { answer = judged; events = 0; samples = 0; state = block; output = output })).answer ≡ first_of judged x.answer
    go (Ok _) x = refl
    go (Err refusal) x = refl

played_one : (l : Lent) (s : State) (e : Event) → (played_of l s (e ∷ [])).answer ≡ first_of (judge_controls_of l.bundle s) (plain_step l s e).answer
unfolding played_of play_of
played_one l s e = go (judge_controls_of l.bundle s) (plain_step l s e).answer refl refl
  where
    go : (c d : Answer) → judge_controls_of l.bundle s ≡ c → (plain_step l s e).answer ≡ d
        → (played_of l s (e ∷ [])).answer ≡ first_of (judge_controls_of l.bundle s) (plain_step l s e).answer
    go (Ok _) (Ok _) h i = rw (h, i) refl
    go (Ok _) (Err refusal) h i = rw (h, i) refl
    go (Err refusal) d h i = rw h refl

-- ---- both runs, which are lent six zeros for decays

abbrev pub zero_decays : Lent → Lent
zero_decays l = lent_all l.bundle l.curves (replicate 24 0)

zeros_judged : judge_decays_of (replicate 24 0) ≡ done
unfolding judge_decays_of factor_at number_at of_bits le
zeros_judged = refl

-- no sample reads them
sample_alike : (l : Lent) (s : State) (sum energy : Float) → plain_sample (zero_decays l) s sum energy ≡ plain_sample l s sum energy
unfolding plain_sample
sample_alike l s sum energy = refl

module _ (l : Lent) (block : List ℕ) (sum energy : Float) where
  abbrev output : List ℕ
  output = replicate 16 0

  -- a block of another length
  pub other_length : eqb (length block) 68 ≡ false → first_of (judge_lent_of l) (Err Argument) ≡ answer_of (sample_point_call_of l block sum energy)
  unfolding sample_point_call_of decode_of
  other_length h = rw h (sym (answered (judge_lent_of l) _))

  abbrev pub one_run : Answer
  one_run = (run_of (zero_decays l) block (sample_script_of sum energy) output).answer

  abbrev pub no_run : Answer
  no_run = (run_of (zero_decays l) block [] output).answer

  -- the script of one sample is readable, and the output has room for it
  one_judged : T (fits binary32 sum) → T (fits binary32 energy) → judge_script_of (sample_script_of sum energy) (length output) ≡ done
  unfolding judge_script_of samples_of
  one_judged f g = rw (script_formed sum energy, script_events sum energy f g) refl

  pub one_run_lem : T (fits binary32 sum) → T (fits binary32 energy) → (finite sum && finite energy) ≡ true → one_run ≡ answer_of (sample_point_call_of l block sum energy)
  unfolding sample_point_call_of sample_refusal_of judge_run_of
  one_run_lem f g known =
      run_answered (zero_decays l) block (sample_script_of sum energy) output
      ∙ rw (zeros_judged, one_judged f g, script_events sum energy f g) (go (decode_of block) refl)
    where
      go : (d : Option State) → decode_of block ≡ d
          → first_of (first_of (judge_lent_of l) (first_of (unless_of (is_valid d) Argument) done)) (played_of (zero_decays l) (fields_of block) (Sample sum energy ∷ [])).answer
          ≡ answer_of (pointed_of l d sum energy)
      go None h = first_assoc (judge_lent_of l) (Err Argument) _ ∙ sym (answered (judge_lent_of l) (Err Argument))
      go (Some s) h =
          rw ((decoded block s h).fields, played_one (zero_decays l) s (Sample sum energy), sample_alike l s sum energy, known, first_of_done (judge_lent_of l))
          (rw known at (sym (answered (first_of (judge_lent_of l) (sample_refusal_of l s sum energy)) (Ok (state_point_of l s sum)) ∙ first_of_done (first_of (judge_lent_of l) (sample_refusal_of l s sum energy)))))

  -- no script is not readable
  none_judged : judge_script_of [] (length output) ≡ Err Script
  unfolding judge_script_of well_formed header_ok number_at
  none_judged = refl

  pub no_run_lem : (finite sum && finite energy) ≡ false → cond (eqb (number_of no_run) 7) (Err InputNotFinite) no_run ≡ answer_of (sample_point_call_of l block sum energy)
  unfolding sample_point_call_of sample_refusal_of judge_run_of
  no_run_lem unknown =
      rw (run_answered (zero_decays l) block [] output, zeros_judged, none_judged)
      (go (decode_of block) (judge_lent_of l) refl (played_of (zero_decays l) (fields_of block) (events_of [])).answer)
    where
      go : (d : Option State) (a : Answer) → judge_lent_of l ≡ a → (played : Answer)
          → let judged = first_of (first_of (judge_lent_of l) (first_of (unless_of (is_valid d) Argument) (Err Script))) played in
          cond (eqb (number_of judged) 7) (Err InputNotFinite) judged ≡ answer_of (pointed_of l d sum energy)
      go None (Ok _) h played = rw h refl
      go None (Err refusal) h played = rw (h, rw h at (lent_other l)) refl
      go (Some s) (Ok _) h played = rw (h, unknown) refl
      go (Some s) (Err refusal) h played = rw (h, rw h at (lent_other l)) refl

  -- ---- as `sample_point` hands out its point

  pub point_refused : {refusal : Refusal} → answer_of (sample_point_call_of l block sum energy) ≡ Err refusal → Err refusal ≡ sample_point_call_of l block sum energy
  point_refused = go (sample_point_call_of l block sum energy)
    where
      go : (r : Result CurvePoint Refusal) {refusal : Refusal} → answer_of r ≡ Err refusal → Err refusal ≡ r
      go (Ok p) h = cc
      go (Err refusal) h = cc

  pub point_handed : answer_of (sample_point_call_of l block sum energy) ≡ done → Ok (state_point_of l (fields_of block) sum) ≡ sample_point_call_of l block sum energy
  unfolding sample_point_call_of
  point_handed = go (decode_of block) refl
    where
      some : (judged : Answer) (p q : CurvePoint) → q ≡ p → answer_of (result_and judged (Ok p)) ≡ done → Ok q ≡ result_and judged (Ok p)
      some (Ok _) p q same h = ap Ok same
      some (Err refusal) p q same h = cc

      none : (judged : Answer) (q : CurvePoint) → answer_of {T = CurvePoint} (result_and judged (Err Argument)) ≡ done → Ok q ≡ result_and judged (Err Argument)
      none (Ok _) q h = cc
      none (Err refusal) q h = cc

      go : (d : Option State) → decode_of block ≡ d → answer_of (pointed_of l d sum energy) ≡ done → Ok (state_point_of l (fields_of block) sum) ≡ pointed_of l d sum energy
      go None h is = none (judge_lent_of l) (state_point_of l (fields_of block) sum) is
      go (Some s) h is = some (first_of (judge_lent_of l) (sample_refusal_of l s sum energy)) _ _ (ap (λ (t : State). state_point_of l t sum) (decoded block s h).fields) is
