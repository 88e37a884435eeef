-- A run is the core's list of events up to its first refusal, so that demand 3's first half speaks of what a run does.
use Prim.Native.Nat.{ℕ}
use mathlib.Core.Path.{◌≡◌, refl, sym, ap, ◌∙◌}
use mathlib.Core.Bool.{Bool, true, false, cond}
use mathlib.Core.List.{List, [], ◌∷◌}
use lib.ListN.{length}
use Rattle.answers.proofs.Laws.{done_is}
use Rattle.transients.specs.Block.{judge_decays_of}
use Rattle.control.specs.declared.State.{State}
use Rattle.control.specs.Block.{valid_of, fields_of}
use Rattle.control.proofs.RoundTrip.{decoded}
use Rattle.controls.specs.Judging.{judge_controls_of}
use Rattle.script.specs.declared.Event.{Event}
use Rattle.script.specs.Script.{events_of}
use Rattle.filter.specs.Lent.{Lent, judge_lent_of}
use Rattle.filter.specs.Plain.{plain_start, plain_step, plain_trace}
use Rattle.filter.specs.Core.{core_start_of}
use Rattle.filter.specs.Lists.{core_trace, shown_all}
use Rattle.filter.proofs.Demand3.{demand_3}
use Rattle.run.specs.Run.{Ran, stopped, went, play_of, played_of, judge_run_of, left_of, run_of}
use Rattle.songs.specs.Traces.{up_to_refusal, core_ran}
use Rattle.run.proofs.Whole.{parts, block_valid}
use Rattle.answers.specs.Answers.{done}
use Rattle.std.specs.Prelude.{is_ok}

-- the plain machine up to its first refusal is its trace up to there
play_trace : (lent : Lent) (s : State) (es : List Event) → play_of lent s es ≡ up_to_refusal s (plain_trace lent s es)
unfolding play_of plain_trace up_to_refusal
play_trace lent s [] = refl
play_trace lent s (e ∷ es) =
    let p = plain_step lent s e in
    ap (λ (r : Ran). cond (is_ok p.answer) (went p r) (stopped p.answer s)) (play_trace lent p.state es)

module _ (lent : Lent) (s : State) (es : List Event) (ready : judge_lent_of lent ≡ done) (decayed : judge_decays_of lent.decays ≡ done) (valid : valid_of s ≡ true) where
  -- the start is judged by its controls alone
  start_is : plain_start lent s ≡ judge_controls_of lent.bundle s
  unfolding plain_start
  start_is = rw (ready, valid, decayed) refl

  played_core : played_of lent s es ≡ core_ran lent s es
  unfolding played_of
  played_core = rw start_is (go (is_ok (judge_controls_of lent.bundle s)) refl)
    where
      go : (d : Bool) → is_ok (judge_controls_of lent.bundle s) ≡ d
          → cond d (play_of lent s es) (stopped (judge_controls_of lent.bundle s) s)
          ≡ cond d (up_to_refusal s (shown_all es (core_trace lent (core_start_of lent s).core es))) (stopped (judge_controls_of lent.bundle s) s)
      go true h =
          let same = (demand_3 lent s es).same (start_is ∙ done_is (judge_controls_of lent.bundle s) h) in
          play_trace lent s es ∙ ap (up_to_refusal s) (sym same)
      go false h = refl

-- For every run that is not turned back: its samples, end state, counts and refusal are those of the core's calls, from the core of its block on, each given the core that the last one
-- handed back, up to the first that is refused.
pub run_is_core : (lent : Lent) (block script output : List ℕ) → judge_run_of lent block script (length output) ≡ done
    → run_of lent block script output ≡ left_of (core_ran lent (fields_of block) (events_of script)) output
unfolding run_of
run_is_core lent block script output judged =
    let p = parts lent block script (length output) judged in
    let valid = (decoded block (fields_of block) (block_valid lent block script (length output) judged)).valid in
    rw judged (ap (λ (r : Ran). left_of r output) (played_core lent (fields_of block) (events_of script) p.0 p.2 valid))
