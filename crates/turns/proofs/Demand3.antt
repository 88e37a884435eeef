-- Demand 3 over every list of turns, events and ticks: the core's calls, each given the core that the last one handed back, answer as the plain machine does, and after each
-- of them all that is kept is as worked out afresh.
use Prim.Native.Nat.{ℕ}
use mathlib.Core.Path.{◌≡◌, refl, sym, ap, ◌∙◌, subst}
use mathlib.Core.Bool.{true, cond}
use mathlib.Core.List.{List, [], ◌∷◌}
use Rattle.answers.specs.declared.Refusal.TheVariants.{Argument}
use Rattle.answers.specs.Answers.{unless_of, Answer, done}
use Rattle.answers.proofs.Laws.{first_done, first_of_done, unless_done}
use Rattle.integrator.specs.declared.IntegratorState.{IntegratorState}
use Rattle.transients.specs.declared.TransientState.{TransientState}
use Rattle.transients.specs.Transients.{finite_transients_of}
use Rattle.transients.specs.Block.{judge_decays_of}
use Rattle.signals.specs.Lent.{voices_of}
use Rattle.floats.proofs.Laws.{both}
use Rattle.control.specs.declared.State.{State}
use Rattle.control.specs.Block.{valid_of, valid_registers_of, finite_floats_of}
use Rattle.control.proofs.Valid.{valid_ranges, four}
use Rattle.controls.specs.Controls.{controls_of}
use Rattle.controls.specs.Judging.{judge_entries_of, judge_domain_of, judge_controls_of}
use Rattle.clock.specs.declared.Ticked.{Ticked}
use Rattle.filter.specs.declared.Core.{Core}
use Rattle.filter.specs.Lent.{Lent, judge_lent_of}
use Rattle.filter.specs.Core.{fresh_topology_of, core_of}
use Rattle.filter.proofs.Demand3.{Invariant, steps, core_judged, fresh_invariant}
use Rattle.turns.specs.Turns.{TickFed, judge_levels_of, judge_voices_of, turn_start, turn_start_of, after_state, unticked_of, ticked_of, take_tick_of, core_tick_of}
use Rattle.turns.specs.Machine.{Turn, event, tick, PlainTurn, event_turn, plain_clocked, plain_tick, plain_turn, plain_turns}
use Rattle.turns.specs.Lists.{TurnFed, tick_turn, turn_of, core_turns, shown_turn, shown_turns, AllTurnsFresh}
use Rattle.turns.proofs.Good.{good_tick, clock_good}
use Rattle.std.specs.Prelude.{Err, is_ok, Result, Ok}
use Rattle.answers.specs.declared.Refusal.{Refusal}

-- ---- a tick: the registers stay, so all that is kept stays

module _ (l : Lent) (levels : List ℕ) (s : State) (valid : valid_of s ≡ true) (judged : judge_controls_of l.bundle s ≡ done) where
  after_valid : (i : IntegratorState) (t : TransientState) → finite_floats_of i ≡ true → finite_transients_of t ≡ true → valid_of (after_state s i t) ≡ true
  unfolding valid_of
  after_valid i t f g = rw ((four true (valid_registers_of s.registers) (finite_floats_of s.integrator) (finite_transients_of s.transients) valid).1, f) g

  after_tick : (i : IntegratorState) (t : TransientState) → finite_floats_of i ≡ true → finite_transients_of t ≡ true
      → Invariant l (record { state = after_state s i t; topology = fresh_topology_of s; controls = controls_of l.bundle s })
  unfolding controls_of judge_controls_of judge_entries_of judge_domain_of
  after_tick i t f g = record { valid = after_valid i t f g; fresh = refl; judged = judged }

  abbrev Ticks : TickFed → PlainTurn → Type 0
  Ticks r p = (shown_turn (tick_turn r) ≡ p) × Invariant l r.core

  ticked_plain : (x : Result Ticked Refusal) → good_tick x ≡ true → Ticks (ticked_of (core_of l s) x) (plain_clocked s x)
  unfolding good_tick
  ticked_plain (Ok x) g = let p = both (finite_floats_of x.integrator) (finite_transients_of x.transients) g in (refl, after_tick x.integrator x.transients p.0 p.1)
  ticked_plain (Err refusal) g = (refl, fresh_invariant l s valid judged)

  -- what a bad voice refuses, on either side
  guarded_plain : (v : Answer) (x : Result Ticked Refusal) → good_tick x ≡ true
      → Ticks (cond (is_ok v) (ticked_of (core_of l s) x) (unticked_of v (core_of l s))) (cond (is_ok v) (plain_clocked s x) (record { answer = v; rows = []; state = s }))
  guarded_plain (Ok _) x g = ticked_plain x g
  guarded_plain (Err refusal) x g = (refl, fresh_invariant l s valid judged)

  tick_steps : judge_lent_of l ≡ done → judge_decays_of l.decays ≡ done → judge_levels_of levels ≡ done → (voices : List ℕ)
      → Ticks (core_tick_of l levels (core_of l s) voices) (plain_tick l levels s voices)
  unfolding core_tick_of plain_tick take_tick_of controls_of
  tick_steps ready decayed levelled voices =
      rw (ready, core_judged l s valid judged, decayed, levelled, judged, first_of_done (judge_voices_of voices))
      (guarded_plain (judge_voices_of voices) _ (clock_good l.bundle l.curves _ _ s.integrator s.transients (voices_of voices) (valid_ranges s valid).floats))

-- ---- any turn

module _ (l : Lent) (levels : List ℕ) (ready : judge_lent_of l ≡ done) (decayed : judge_decays_of l.decays ≡ done) (levelled : judge_levels_of levels ≡ done) where
  abbrev TurnSteps : Core → Turn → TurnFed → Type 0
  TurnSteps k x r = (shown_turn r ≡ plain_turn l levels k.state x) × Invariant l r.core

  turn_steps : (k : Core) (x : Turn) → Invariant l k → TurnSteps k x (turn_of l levels k x)
  turn_steps k (event e) kept = let st = steps l ready decayed k e kept in (ap event_turn st.0, st.1)
  turn_steps k (tick voices) kept =
      subst (λ (c : Core). TurnSteps c (tick voices) (turn_of l levels c (tick voices))) (sym kept.fresh) (tick_steps l levels k.state kept.valid kept.judged ready decayed levelled voices)

  -- ---- any list of turns

  pub record TurnsAgree (k : Core) (xs : List Turn) : Type 0 where
    pub same : shown_turns (core_turns l levels k xs) ≡ plain_turns l levels k.state xs
    pub fresh : AllTurnsFresh l (core_turns l levels k xs)

  pub turns_agree : (k : Core) (xs : List Turn) → Invariant l k → TurnsAgree k xs
  unfolding core_turns plain_turns
  turns_agree k [] kept = record { same = refl; fresh = tt }
  turns_agree k (x ∷ xs) kept =
      let r = turn_of l levels k x in
      let st = turn_steps k x kept in
      let rest = turns_agree r.core xs st.1 in
      record {
        same = ap (λ (ps : List PlainTurn). shown_turn r ∷ ps) rest.same ∙ ap (λ (p : PlainTurn). p ∷ plain_turns l levels p.state xs) st.0;
        fresh = (st.1.fresh, rest.fresh);
      }

-- ---- the start

module _ (l : Lent) (levels : List ℕ) (s : State) (started : turn_start l levels s ≡ done) where
  pub record TurnStarts : Type 0 where
    pub ready : judge_lent_of l ≡ done
    pub valid : valid_of s ≡ true
    pub decayed : judge_decays_of l.decays ≡ done
    pub levelled : judge_levels_of levels ≡ done
    pub judged : judge_controls_of l.bundle s ≡ done

  pub turn_start_parts : TurnStarts
  unfolding turn_start
  turn_start_parts =
      let p = first_done (judge_lent_of l) _ started in
      let q = first_done (unless_of (valid_of s) Argument) _ p.1 in
      let r = first_done (judge_decays_of l.decays) _ q.1 in
      let t = first_done (judge_levels_of levels) (judge_controls_of l.bundle s) r.1 in
      record { ready = p.0; valid = unless_done (valid_of s) Argument q.0; decayed = r.0; levelled = t.0; judged = t.1 }

  turn_start_core : (turn_start_of l levels s).core ≡ core_of l s
  turn_start_core = rw turn_start_parts.judged refl

  turn_start_agrees : (xs : List Turn)
      → TurnsAgree l levels turn_start_parts.ready turn_start_parts.decayed turn_start_parts.levelled (turn_start_of l levels s).core xs
  turn_start_agrees xs =
      let p = turn_start_parts in
      rw turn_start_core (turns_agree l levels p.ready p.decayed p.levelled (core_of l s) xs (fresh_invariant l s p.valid p.judged))

-- DEMAND 3, the first half, with ticks. For all that is lent, every state and every list of events and ticks: the start is answered as the plain machine answers it; and where it is
-- not refused, every sample, tick, state and refusal of the list is the plain machine's, and after each all that is kept equals what is worked out afresh from the state.
pub record Demand3Turns (l : Lent) (levels : List ℕ) (s : State) (xs : List Turn) : Type 0 where
  pub start : (turn_start_of l levels s).answer ≡ turn_start l levels s
  pub same : turn_start l levels s ≡ done → shown_turns (core_turns l levels (turn_start_of l levels s).core xs) ≡ plain_turns l levels s xs
  pub fresh : turn_start l levels s ≡ done → AllTurnsFresh l (core_turns l levels (turn_start_of l levels s).core xs)

pub demand_3_turns : (l : Lent) (levels : List ℕ) (s : State) (xs : List Turn) → Demand3Turns l levels s xs
demand_3_turns l levels s xs = record { start = refl; same = λ h. (turn_start_agrees l levels s h xs).same; fresh = λ h. (turn_start_agrees l levels s h xs).fresh }
