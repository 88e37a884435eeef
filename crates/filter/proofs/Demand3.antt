-- Demand 3 over every list of events: the core's calls, each given the core that the last one handed back, answer as the plain machine does, and after each
-- of them all that is kept is as worked out afresh.
use Prim.Native.Nat.{ℕ, zero, suc, ◌+◌, ◌≤◌}
use mathlib.Core.Path.{◌≡◌, refl, sym, ap, ◌∙◌, subst}
use mathlib.Core.Bool.{Bool, true, false, not, cond, true≢false}
use mathlib.Core.List.{List, [], ◌∷◌}
use native.Mathlib.Omega.{arith}
use lib.Ieee.{Float, of_bits, of_int, div}
use lib.Ieee.Scale.{finite}
use borrow.Author.Tests.{le-leb}
use Rattle.answers.specs.declared.Refusal.TheVariants.{Domain, Argument}
use Rattle.std.specs.Result.{result_and}
use Rattle.answers.specs.Answers.{first_of, unless_of, Answer, done}
use Rattle.answers.proofs.Laws.{done_is, first_done, first_of_done, unless_done}
use Rattle.bundle.specs.Opening.{check_of}
use Rattle.curves.specs.Building.{judge_length_of}
use Rattle.integrator.specs.declared.IntegratorState.{IntegratorState}
use Rattle.mixing.specs.declared.MixingTopology.{MixingTopology}
use Rattle.mixing.specs.Topology.{topology_of, filter_count_of, output_count_of, mixer_count_of, reciprocal_of}
use Rattle.mixing.proofs.Facts.{filter_most, output_most, mixer_most}
use Rattle.transients.specs.Transients.{finite_transients_of, finite_charges_of}
use Rattle.transients.specs.Block.{judge_decays_of}
use Rattle.transients.proofs.Laws.{starting_finite, charge_finite}
use Rattle.control.specs.declared.State.{State}
use Rattle.control.specs.Registers.{volume_bits, starting_state, effective_cutoff_of, write_cutoff_low_of, write_cutoff_high_of, write_signal_routing_of, write_mode_and_volume_of}
use Rattle.control.specs.Block.{valid_of, finite_floats_of}
use Rattle.control.proofs.Valid.{valid_ranges, effective_within, floats_valid, low_valid, high_valid, routing_valid, mode_valid, starting_valid}
use Rattle.controls.specs.declared.ControlCache.{ControlCache}
use Rattle.controls.specs.Controls.{refresh_filter_controls_of, refresh_mode_output_gain_of, refresh_register_output_state_of, controls_of}
use Rattle.controls.specs.Judging.{judge_filter_of, judge_entries_of, judge_domain_of, judge_controls_of, finite_controls_of}
use Rattle.refresh.specs.Refresh.{judge_gain_of}
use Rattle.refresh.proofs.Parts.{judged_by_parts}
use Rattle.sample.specs.declared.Outputs.{Outputs}
use Rattle.sample.specs.declared.Sampled.{Sampled}
use Rattle.sample.specs.Sample.{summer_slot_of, judge_input_of, judge_reads_of, judge_sample_of, filter_sample_of, taken_of, advance_filter_core_of, select_filter_output_of}
use Rattle.sample.proofs.Valid.{finite_taken, sample_valid}
use Rattle.script.specs.declared.Event.{Event}
use Rattle.script.specs.declared.Event.TheVariants.{CutoffLow, CutoffHigh, Routing, Mode, Sample, Reset}
use Rattle.filter.specs.declared.Core.{Core}
use Rattle.filter.specs.Core.{Fed}
use Rattle.filter.specs.Lent.{Lent, lent_of, judge_tables_of, judge_lent_of}
use Rattle.filter.specs.Core.{fresh_topology_of, core_of, judge_core_of, countable_of, sound_of, settled_of, quiet_of, with_integrator, after_of, core_start_of, refreshed_of, reselected_of}
use Rattle.filter.specs.Core.{change_of, take_of, feed_event_of, core_write_of, core_sample_of, feed_of}
use Rattle.filter.specs.Plain.{Plain, refused_at, plain_start, judge_change_of, plain_change, plain_taken, plain_sample, plain_step, plain_trace}
use Rattle.filter.specs.Lists.{core_trace, is_sample, shown, shown_all, Fresh, AllFresh}
use Rattle.std.specs.Prelude.{Err, is_ok, Option, Some, None, Result, Ok}
use Rattle.integrator.specs.declared.Advanced.{Advanced}
use Rattle.answers.specs.declared.Refusal.{Refusal}

-- What every core of a list has: a valid state, all else worked out afresh from it, and controls that are not refused.
pub record Invariant (l : Lent) (k : Core) : Type 0 where
  pub valid : valid_of k.state ≡ true
  pub fresh : Fresh l k
  pub judged : judge_controls_of l.bundle k.state ≡ done

-- ---- controls that are not refused

module _ (bundle : List ℕ) (s : State) (judged : judge_controls_of bundle s ≡ done) where
  parts : (judge_entries_of bundle s ≡ done) × (judge_domain_of bundle s ≡ done)
  unfolding judge_controls_of
  parts = first_done (judge_entries_of bundle s) (judge_domain_of bundle s) judged

  all_finite : finite_controls_of (controls_of bundle s) ≡ true
  unfolding judge_domain_of
  all_finite = unless_done (finite_controls_of (controls_of bundle s)) Domain parts.1

  filter_usable : judge_filter_of bundle (effective_cutoff_of s) s.registers.resonance ≡ done
  unfolding judge_entries_of
  filter_usable = (first_done (judge_filter_of bundle (effective_cutoff_of s) s.registers.resonance) _ parts.0).0

-- ---- a write or a reset

-- its outcome, as the plain machine has it
abbrev changed : Fed → Plain
changed r = record { answer = r.answer; sample = []; state = r.core.state }

abbrev Changes : Lent → Core → State → Fed → Type 0
Changes l k t r = (changed r ≡ plain_change l k.state t) × Invariant l r.core

-- what is not refused of a change
pub change_parts : (bundle : List ℕ) (t : State) → judge_change_of bundle t ≡ done → (judge_controls_of bundle t ≡ done) × (finite_transients_of t.transients ≡ true)
unfolding judge_change_of
change_parts bundle t h =
    let p = first_done (judge_controls_of bundle t) (unless_of (finite_transients_of t.transients) Domain) h in
    (p.0, unless_done (finite_transients_of t.transients) Domain p.1)

-- where the transients are finite only the controls are judged
pub change_quiet : (bundle : List ℕ) (t : State) → finite_transients_of t.transients ≡ true → judge_controls_of bundle t ≡ judge_change_of bundle t
unfolding judge_change_of
change_quiet bundle t h = rw h (sym (first_of_done (judge_controls_of bundle t)))

-- one law for all five: `new` is worked out afresh from the next state, which is valid where its transients are finite
module _ (l : Lent) (k : Core) (t : State) (new : Core) (kept : Invariant l k) (New_is : new ≡ core_of l t) (valid : finite_transients_of t.transients ≡ true → valid_of t ≡ true) where
  settles : {answer : Answer} → answer ≡ judge_change_of l.bundle t → Changes l k t (quiet_of (settled_of answer k new))
  settles is = rw is (go (is_ok (judge_change_of l.bundle t)) refl)
    where
      go : (d : Bool) → is_ok (judge_change_of l.bundle t) ≡ d → Changes l k t (quiet_of (settled_of (judge_change_of l.bundle t) k new))
      go true h =
          let j = done_is (judge_change_of l.bundle t) h in
          let p = change_parts l.bundle t j in
          rw (j, New_is) (refl, record { valid = valid p.1; fresh = refl; judged = p.0 })
      go false h = rw h (refl, kept)

  -- with transients that are finite already
  settles_quiet : finite_transients_of t.transients ≡ true → Changes l k t (quiet_of (settled_of (judge_controls_of l.bundle t) k new))
  settles_quiet h = settles (change_quiet l.bundle t h)

module _ (l : Lent) (k : Core) (kept : Invariant l k) where
  finite_kept : finite_transients_of k.state.transients ≡ true
  finite_kept = (valid_ranges k.state kept.valid).transients

  -- a cutoff's write leaves the topology
  cutoff_new : (t : State) → t.registers.routing ≡ k.state.registers.routing → t.registers.mode ≡ k.state.registers.mode
      → ◌≡◌ {A = Core} (record { state = t; topology = k.topology; controls = controls_of l.bundle t }) (core_of l t)
  cutoff_new t r m =
      let e : k.topology ≡ fresh_topology_of t = rw (r, m) (ap (λ (c : Core). c.topology) kept.fresh) in
      ap (λ (x : MixingTopology). record { state = t; topology = x; controls = controls_of l.bundle t }) e

  low_changes : (v : ℕ) → Changes l k (write_cutoff_low_of k.state v) (quiet_of (change_of l.bundle k (CutoffLow v)))
  unfolding refreshed_of
  low_changes v = settles_quiet l k (write_cutoff_low_of k.state v) _ kept (cutoff_new _ refl refl) (λ f. low_valid k.state kept.valid v) finite_kept

  high_changes : (v : ℕ) → Changes l k (write_cutoff_high_of k.state v) (quiet_of (change_of l.bundle k (CutoffHigh v)))
  unfolding refreshed_of
  high_changes v = settles_quiet l k (write_cutoff_high_of k.state v) _ kept (cutoff_new _ refl refl) (λ f. high_valid k.state kept.valid v) finite_kept

  routing_changes : (v : ℕ) → Changes l k (write_signal_routing_of k.state v) (quiet_of (change_of l.bundle k (Routing v)))
  unfolding refreshed_of
  routing_changes v = settles_quiet l k (write_signal_routing_of k.state v) _ kept refl (λ f. routing_valid k.state kept.valid v) finite_kept

  reset_changes : Changes l k starting_state (quiet_of (change_of l.bundle k Reset))
  unfolding refreshed_of
  reset_changes = settles_quiet l k starting_state _ kept refl (λ f. starting_valid) starting_finite

  -- a mode's write leaves the filter's controls, which are neither refused nor moved
  module _ (v : ℕ) where
    abbrev selected : State
    selected = write_mode_and_volume_of k.state v

    mode_judged : first_of (judge_gain_of l.bundle selected.registers (effective_cutoff_of k.state)) (unless_of (finite_charges_of selected.transients) Domain) ≡ judge_change_of l.bundle selected
    unfolding judge_change_of
    mode_judged =
        let small = (valid_ranges k.state kept.valid).resonance in
        let is = judged_by_parts l.bundle selected (omega arith) in
        let controls : judge_gain_of l.bundle selected.registers (effective_cutoff_of k.state) ≡ judge_controls_of l.bundle selected =
        sym (is ∙ rw (filter_usable l.bundle k.state kept.judged) refl) in
        rw (controls, charge_finite k.state.transients (volume_bits v) finite_kept)

    mode_new :
        ◌≡◌ {A = ControlCache}
        (record {
          filter = k.controls.filter;
          mode_output_gain = refresh_mode_output_gain_of l.bundle selected.registers (effective_cutoff_of k.state);
          output = refresh_register_output_state_of selected.registers;
        })
        (controls_of l.bundle selected)
    unfolding controls_of
    mode_new = rw (ap (λ (c : Core). c.controls.filter) kept.fresh) refl

    mode_changes : Changes l k selected (quiet_of (change_of l.bundle k (Mode v)))
    unfolding reselected_of
    mode_changes = rw mode_new (settles l k selected (core_of l selected) kept refl (mode_valid k.state kept.valid v) mode_judged)

-- ---- what a topology has

-- the reciprocals of a topology's counts
reciprocal_finite : (n : ℕ) → n ≤ 7 → finite (reciprocal_of n) ≡ true
unfolding reciprocal_of of_int div of_bits
reciprocal_finite zero h = refl
reciprocal_finite (suc zero) h = refl
reciprocal_finite (suc (suc zero)) h = refl
reciprocal_finite (suc (suc (suc zero))) h = refl
reciprocal_finite (suc (suc (suc (suc zero)))) h = refl
reciprocal_finite (suc (suc (suc (suc (suc zero))))) h = refl
reciprocal_finite (suc (suc (suc (suc (suc (suc zero)))))) h = refl
reciprocal_finite (suc (suc (suc (suc (suc (suc (suc zero))))))) h = refl
reciprocal_finite (suc (suc (suc (suc (suc (suc (suc (suc n)))))))) h = absurd (omega (arith, h))

fresh_countable : (routing mode : ℕ) → countable_of (topology_of routing mode) ≡ true
unfolding topology_of
fresh_countable routing mode =
    let n = filter_count_of routing in
    let h = filter_most routing in
    rw (
      le-leb n 4 h,
      le-leb (output_count_of mode) 3 (output_most mode),
      le-leb (mixer_count_of routing mode) 7 (mixer_most routing mode),
      reciprocal_finite n (omega (arith, h)),
      reciprocal_finite (2 + n) (omega (arith, h)),
      reciprocal_finite (mixer_count_of routing mode) (mixer_most routing mode),
    ) refl

-- every core of a list is whole
module _ (l : Lent) (s : State) (valid : valid_of s ≡ true) (judged : judge_controls_of l.bundle s ≡ done) where
  pub fresh_invariant : Invariant l (core_of l s)
  fresh_invariant = record { valid = valid; fresh = refl; judged = judged }

  fresh_sound : sound_of (controls_of l.bundle s) ≡ true
  unfolding controls_of refresh_filter_controls_of
  fresh_sound =
      rw (le-leb (effective_cutoff_of s) 2047 (effective_within s), le-leb s.registers.resonance 15 (valid_ranges s valid).resonance) (all_finite l.bundle s judged)

  pub core_judged : judge_core_of (core_of l s) ≡ done
  unfolding judge_core_of
  core_judged = rw (valid, fresh_countable s.registers.routing s.registers.mode, fresh_sound) refl

  -- ---- a sample: the registers stay, so all that is kept stays

  module _ (sum energy : Float) where
    abbrev sampled : Result Sampled Refusal
    sampled =
        let t = fresh_topology_of s in
        filter_sample_of l.bundle l.curves (summer_slot_of t) t (controls_of l.bundle s) s.registers.mode s.integrator sum energy

    after_invariant : (i : IntegratorState) → finite_floats_of i ≡ true
        → Invariant l (record { state = with_integrator s i; topology = fresh_topology_of s; controls = controls_of l.bundle s })
    unfolding controls_of judge_controls_of judge_entries_of judge_domain_of
    after_invariant i f = record { valid = floats_valid s valid i f; fresh = refl; judged = judged }

    abbrev Samples : Fed → Plain → Type 0
    Samples r p = (shown (Sample sum energy) r ≡ p) × Invariant l r.core

    after_taken : (x : Result Sampled Refusal) → finite_taken x ≡ true → Samples (after_of (core_of l s) x) (plain_taken s x)
    unfolding finite_taken
    after_taken (Ok t) f = (refl, after_invariant t.state f)
    after_taken (Err refusal) f = (refl, fresh_invariant)

    -- Where the controls are not refused, the plain machine's sample is the sample on what is worked out afresh.
    pub sample_plain : plain_taken s sampled ≡ plain_sample l s sum energy
    unfolding plain_sample filter_sample_of judge_sample_of
    sample_plain =
        let t = fresh_topology_of s in
        let reads = judge_reads_of l.bundle l.curves (summer_slot_of t) t s.integrator sum in
        let p = parts l.bundle s judged in
        rw (p.0, p.1, first_of_done reads) (go (first_of (judge_input_of sum energy) reads) _)
      where
        go : (judged : Answer) (x : Result Sampled Refusal) → plain_taken s (result_and judged x) ≡ cond (is_ok judged) (plain_taken s x) (refused_at s judged)
        go (Ok _) x = refl
        go (Err refusal) x = refl

    sample_steps : Samples (take_of l (core_of l s) sum energy) (plain_sample l s sum energy)
    unfolding take_of
    sample_steps =
        rw (← sample_plain)
        (after_taken sampled
        (sample_valid l.bundle l.curves _ _ s.integrator sum energy _ _ (valid_ranges s valid).floats))

-- ---- any event

abbrev pub Steps : Lent → Core → Event → Fed → Type 0
Steps l k e r = (shown e r ≡ plain_step l k.state e) × Invariant l r.core

module _ (l : Lent) where
  pub event_steps : (k : Core) (e : Event) → Invariant l k → Steps l k e (feed_event_of l k e)
  event_steps k (CutoffLow v) kept = low_changes l k kept v
  event_steps k (CutoffHigh v) kept = high_changes l k kept v
  event_steps k (Routing v) kept = routing_changes l k kept v
  event_steps k (Mode v) kept = mode_changes l k kept v
  event_steps k (Sample sum energy) kept =
      subst (λ (c : Core). Steps l c (Sample sum energy) (feed_event_of l c (Sample sum energy))) (sym kept.fresh) (sample_steps l k.state kept.valid kept.judged sum energy)
  event_steps k Reset kept = reset_changes l k kept

module _ (l : Lent) (ready : judge_lent_of l ≡ done) (decayed : judge_decays_of l.decays ≡ done) where
  pub steps : (k : Core) (e : Event) → Invariant l k → Steps l k e (feed_of l k e)
  unfolding feed_of
  steps k e kept =
      let whole : judge_core_of k ≡ done = rw kept.fresh (core_judged l k.state kept.valid kept.judged) in
      rw (ready, whole, decayed) (event_steps l k e kept)

  -- ---- any list of events

  pub record Agrees (k : Core) (es : List Event) : Type 0 where
    pub same : shown_all es (core_trace l k es) ≡ plain_trace l k.state es
    pub fresh : AllFresh l (core_trace l k es)

  pub agrees : (k : Core) (es : List Event) → Invariant l k → Agrees k es
  unfolding core_trace plain_trace shown_all
  agrees k [] kept = record { same = refl; fresh = tt }
  agrees k (e ∷ es) kept =
      let r = feed_of l k e in
      let st = steps k e kept in
      let rest = agrees r.core es st.1 in
      record {
        same = ap (λ (ps : List Plain). shown e r ∷ ps) rest.same ∙ ap (λ (p : Plain). p ∷ plain_trace l p.state es) st.0;
        fresh = (st.1.fresh, rest.fresh);
      }

-- ---- the start

module _ (l : Lent) (s : State) (started : plain_start l s ≡ done) where
  pub record Starts : Type 0 where
    pub ready : judge_lent_of l ≡ done
    pub valid : valid_of s ≡ true
    pub decayed : judge_decays_of l.decays ≡ done
    pub judged : judge_controls_of l.bundle s ≡ done

  pub start_parts : Starts
  unfolding plain_start
  start_parts =
      let p = first_done (judge_lent_of l) _ started in
      let q = first_done (unless_of (valid_of s) Argument) _ p.1 in
      let r = first_done (judge_decays_of l.decays) (judge_controls_of l.bundle s) q.1 in
      record { ready = p.0; valid = unless_done (valid_of s) Argument q.0; decayed = r.0; judged = r.1 }

  pub start_core : (core_start_of l s).core ≡ core_of l s
  start_core = rw start_parts.judged refl

  pub start_agrees : (es : List Event) → Agrees l start_parts.ready start_parts.decayed (core_start_of l s).core es
  start_agrees es =
      rw start_core (agrees l start_parts.ready start_parts.decayed (core_of l s) es (fresh_invariant l s start_parts.valid start_parts.judged))

-- ---- the methods

-- A method called by its own name, and not through `feed`, gives the same where what is lent is right. So the theorem speaks of every method.
module _ (l : Lent) (k : Core) (ready : judge_lent_of l ≡ done) (decayed : judge_decays_of l.decays ≡ done) where
  change_is_event : (e : Event) → is_sample e ≡ false → quiet_of (change_of l.bundle k e) ≡ feed_event_of l k e
  change_is_event (CutoffLow v) h = refl
  change_is_event (CutoffHigh v) h = refl
  change_is_event (Routing v) h = refl
  change_is_event (Mode v) h = refl
  change_is_event (Sample sum energy) h = absurd (true≢false h)
  change_is_event Reset h = refl

  feed_is : (e : Event) → feed_of l k e ≡ cond (is_ok (judge_core_of k)) (feed_event_of l k e) (quiet_of (record { answer = judge_core_of k; core = k }))
  unfolding feed_of
  feed_is e = rw (ready, decayed, first_of_done (judge_core_of k)) refl

  pub method_is_feed : (e : Event) → is_sample e ≡ false → quiet_of (core_write_of l.bundle k e) ≡ feed_of l k e
  unfolding core_write_of judge_tables_of
  method_is_feed e other =
      let opened = (first_done (check_of l.bundle) (judge_length_of l.curves) ready).0 in
      rw (feed_is e, opened) (go (is_ok (judge_core_of k)))
    where
      go : (d : Bool) → quiet_of (cond d (change_of l.bundle k e) (record { answer = judge_core_of k; core = k }))
          ≡ cond d (feed_event_of l k e) (quiet_of (record { answer = judge_core_of k; core = k }))
      go true = change_is_event e other
      go false = refl

  -- the sample, lent bundle and curves alone
  pub sample_is_feed : (sum energy : Float) → core_sample_of (lent_of l.bundle l.curves) k sum energy ≡ feed_of l k (Sample sum energy)
  unfolding core_sample_of take_of
  sample_is_feed sum energy = rw (feed_is (Sample sum energy), ready) refl

-- DEMAND 3, the first half. For all that is lent, every state and every list of events: the start is answered as the plain machine answers it; and where it is not refused, every
-- sample, state and refusal of the list is the plain machine's, and after each event all that is kept equals what is worked out afresh from the state.
pub record Demand3 (l : Lent) (s : State) (es : List Event) : Type 0 where
  pub start : (core_start_of l s).answer ≡ plain_start l s
  pub same : plain_start l s ≡ done → shown_all es (core_trace l (core_start_of l s).core es) ≡ plain_trace l s es
  pub fresh : plain_start l s ≡ done → AllFresh l (core_trace l (core_start_of l s).core es)

pub demand_3 : (l : Lent) (s : State) (es : List Event) → Demand3 l s es
demand_3 l s es = record { start = refl; same = λ h. (start_agrees l s h es).same; fresh = λ h. (start_agrees l s h es).fresh }
