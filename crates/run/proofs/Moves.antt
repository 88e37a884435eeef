-- Events in a row that are no samples: what the loop has done, and what is left of it, is the whole row; and the row is the plain machine's.
use Prim.Native.Nat.{ℕ, zero, suc, ◌+◌, ◌*◌, ◌≤◌, ◌<◌}
use native.Mathlib.Omega.{arith}
use native.Mathlib.Nat.{zero-add, add-zero}
use mathlib.Core.Path.{◌≡◌, refl, sym, ap, subst, ◌∙◌}
use mathlib.Core.Bool.{Bool, true, false, cond, true≢false}
use mathlib.Core.List.{List, [], ◌∷◌}
use lib.ListN.{length, drop}
use lib.Ieee.{Float}
use Rattle.answers.specs.declared.Refusal.TheVariants.{Domain}
use Rattle.answers.specs.Answers.{unless_of, Answer, done}
use Rattle.answers.proofs.Laws.{done_is}
use Rattle.transients.specs.declared.TransientState.{TransientState}
use Rattle.transients.specs.Transients.{charge_of, finite_charges_of}
use Rattle.control.specs.declared.FilterRegisters.{FilterRegisters}
use Rattle.control.specs.declared.State.{State}
use Rattle.control.specs.Registers.{starting_state, of_registers}
use Rattle.control.specs.Block.{valid_of}
use Rattle.controls.specs.Judging.{judge_controls_of}
use Rattle.bundle.specs.Reading.{read_of}
use Rattle.refresh.specs.Refresh.{state_gain_of, judged_of}
use Rattle.refresh.proofs.Parts.{judged_by_registers, state_gain}
use Rattle.script.specs.declared.Event.{Event}
use Rattle.script.specs.declared.Event.TheVariants.{CutoffLow, CutoffHigh, Routing, Mode, Sample, Reset}
use Rattle.script.specs.Script.{event_at, all_readable, events_in, sample_count_of, samples_of}
use Rattle.script.proofs.Laws.{slices_from, all_next, events_next, all_stop, events_end}
use Rattle.filter.specs.Lent.{Lent}
use Rattle.filter.specs.Plain.{judge_change_of, plain_change, plain_step}
use Rattle.filter.proofs.Demand3.{change_parts}
use Rattle.run.specs.declared.Moved.{Moved}
use Rattle.run.specs.Run.{Ran, went, play_of}
use Rattle.run.specs.Rows.{Moves, asked_of, next_of, charges_of, resets_of, no_moves, one_move, moves_of}
use Rattle.run.specs.Parts.{From, done_with, moves_end}
use Rattle.run.proofs.Changes.{resonance_small, next_valid, with_next, quiet_next, charged_next, reset_next, controls_judged, controls_refused, quiet_judged, charge_judged, state_gain_told, plain_is}
use Rattle.run.proofs.Good.{Good}
use Rattle.std.specs.Prelude.{Result, Ok, Err, is_ok, Some, None}
use Rattle.answers.specs.declared.Refusal.{Refusal}

-- ---- the loop

module _ (bundle script : List ℕ) (count start : ℕ) (from : State) where
  abbrev left : ℕ → List Event
  left i = events_in (slices_from script count i)

  abbrev moves : State → ℕ → Moves
  moves s i = moves_of bundle s (left i)

  -- before event i
  pub record Sofar (s : State) (g : Float) (i : ℕ) : Type 0 where
    pub within : i ≤ count
    pub readable : all_readable (slices_from script count i) ≡ true
    pub valid : valid_of s ≡ true
    pub judged : judge_controls_of bundle s ≡ done
    pub gained : g ≡ state_gain_of bundle s
    pub ends : moves_end bundle i (moves s i) ≡ moves_end bundle start (moves from start)

  pub sofar_start : start ≤ count → all_readable (slices_from script count start) ≡ true → {g : Float} → From bundle from g → Sofar from g start
  sofar_start w r f = record { within = w; readable = r; valid = f.valid; judged = f.judged; gained = f.gained; ends = refl }

  module _ (s : State) (g : Float) (i : ℕ) (far : Sofar s g i) where
    abbrev Ends : Answer → Type 0
    Ends answer = ◌≡◌ {A = Moved} (record { answer = answer; events = i; state = s; gain = g }) (moves_end bundle start (moves from start))

    read_done : judge_controls_of bundle s ≡ done → g ≡ state_gain_of bundle s → judged_of bundle s ≡ done_with g
    unfolding read_of
    read_done judged gained = rw (judged, gained, state_gain bundle s (resonance_small s far.valid) judged) refl

    pub known : judged_of bundle (of_registers s.registers) ≡ done_with g
    known = judged_by_registers bundle s ∙ read_done far.judged far.gained

    stops : (answer : Answer) → moves s i ≡ no_moves answer s → Ends answer
    stops answer h = rw far.gained (sym (ap (moves_end bundle i) h ∙ rw (add-zero i) refl) ∙ far.ends)

    pub at_end : count ≤ i → ◌≡◌ {A = Moved} (record { answer = done; events = count; state = s; gain = g }) (moves_end bundle start (moves from start))
    unfolding moves_of
    at_end h =
        let within = far.within in
        let last : i ≡ count = omega arith in
        subst (λ (n : ℕ). ◌≡◌ {A = Moved} (record { answer = done; events = n; state = s; gain = g }) (moves_end bundle start (moves from start))) last
        (stops done (ap (moves_of bundle s) (events_end script count i h)))

    module _ (more : i < count) where
      pub unreadable : event_at script (8 + 12 * i) ≡ None → ⊥
      unreadable h = true≢false (sym far.readable ∙ all_stop script count i more h)

      module _ (e : Event) (is_e : event_at script (8 + 12 * i) ≡ Some e) {wanted : Bool} (asks : wanted ≡ (asked_of e).sample) where
        asked_is : (b : Bool) → wanted ≡ b → (asked_of e).sample ≡ b
        asked_is b h = sym asks ∙ h

        next : left i ≡ e ∷ left (i + 1)
        next = events_next script count i more e is_e

        pub sampled : wanted ≡ true → Ends done
        unfolding moves_of
        sampled a = stops done (ap (moves_of bundle s) next ∙ rw (asked_is true a) refl)

        module _ (other : wanted ≡ false) {r : FilterRegisters} (is_r : r ≡ (next_of (of_registers s.registers) e).registers) {j : Result Float Refusal} (is_j : j ≡ judged_of bundle (of_registers r)) where
          -- refused, with what is judged of the event
          refuses : (answer : Answer) → answer ≡ judge_change_of bundle (next_of s e) → is_ok answer ≡ false → Ends answer
          unfolding moves_of
          refuses answer is off = stops answer (ap (moves_of bundle s) next ∙ rw (asked_is false other, ← is, off) refl)

          pub refused : (refusal : Refusal) → j ≡ Err refusal → Ends (Err refusal)
          refused refusal h = refuses (Err refusal) (controls_refused s far.valid e is_r bundle is_j refusal h) refl

          module _ {gain : Float} (passed : j ≡ Ok gain) where
            -- the state after a turn, with the registers put in last
            abbrev after : State → State
            after x = with_next s far.valid e is_r x

            goes : (x : State) → x ≡ next_of s e → judge_change_of bundle (next_of s e) ≡ done → Sofar x gain (i + 1)
            unfolding moves_of
            goes x is judged =
                let n = next_of s e in
                let parts = change_parts bundle n judged in
                let whole : moves s i ≡ one_move (moves n (i + 1)) = ap (moves_of bundle s) next ∙ rw (asked_is false other, judged) refl in
                let events : i + 1 + (moves n (i + 1)).events ≡ i + suc (moves n (i + 1)).events = omega arith in
                rw is
                (record {
                  within = omega arith;
                  readable = sym (all_next script count i more e is_e) ∙ far.readable;
                  valid = next_valid s far.valid e parts.1;
                  judged = parts.0;
                  gained = state_gain_told s far.valid e is_r bundle is_j passed (resonance_small n (next_valid s far.valid e parts.1));
                  ends = rw events (sym (ap (moves_end bundle i) whole) ∙ far.ends);
                })

            module _ {charges : Bool} (is_charges : charges ≡ charges_of e) where
              -- what is known where the charges are moved or left: the event is judged, and but for a reset the state is the next one
              pub record Charged (x : State) : Type 0 where
                pub judged : judge_change_of bundle (next_of s e) ≡ done
                pub same : resets_of e ≡ false → after x ≡ next_of s e

              pub charge_none : charges ≡ false → {x : State} → x ≡ s → Charged x
              charge_none h is =
                  let c = sym is_charges ∙ h in
                  record { judged = quiet_judged s far.valid e is_r bundle is_j passed c; same = λ d. ap after is ∙ quiet_next s far.valid e is_r c d }

              module _ (h : charges ≡ true) {t : TransientState} (is_t : t ≡ charge_of s.transients r.volume) {f : Bool} (is_f : f ≡ finite_charges_of t) where
                judged_by : judge_change_of bundle (next_of s e) ≡ unless_of f Domain
                judged_by = charge_judged s far.valid e is_r bundle is_j passed (sym is_charges ∙ h) is_t ∙ rw is_f refl

                pub overflows : f ≡ false → Ends (Err Domain)
                overflows off = refuses (Err Domain) (sym (judged_by ∙ rw off refl)) refl

                pub charge_goes : f ≡ true → {x : State} → x ≡ record { registers = s.registers; integrator = s.integrator; transients = t } → Charged x
                charge_goes on is =
                    record {
                      judged = judged_by ∙ rw on refl;
                      same = λ d. ap after is ∙ rw is_t (charged_next s far.valid e is_r (sym is_charges ∙ h));
                    }

              module _ {x : State} (charged : Charged x) {resets : Bool} (is_resets : resets ≡ resets_of e) where
                pub reset_none : resets ≡ false → {y : State} → y ≡ x → Sofar (after y) gain (i + 1)
                reset_none h {y} is = goes (after y) (ap after is ∙ charged.same (sym is_resets ∙ h)) charged.judged

                pub reset_goes : resets ≡ true → {n : State} → n ≡ starting_state → {y : State} → y ≡ record { registers = x.registers; integrator = n.integrator; transients = n.transients }
                    → Sofar (after y) gain (i + 1)
                reset_goes h is_n {y} is = goes (after y) (ap after is ∙ rw is_n (reset_next s far.valid e is_r (sym is_resets ∙ h))) charged.judged

-- ---- the row is the plain machine's

-- no sample is passed over
other_none : (e : Event) → (asked_of e).sample ≡ false → sample_count_of e ≡ 0
other_none (CutoffLow v) h = refl
other_none (CutoffHigh v) h = refl
other_none (Routing v) h = refl
other_none (Mode v) h = refl
other_none (Sample sum energy) h = absurd (true≢false h)
other_none Reset h = refl

module _ (lent : Lent) where
  -- the row, and then the rest if it was not refused
  abbrev moves_then : Moves → Ran → Ran
  moves_then m r =
      cond (is_ok m.answer)
      (record { answer = r.answer; events = m.events + r.events; samples = r.samples; state = r.state })
      (record { answer = m.answer; events = m.events; samples = []; state = m.state })

  pub record MovesLaw (s : State) (es : List Event) (m : Moves) : Type 0 where
    pub same : play_of lent s es ≡ moves_then m (play_of lent m.state (drop m.events es))
    pub good : Good lent m.state
    pub within : m.events ≤ length es
    pub rest : samples_of es ≡ samples_of (drop m.events es)

  module _ (s : State) (good : Good lent s) where
    quiet : (es : List Event) → MovesLaw s es (no_moves done s)
    quiet es = record { same = rw (zero-add (play_of lent s es).events) refl; good = good; within = omega arith; rest = refl }

    module _ (e : Event) (es : List Event) (other : (asked_of e).sample ≡ false) where
      plain : plain_step lent s e ≡ plain_change lent s (next_of s e)
      plain = plain_is lent s e other

      stop : is_ok (judge_change_of lent.bundle (next_of s e)) ≡ false → MovesLaw s (e ∷ es) (no_moves (judge_change_of lent.bundle (next_of s e)) s)
      unfolding play_of
      stop h = record { same = rw (plain, h, h) refl; good = good; within = omega arith; rest = refl }

      more : is_ok (judge_change_of lent.bundle (next_of s e)) ≡ true → (m : Moves) → MovesLaw (next_of s e) es m → MovesLaw s (e ∷ es) (one_move m)
      unfolding play_of samples_of
      more h m law =
          record {
            same = rw (plain, h) (ap (went (record { answer = done; sample = []; state = next_of s e })) law.same ∙ on (is_ok m.answer) (play_of lent m.state (drop m.events es)));
            good = law.good;
            within = omega (arith, law.within);
            rest = omega (arith, law.rest, other_none e other);
          }
        where
          on : (d : Bool) (r : Ran)
              → went (record { answer = done; sample = []; state = next_of s e })
              (cond d (record { answer = r.answer; events = m.events + r.events; samples = r.samples; state = r.state })
              (record { answer = m.answer; events = m.events; samples = []; state = m.state }))
              ≡ cond d (record { answer = r.answer; events = suc m.events + r.events; samples = r.samples; state = r.state })
              (record { answer = m.answer; events = suc m.events; samples = []; state = m.state })
          on true r = let k : suc (m.events + r.events) ≡ suc m.events + r.events = omega arith in rw k refl
          on false r = refl

  pub moves_law : (s : State) (es : List Event) → Good lent s → MovesLaw s es (moves_of lent.bundle s es)
  unfolding moves_of
  moves_law s [] good = quiet s good []
  moves_law s (e ∷ es) good = go (asked_of e).sample refl (is_ok (judge_change_of lent.bundle (next_of s e))) refl (λ g. moves_law (next_of s e) es g)
    where
      next_good : (asked_of e).sample ≡ false → is_ok (judge_change_of lent.bundle (next_of s e)) ≡ true → Good lent (next_of s e)
      next_good a h =
          let p = change_parts lent.bundle (next_of s e) (done_is (judge_change_of lent.bundle (next_of s e)) h) in
          record { valid = next_valid s good.valid e p.1; judged = p.0 }

      go : (a : Bool) → (asked_of e).sample ≡ a → (d : Bool) → is_ok (judge_change_of lent.bundle (next_of s e)) ≡ d
          → (Good lent (next_of s e) → MovesLaw (next_of s e) es (moves_of lent.bundle (next_of s e) es))
          → MovesLaw s (e ∷ es) (cond a (no_moves done s) (cond d (one_move (moves_of lent.bundle (next_of s e) es)) (no_moves (judge_change_of lent.bundle (next_of s e)) s)))
      go true a d h on = quiet s good (e ∷ es)
      go false a true h on = more s good e es a h (moves_of lent.bundle (next_of s e) es) (on (next_good a h))
      go false a false h on = stop s good e es a h

  -- where it is not refused, an event that is no sample is gone
  pub moves_some : (s : State) (e : Event) (es : List Event) → (asked_of e).sample ≡ false → is_ok (moves_of lent.bundle s (e ∷ es)).answer ≡ true
      → zero < (moves_of lent.bundle s (e ∷ es)).events
  unfolding moves_of
  moves_some s e es other = rw other (go (is_ok (judge_change_of lent.bundle (next_of s e))) refl)
    where
      go : (d : Bool) → is_ok (judge_change_of lent.bundle (next_of s e)) ≡ d
          → is_ok (cond d (one_move (moves_of lent.bundle (next_of s e) es)) (no_moves (judge_change_of lent.bundle (next_of s e)) s)).answer ≡ true
          → zero < (cond d (one_move (moves_of lent.bundle (next_of s e) es)) (no_moves (judge_change_of lent.bundle (next_of s e)) s)).events
      go true h done = omega arith
      go false h done = absurd (true≢false (sym done ∙ h))
