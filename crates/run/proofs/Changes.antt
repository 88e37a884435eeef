-- An event that is no sample: the state that it leads to is valid where it is not refused, and the plain machine goes to it.
use mathlib.Core.Path.{◌≡◌, refl, sym, ap, ◌∙◌}
use mathlib.Core.Bool.{true, false, true≢false}
use Prim.Native.Nat.{ℕ, ◌<◌}
use native.Mathlib.Omega.{arith}
use mathlib.Core.List.{List}
use Rattle.answers.specs.declared.Refusal.TheVariants.{Domain}
use Rattle.answers.specs.Answers.{unless_of, done}
use Rattle.transients.specs.declared.TransientState.{TransientState}
use Rattle.transients.specs.Transients.{charge_of, finite_transients_of, finite_charges_of}
use Rattle.transients.proofs.Laws.{starting_finite, charge_finite}
use Rattle.control.specs.declared.FilterRegisters.{FilterRegisters}
use Rattle.control.specs.declared.State.{State}
use Rattle.control.specs.Registers.{starting_state, of_registers, effective_cutoff_of}
use Rattle.control.specs.Block.{valid_of}
use Rattle.control.proofs.Valid.{valid_ranges, low_valid, high_valid, routing_valid, mode_valid, starting_valid}
use Rattle.controls.specs.Controls.{refresh_mode_output_gain_of}
use Rattle.controls.specs.Judging.{judge_controls_of}
use Rattle.bundle.proofs.Reading.{read_value, read_refused}
use Rattle.refresh.specs.Refresh.{judged_of, state_gain_of}
use Rattle.refresh.proofs.Parts.{judged_by_registers, state_gain}
use Rattle.script.specs.declared.Event.{Event}
use Rattle.script.specs.declared.Event.TheVariants.{CutoffLow, CutoffHigh, Routing, Mode, Sample, Reset}
use Rattle.filter.specs.Lent.{Lent}
use Rattle.filter.specs.Plain.{judge_change_of, plain_change, plain_step}
use Rattle.filter.proofs.Demand3.{change_quiet}
use Rattle.run.specs.Rows.{asked_of, next_of, charges_of, resets_of}
use Rattle.std.specs.Prelude.{Result, Ok, Err, Float}
use Rattle.answers.specs.declared.Refusal.{Refusal}

-- A valid state's resonance is a nibble.
pub resonance_small : (s : State) → valid_of s ≡ true → s.registers.resonance < 256
resonance_small s v = let r = (valid_ranges s v).resonance in omega arith

module _ (s : State) (v : valid_of s ≡ true) where
  kept : finite_transients_of s.transients ≡ true
  kept = (valid_ranges s v).transients

  pub next_valid : (e : Event) → finite_transients_of (next_of s e).transients ≡ true → valid_of (next_of s e) ≡ true
  next_valid (CutoffLow value) f = low_valid s v value
  next_valid (CutoffHigh value) f = high_valid s v value
  next_valid (Routing value) f = routing_valid s v value
  next_valid (Mode value) f = mode_valid s v value f
  next_valid (Sample sum energy) f = v
  next_valid Reset f = starting_valid

  -- only a write of the volume can leave a float that is not finite
  quiet_finite : (e : Event) → charges_of e ≡ false → finite_transients_of (next_of s e).transients ≡ true
  quiet_finite (CutoffLow value) h = kept
  quiet_finite (CutoffHigh value) h = kept
  quiet_finite (Routing value) h = kept
  quiet_finite (Mode value) h = absurd (true≢false h)
  quiet_finite (Sample sum energy) h = kept
  quiet_finite Reset h = starting_finite

  -- as the code has it: the registers first, then of the floats what the event moves
  module _ (e : Event) {r : FilterRegisters} (is_r : r ≡ (next_of (of_registers s.registers) e).registers) where
    registers_are : r ≡ (next_of s e).registers
    registers_are = is_r ∙ go e
      where
        go : (e : Event) → (next_of (of_registers s.registers) e).registers ≡ (next_of s e).registers
        go (CutoffLow value) = refl
        go (CutoffHigh value) = refl
        go (Routing value) = refl
        go (Mode value) = refl
        go (Sample sum energy) = refl
        go Reset = refl

    -- the state that the code then has, with the registers put in last
    abbrev pub with_next : State → State
    with_next x = record { registers = r; integrator = x.integrator; transients = x.transients }

    pub quiet_next : charges_of e ≡ false → resets_of e ≡ false → with_next s ≡ next_of s e
    quiet_next c d = rw registers_are (go e c d)
      where
        go : (e : Event) → charges_of e ≡ false → resets_of e ≡ false → ◌≡◌ {A = State} (record { registers = (next_of s e).registers; integrator = s.integrator; transients = s.transients }) (next_of s e)
        go (CutoffLow value) c d = refl
        go (CutoffHigh value) c d = refl
        go (Routing value) c d = refl
        go (Mode value) c d = absurd (true≢false c)
        go (Sample sum energy) c d = refl
        go Reset c d = absurd (true≢false d)

    pub charged_next : charges_of e ≡ true → ◌≡◌ {A = State} (record { registers = r; integrator = s.integrator; transients = charge_of s.transients r.volume }) (next_of s e)
    charged_next c = rw registers_are (go e c)
      where
        go : (e : Event) → charges_of e ≡ true
            → ◌≡◌ {A = State} (record { registers = (next_of s e).registers; integrator = s.integrator; transients = charge_of s.transients (next_of s e).registers.volume }) (next_of s e)
        go (CutoffLow value) c = absurd (true≢false (sym c))
        go (CutoffHigh value) c = absurd (true≢false (sym c))
        go (Routing value) c = absurd (true≢false (sym c))
        go (Mode value) c = refl
        go (Sample sum energy) c = absurd (true≢false (sym c))
        go Reset c = absurd (true≢false (sym c))

    pub reset_next : resets_of e ≡ true → with_next starting_state ≡ next_of s e
    reset_next d = rw registers_are (go e d)
      where
        go : (e : Event) → resets_of e ≡ true
            → ◌≡◌ {A = State} (record { registers = (next_of s e).registers; integrator = starting_state.integrator; transients = starting_state.transients }) (next_of s e)
        go (CutoffLow value) d = absurd (true≢false (sym d))
        go (CutoffHigh value) d = absurd (true≢false (sym d))
        go (Routing value) d = absurd (true≢false (sym d))
        go (Mode value) d = absurd (true≢false (sym d))
        go (Sample sum energy) d = absurd (true≢false (sym d))
        go Reset d = refl

    -- what the controls refuse is refused
    pub controls_judged : (bundle : List ℕ) {j : Result Float Refusal} → j ≡ judged_of bundle (of_registers r) → j ≡ judged_of bundle (next_of s e)
    controls_judged bundle is_j = is_j ∙ rw registers_are (judged_by_registers bundle (next_of s e))

    pub controls_refused : (bundle : List ℕ) {j : Result Float Refusal} → j ≡ judged_of bundle (of_registers r) → (refusal : Refusal) → j ≡ Err refusal → Err refusal ≡ judge_change_of bundle (next_of s e)
    unfolding judge_change_of
    controls_refused bundle is_j refusal h = rw (read_refused _ _ (sym h ∙ controls_judged bundle is_j)) refl

    module _ (bundle : List ℕ) {j : Result Float Refusal} (is_j : j ≡ judged_of bundle (of_registers r)) {gain : Float} (judged : j ≡ Ok gain) where
      controls_done : judge_controls_of bundle (next_of s e) ≡ done
      controls_done = (read_value _ _ (sym judged ∙ controls_judged bundle is_j)).0

      pub gain_told : gain ≡ refresh_mode_output_gain_of bundle (next_of s e).registers (effective_cutoff_of (next_of s e))
      gain_told = (read_value _ _ (sym judged ∙ controls_judged bundle is_j)).1

      -- the same, as the gain of a state
      pub state_gain_told : (next_of s e).registers.resonance < 256 → gain ≡ state_gain_of bundle (next_of s e)
      state_gain_told small = gain_told ∙ sym (state_gain bundle (next_of s e) small controls_done)

      -- an event that charges nothing
      pub quiet_judged : charges_of e ≡ false → judge_change_of bundle (next_of s e) ≡ done
      quiet_judged h = sym (change_quiet bundle (next_of s e) (quiet_finite e h)) ∙ controls_done

      -- a write of the volume, by its charges
      module _ (h : charges_of e ≡ true) {t : TransientState} (is_t : t ≡ charge_of s.transients r.volume) where
        pub charge_judged : judge_change_of bundle (next_of s e) ≡ unless_of (finite_charges_of t) Domain
        unfolding judge_change_of
        charge_judged =
            let moved = ap (λ (x : State). x.transients) (charged_next h) in
            rw (controls_done, ← moved, is_t, charge_finite s.transients r.volume kept) refl

pub plain_is : (lent : Lent) (s : State) (e : Event) → (asked_of e).sample ≡ false → plain_step lent s e ≡ plain_change lent s (next_of s e)
plain_is lent s (CutoffLow v) h = refl
plain_is lent s (CutoffHigh v) h = refl
plain_is lent s (Routing v) h = refl
plain_is lent s (Mode v) h = refl
plain_is lent s (Sample sum energy) h = absurd (true≢false h)
plain_is lent s Reset h = refl
