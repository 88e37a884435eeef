-- The controls judged by parts: of what `refresh_filter_controls` works out from usable entries every number is finite.
use Prim.Native.Nat.{ℕ, ◌<◌}
use mathlib.Core.Path.{◌≡◌, refl, sym, ap, ◌∙◌}
use mathlib.Core.Bool.{Bool, true, false, cond}
use mathlib.Core.List.{List}
use native.Mathlib.Omega.{arith}
use lib.Dec.{lit≤, ltb}
use lib.IntN.{ℤ, pos, negsuc, ◌+ℤ◌, nat_abs}
use lib.Signed.{lt_z}
use borrow.Author.Tests.{ltb-false}
use lib.ListN.{get_or, length}
use lib.Ieee.{Float, nan, inf, fin, binary32, of_bits, of_int, add, mul, div}
use lib.Ieee.Scale.{finite}
use Rattle.constants.specs.Drives.{drive_of, input_drive_of, feedback_drive_of, input_drives_of, feedback_drives_of}
use Rattle.answers.specs.declared.Buffer.TheVariants.{Bundle}
use Rattle.answers.specs.Answers.{first_of, Answer, done}
use Rattle.answers.proofs.Laws.{done_is, first_done}
use Rattle.wire.specs.Wire.{usable_of, u32_at}
use Rattle.wire.proofs.Magnitude.{at_most, usable_is}
use Rattle.bundle.specs.Opening.{entry_at}
use Rattle.bundle.specs.Reading.{read_of}
use Rattle.bundle.proofs.Laws.{judge_done}
use Rattle.control.specs.declared.State.{State}
use Rattle.control.specs.Registers.{displaced_of, of_registers, effective_cutoff_of}
use Rattle.controls.specs.declared.FilterControls.{FilterControls}
use Rattle.controls.specs.declared.OutputControls.{OutputControls}
use Rattle.controls.specs.declared.ControlCache.{ControlCache}
use Rattle.controls.specs.Controls.{integrator_gain_of, refresh_filter_controls_of, refresh_mode_output_gain_of, refresh_register_output_state_of, controls_of}
use Rattle.controls.specs.Judging.{filter_places_of, judge_filter_of, all_finite, finite_filter_of, finite_controls_of, judge_entries_of, judge_domain_of, judge_controls_of}
use Rattle.answers.specs.declared.Refusal.{Refusal}
use Rattle.bundle.proofs.Reading.{read_value, read_refused}
use Rattle.refresh.specs.Refresh.{judge_gain_of, read_mode_output_gain_of, state_gain_of, judged_of, refresh_of}
use Rattle.finite.proofs.Finite.{high_coupling_finite, band_coupling_finite, position_finite, feedback_finite, modulation_finite, lift_finite}
use Rattle.std.specs.Prelude.{Result, Ok, Err}

at_most_finite : (k : ℕ) (x : Float) → at_most k x ≡ true → finite x ≡ true
at_most_finite k nan e = e
at_most_finite k (inf s) e = e
at_most_finite k (fin s m e) h = refl

usable_finite : (b : ℕ) → usable_of b ≡ true → finite (of_bits binary32 b) ≡ true
usable_finite b e = at_most_finite 1024 (of_bits binary32 b) (sym (usable_is b) ∙ e)

drives_finite : (all_finite input_drives_of ≡ true) × (all_finite feedback_drives_of ≡ true)
unfolding input_drives_of feedback_drives_of input_drive_of feedback_drive_of drive_of add mul div of_int of_bits
drives_finite = (refl, refl)

module _ (bundle : List ℕ) (code resonance : ℕ) where
  entry : judge_filter_of bundle code resonance ≡ done → (i : ℕ) → i < length (filter_places_of code resonance) → finite (entry_at bundle (get_or (filter_places_of code resonance) i 0)) ≡ true
  unfolding judge_filter_of
  entry d i h = usable_finite (u32_at bundle (get_or (filter_places_of code resonance) i 0)) (judge_done Bundle bundle (filter_places_of code resonance) d i h)

  pub filter_finite : code < 2048 → resonance < 256 → judge_filter_of bundle code resonance ≡ done → finite_filter_of (refresh_filter_controls_of bundle code resonance) ≡ true
  unfolding finite_filter_of refresh_filter_controls_of integrator_gain_of of_bits
  filter_finite c r d =
      simp (
        entry d 0 (lit≤ tt),
        entry d 1 (lit≤ tt),
        entry d 2 (lit≤ tt),
        entry d 3 (lit≤ tt),
        entry d 4 (lit≤ tt),
        entry d 5 (lit≤ tt),
        entry d 6 (lit≤ tt),
        entry d 7 (lit≤ tt),
        entry d 8 (lit≤ tt),
        entry d 9 (lit≤ tt),
        entry d 10 (lit≤ tt),
        entry d 11 (lit≤ tt),
        entry d 12 (lit≤ tt),
        entry d 13 (lit≤ tt),
        entry d 14 (lit≤ tt),
        entry d 15 (lit≤ tt),
        entry d 16 (lit≤ tt),
        entry d 17 (lit≤ tt),
        high_coupling_finite code c,
        band_coupling_finite code c,
        position_finite resonance r,
        feedback_finite resonance r,
        modulation_finite resonance r,
        lift_finite resonance r,
        drives_finite.0,
        drives_finite.1,
      )

-- The effective cutoff is a code of the DAC.
displaced_small : (y : ℤ) → cond (lt_z y (pos 0)) 0 (cond (lt_z (pos 2047) y) 2047 (nat_abs y)) < 2048
displaced_small (pos n) = go (lt_z (pos n) (pos 0)) (ltb 2047 n) refl
  where
    go : (a b : Bool) → ltb 2047 n ≡ b → cond a 0 (cond b 2047 n) < 2048
    go true b h = lit≤ tt
    go false true h = lit≤ tt
    go false false h = omega (arith, ltb-false 2047 n h)
displaced_small (negsuc n) = lit≤ tt

effective_small : (s : State) → effective_cutoff_of s < 2048
unfolding displaced_of
effective_small s = displaced_small (pos s.registers.cutoff +ℤ s.registers.cutoff_dac_displacement_codes)

-- Judged by parts, as the code does it: the filter's entries, then the gain.
pub judged_by_parts : (bundle : List ℕ) (s : State) → s.registers.resonance < 256
    → judge_controls_of bundle s ≡ first_of (judge_filter_of bundle (effective_cutoff_of s) s.registers.resonance) (judge_gain_of bundle s.registers (effective_cutoff_of s))
unfolding judge_controls_of judge_entries_of judge_domain_of judge_gain_of finite_controls_of controls_of
judged_by_parts bundle s r =
    go (judge_filter_of bundle (effective_cutoff_of s) s.registers.resonance) refl
  where
    go : (filter : Answer) → judge_filter_of bundle (effective_cutoff_of s) s.registers.resonance ≡ filter
        → judge_controls_of bundle s ≡ first_of filter (judge_gain_of bundle s.registers (effective_cutoff_of s))
    go (Ok _) is = simp (is, filter_finite bundle (effective_cutoff_of s) s.registers.resonance (effective_small s) r is)
    go (Err refusal) is = simp is

-- of a state its registers alone are read
pub judged_by_registers : (bundle : List ℕ) (s : State) → judged_of bundle (of_registers s.registers) ≡ judged_of bundle s
unfolding judge_controls_of judge_entries_of judge_domain_of controls_of
judged_by_registers bundle s = refl

-- where the controls of a state are not refused, its gain is that of its controls
pub state_gain : (bundle : List ℕ) (s : State) → s.registers.resonance < 256 → judge_controls_of bundle s ≡ done
    → state_gain_of bundle s ≡ refresh_mode_output_gain_of bundle s.registers (effective_cutoff_of s)
unfolding read_of
state_gain bundle s small h =
    rw (first_done (judge_filter_of bundle (effective_cutoff_of s) s.registers.resonance) _ (sym (judged_by_parts bundle s small) ∙ h)).1 refl

-- ---- what `?` hands on

module _ (bundle : List ℕ) (s : State) (small : s.registers.resonance < 256) where
  abbrev filter : Answer
  filter = judge_filter_of bundle (effective_cutoff_of s) s.registers.resonance

  pub filter_refused : {r : Refusal} → filter ≡ Err r → Err r ≡ judged_of bundle s
  unfolding read_of
  filter_refused h = rw (judged_by_parts bundle s small, h) refl

  pub gain_read : filter ≡ done → read_mode_output_gain_of bundle s.registers (effective_cutoff_of s) ≡ judged_of bundle s
  gain_read h = rw (judged_by_parts bundle s small, h) refl

module _ (bundle : List ℕ) (s : State) where
  pub refused : {r : Refusal} → judged_of bundle s ≡ Err r → Err r ≡ refresh_of bundle s
  refused h = rw (read_refused _ _ (sym h)) refl

  pub refreshed : {gain : Float} → judged_of bundle s ≡ Ok gain → {f : FilterControls} → f ≡ refresh_filter_controls_of bundle (effective_cutoff_of s) s.registers.resonance
      → {o : OutputControls} → o ≡ refresh_register_output_state_of s.registers
      → ◌≡◌ {A = Result ControlCache Refusal} (Ok (record { filter = f; mode_output_gain = gain; output = o })) (refresh_of bundle s)
  unfolding controls_of
  refreshed h f o = let read = read_value _ _ (sym h) in rw (read.0, read.1, f, o) refl
