-- The finite domain over four substeps by a few tests: a capacitor's next state is finite only where its output and its state are. Assumes nothing.
use Prim.Native.Nat.{ℕ, zero, suc}
use mathlib.Core.Path.{◌≡◌, refl, sym, ◌∙◌}
use mathlib.Core.Bool.{Bool, true, false, ◌&&◌, cond}
use lib.Ieee.{Float, nan, inf, fin, add, sub, mul, neg, of_bits}
use lib.Ieee.Scale.{finite}
use Rattle.floats.specs.Arithmetic.{◌⊖◌, ◌⊗◌, f32}
use Rattle.integrator.specs.declared.Advanced.{Advanced}
use Rattle.integrator.specs.declared.Coefficients.{Coefficients}
use Rattle.integrator.specs.declared.IntegratorState.{IntegratorState}
use Rattle.integrator.specs.Integrator.{advance_of, high_finite, in_domain, substep_of, then_of, four_substeps_of}
use Rattle.integrator.specs.Tried.{tried_of, tried_after_of, with_finite_low_of}
use Rattle.std.specs.Prelude.{Option, Some, None}
use Rattle.std.specs.Bool.{then_some}

-- A value where a test holds, as `then_some` of bool gives it.
pub some_if : {A : Type 0} (b : Bool) (x : A) → then_some b x ≡ cond b (Some x) None
some_if true x = refl
some_if false x = refl

-- ---- one capacitor

output_finite : (x p : Float) → finite (f32 0x4000_0000 ⊗ x ⊖ p) ≡ true → finite x ≡ true
unfolding of_bits mul sub add neg
output_finite nan p h = h
output_finite (inf s) nan h = h
output_finite (inf true) (inf true) h = h
output_finite (inf true) (inf false) h = h
output_finite (inf false) (inf true) h = h
output_finite (inf false) (inf false) h = h
output_finite (inf s) (fin t m e) h = h
output_finite (fin s m e) p h = refl

-- the state that is taken away
taken_finite : (x p : Float) → finite (x ⊖ p) ≡ true → finite p ≡ true
unfolding sub add neg
taken_finite x (fin t m e) h = refl
taken_finite nan nan h = h
taken_finite (inf s) nan h = h
taken_finite (fin s m e) nan h = h
taken_finite nan (inf t) h = h
taken_finite (inf true) (inf true) h = h
taken_finite (inf true) (inf false) h = h
taken_finite (inf false) (inf true) h = h
taken_finite (inf false) (inf false) h = h
taken_finite (fin s m e) (inf t) h = h

-- ---- the tests of one substep

same : {A : Type 0} {x : A} (b : Bool) → cond b x x ≡ x
same true = refl
same false = refl

module _ (x : Option Advanced) where
  abbrev if_all : Bool → Option Advanced
  if_all b = cond b x None

  -- the energy e is finite, and an output is where its next state is
  tests : (b l h p q : Bool) {e : Bool} → e ≡ true → (b ≡ true → p ≡ true) → (l ≡ true → q ≡ true)
      → if_all (b && l && e && h && p && q) ≡ cond l (cond b (if_all h) None) None
  tests false false h p q is_e is_p is_q = refl
  tests false true h p q is_e is_p is_q = refl
  tests true false h p q is_e is_p is_q = refl
  tests true true false p q is_e is_p is_q = rw is_e
  tests true true true p q is_e is_p is_q = rw (is_e, is_p refl, is_q refl)

  no_energy : (b l h p q : Bool) {e : Bool} → e ≡ false → if_all (b && l && e && h && p && q) ≡ None
  no_energy false l h p q is_e = refl
  no_energy true false h p q is_e = refl
  no_energy true true h p q is_e = rw is_e

  in_turn : (b h l : Bool) → cond b (cond h (if_all l) None) None ≡ cond l (cond b (if_all h) None) None
  in_turn true true l = refl
  in_turn true false l = sym (same l)
  in_turn false h l = sym (same l)

-- ---- substeps in a row

module _ (driven : Float) (k : Coefficients) where
  abbrev step : IntegratorState → Advanced
  step s = advance_of s driven k

  abbrev tried : IntegratorState → Option Advanced
  tried s = tried_of s driven k

  abbrev band_finite : Advanced → Bool
  band_finite a = finite a.state.band_state

  abbrev low_finite : Advanced → Bool
  low_finite a = finite a.state.low_state

  -- a substep is one that was tried, if low's next state is finite
  substep_is : (s : IntegratorState) → finite s.filter_source_energy ≡ true → substep_of s driven k ≡ cond (low_finite (step s)) (tried s) None
  unfolding substep_of tried_of in_domain advance_of
  substep_is s e = tests _ _ _ _ _ _ e (output_finite _ _) (output_finite _ _)

  still_lost : (s : IntegratorState) → finite s.low_state ≡ false → low_finite (step s) ≡ false
  unfolding advance_of
  still_lost s h = go (low_finite (step s)) refl
    where
      go : (b : Bool) → low_finite (step s) ≡ b → b ≡ false
      go false e = refl
      go true e = sym (taken_finite _ _ e) ∙ h

  -- n more are tried after a substep, and low's last state is tested
  unfoldable rest : ℕ → Option Advanced → Option Advanced
  rest zero x = with_finite_low_of x
  rest (suc n) x = rest n (tried_after_of x driven k)

  rest_none : (n : ℕ) → rest n None ≡ None
  unfolding rest tried_after_of with_finite_low_of
  rest_none zero = refl
  rest_none (suc n) = rest_none n

  rest_tried : (n : ℕ) (s : IntegratorState) → rest n (tried s) ≡ cond (band_finite (step s)) (cond (high_finite (step s)) (rest n (Some (step s))) None) None
  unfolding tried_of
  rest_tried n s = by (band_finite (step s)) (high_finite (step s))
    where
      by : (b h : Bool) → rest n (cond b (cond h (Some (step s)) None) None) ≡ cond b (cond h (rest n (Some (step s))) None) None
      by true true = refl
      by true false = rest_none n
      by false h = rest_none n

  -- where low's state is not finite, no later one is
  lost : (n : ℕ) (s : IntegratorState) → finite s.low_state ≡ false → rest n (tried s) ≡ None
  unfolding rest tried_after_of with_finite_low_of
  lost zero s h = rw (rest_tried zero s, still_lost s h, same (high_finite (step s)), same (band_finite (step s)))
  lost (suc n) s h = rw (rest_tried (suc n) s, lost n (step s).state (still_lost s h), same (high_finite (step s)), same (band_finite (step s)))

  unfoldable more : ℕ → Option Advanced → Option Advanced
  more zero x = x
  more (suc n) x = more n (then_of x driven k)

  more_none : (n : ℕ) → more n None ≡ None
  unfolding more then_of
  more_none zero = refl
  more_none (suc n) = more_none n

  energy_kept : (s : IntegratorState) → finite s.filter_source_energy ≡ true → finite (step s).state.filter_source_energy ≡ true
  unfolding advance_of
  energy_kept s e = e

  row_told : (n : ℕ) (s : IntegratorState) → finite s.filter_source_energy ≡ true → rest n (tried s) ≡ more n (substep_of s driven k)
  unfolding more then_of rest tried_of tried_after_of with_finite_low_of
  row_told zero s e = rw (substep_is s e, rest_tried zero s) (in_turn (Some (step s)) (band_finite (step s)) (high_finite (step s)) (low_finite (step s)))
  row_told (suc n) s e =
      rw (substep_is s e, rest_tried (suc n) s) (go (low_finite (step s)) (band_finite (step s)) (high_finite (step s)) refl (row_told n (step s).state (energy_kept s e)))
    where
      go : (l b h : Bool) → low_finite (step s) ≡ l → rest n (tried (step s).state) ≡ more n (substep_of (step s).state driven k)
          → cond b (cond h (rest n (tried (step s).state)) None) None ≡ more n (then_of (cond l (cond b (cond h (Some (step s)) None) None) None) driven k)
      go true true true is_l told = told
      go true true false is_l told = sym (more_none n)
      go true false h is_l told = sym (more_none n)
      go false b h is_l told = rw (lost n (step s).state is_l, same h, same b) (sym (more_none n))

-- what `four_substeps` answers, by its test of the energy
module _ (s : IntegratorState) (driven : Float) (k : Coefficients) where
  pub four_told : finite s.filter_source_energy ≡ true
      → with_finite_low_of (tried_after_of (tried_after_of (tried_after_of (tried_of s driven k) driven k) driven k) driven k) ≡ four_substeps_of s driven k
  unfolding four_substeps_of more rest
  four_told e = row_told driven k 3 s e

  pub four_none : finite s.filter_source_energy ≡ false → None ≡ four_substeps_of s driven k
  unfolding four_substeps_of then_of substep_of in_domain advance_of
  four_none e = rw (no_energy (Some (advance_of s driven k)) _ _ _ _ _ e)
