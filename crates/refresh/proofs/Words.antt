-- The words of `refresh_filter_controls` and what follows from them. Assumes nothing.
use Prim.Native.Nat.{ℕ, ◌+◌, ◌*◌}
use mathlib.Core.Path.{◌≡◌, refl, subst, ◌∙◌}
use mathlib.Core.Bool.{Bool, true, ◌&&◌}
use mathlib.Core.List.{List, [], ◌∷◌, map}
use native.Mathlib.Omega.{arith}
use Rattle.answers.specs.declared.Buffer.TheVariants.{Bundle}
use Rattle.floats.proofs.Laws.{both}
use Rattle.wire.specs.Wire.{sixteen_at, u32_at, usable_at, all_usable}
use Rattle.bundle.specs.Layout.{integrator_gain_place, damping_place, source_gain_modulation_place}
use Rattle.bundle.specs.Opening.{judge_places_of}
use Rattle.bundle.proofs.Laws.{judge_append}
use Rattle.controls.specs.Controls.{integrator_gain_of}
use Rattle.controls.specs.Judging.{judge_filter_of}
use Rattle.refresh.specs.Refresh.{gains_of}
use Rattle.answers.specs.Answers.{done}

-- Entries whose words are each usable are judged so.
words_judged : (bundle places : List ℕ) → all_usable (map (u32_at bundle) places) ≡ true → judge_places_of Bundle bundle places ≡ done
unfolding judge_places_of
words_judged bundle [] e = refl
words_judged bundle (p ∷ rest) e =
    let w = both (usable_at bundle p) (all_usable (map (u32_at bundle) rest)) e in
    rw w.0 (words_judged bundle rest w.1)

-- the gains of the bins lie side by side
place_step : (code resonance bin : ℕ) → integrator_gain_place code resonance 0 + 4 * bin ≡ integrator_gain_place code resonance bin
place_step code resonance bin = omega arith

module _ (bundle : List ℕ) (code resonance : ℕ) where
  abbrev words : List ℕ
  words = sixteen_at bundle (integrator_gain_place code resonance 0)

  abbrev gain : ℕ → ℕ
  gain bin = integrator_gain_place code resonance bin

  abbrev places : List ℕ
  places =
      gain 0 ∷ gain 1 ∷ gain 2 ∷ gain 3 ∷ gain 4 ∷ gain 5 ∷ gain 6 ∷ gain 7 ∷ gain 8 ∷ gain 9 ∷ gain 10 ∷ gain 11 ∷ gain 12 ∷ gain 13 ∷ gain 14 ∷ gain 15 ∷ []

  pub gains_read : gains_of words ≡ integrator_gain_of bundle code resonance
  unfolding integrator_gain_of
  gains_read =
      simp (
        place_step code resonance 1,
        place_step code resonance 2,
        place_step code resonance 3,
        place_step code resonance 4,
        place_step code resonance 5,
        place_step code resonance 6,
        place_step code resonance 7,
        place_step code resonance 8,
        place_step code resonance 9,
        place_step code resonance 10,
        place_step code resonance 11,
        place_step code resonance 12,
        place_step code resonance 13,
        place_step code resonance 14,
        place_step code resonance 15,
      )

  words_read : words ≡ map (u32_at bundle) places
  words_read =
      simp (
        place_step code resonance 1,
        place_step code resonance 2,
        place_step code resonance 3,
        place_step code resonance 4,
        place_step code resonance 5,
        place_step code resonance 6,
        place_step code resonance 7,
        place_step code resonance 8,
        place_step code resonance 9,
        place_step code resonance 10,
        place_step code resonance 11,
        place_step code resonance 12,
        place_step code resonance 13,
        place_step code resonance 14,
        place_step code resonance 15,
      )

  -- whether every entry is usable, by the words
  abbrev others : List ℕ
  others = damping_place resonance ∷ source_gain_modulation_place code ∷ []

  abbrev each : Bool
  each = all_usable words && usable_at bundle (damping_place resonance) && usable_at bundle (source_gain_modulation_place code)

  pub all_usable_lem : each ≡ true → judge_filter_of bundle code resonance ≡ done
  unfolding judge_filter_of
  all_usable_lem e =
      let m = both (all_usable words && usable_at bundle (damping_place resonance)) (usable_at bundle (source_gain_modulation_place code)) e in
      let d = both (all_usable words) (usable_at bundle (damping_place resonance)) m.0 in
      let g : judge_places_of Bundle bundle places ≡ done = words_judged bundle places (subst (λ (w : List ℕ). all_usable w ≡ true) words_read d.0) in
      let o : judge_places_of Bundle bundle others ≡ done = words_judged bundle others (simp (d.1, m.1)) in
      judge_append Bundle bundle places others ∙ simp (g, o)
