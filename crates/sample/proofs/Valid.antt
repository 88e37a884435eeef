-- A sample taken from finite f32 numbers leaves finite f32 numbers, so that a valid state stays valid. Assumes nothing.
use Prim.Native.Nat.{ℕ}
use mathlib.Core.Path.{◌≡◌, refl, sym}
use mathlib.Core.Bool.{Bool, true, false, cond, ◌&&◌, true≢false}
use mathlib.Core.List.{List}
use lib.Dec.{T}
use lib.Ieee.{Float, binary32, fits}
use lib.Ieee.Fits.{add-fits, sub-fits}
use lib.Ieee.Scale.{finite}
use Rattle.constants.specs.Values as K
use Rattle.answers.specs.declared.Refusal.TheVariants.{Domain}
use Rattle.floats.specs.Arithmetic.{◌⊖◌, ◌⊗◌}
use Rattle.integrator.specs.declared.IntegratorState.{IntegratorState}
use Rattle.integrator.specs.declared.Coefficients.{Coefficients}
use Rattle.integrator.specs.declared.Advanced.{Advanced}
use Rattle.integrator.specs.Integrator.{advance_of, in_domain, substep_of, then_of, four_substeps_of}
use Rattle.mixing.specs.declared.MixingTopology.{MixingTopology}
use Rattle.floats.specs.Floats.{finite_f32_of}
use Rattle.control.specs.Block.{finite_floats_of}
use Rattle.controls.specs.declared.FilterControls.{FilterControls}
use Rattle.controls.specs.declared.ControlCache.{ControlCache}
use Rattle.sample.specs.declared.Outputs.{Outputs}
use Rattle.sample.specs.declared.Sampled.{Sampled}
use Rattle.sample.specs.Sample.{is_idle_of, tracked_energy_of, fed_energy_of, summer_transfer_of, moved_of, at_rest_of, advance_filter_core_of, select_filter_output_of, judge_sample_of, taken_of, filter_sample_of}
use Rattle.answers.specs.Answers.{Answer}
use Rattle.std.specs.Prelude.{Err, is_ok, Option, Some, None, Result, Ok}
use Rattle.answers.specs.declared.Refusal.{Refusal}
use Rattle.std.specs.Result.{result_and}

-- the numbers of the state after it, where there is one
unfoldable finite_after : Option Advanced → Bool
finite_after (Some a) = finite_floats_of a.state
finite_after None = true

unfoldable pub finite_taken : Result Sampled Refusal → Bool
finite_taken (Ok t) = finite_floats_of t.state
finite_taken (Err refusal) = true

-- ---- the floats

holds : (b : Bool) → T b → b ≡ true
holds true h = refl
holds false h = absurd h

-- six tests that hold, three of which fit
six : (a b c d e f : Bool) {x y z : Bool} → x ≡ true → y ≡ true → z ≡ true → (a && b && c && d && e && f) ≡ true → ((x && a) && (y && b) && (z && c)) ≡ true
six true true true d e f p q r h = rw (p, q, r) refl
six true true false d e f p q r h = absurd (true≢false (sym h))
six true false c d e f p q r h = absurd (true≢false (sym h))
six false b c d e f p q r h = absurd (true≢false (sym h))

energy_of_three : (a b c d : Bool) → (a && b && (c && d)) ≡ true → c ≡ true
energy_of_three true true true d h = refl
energy_of_three true true false d h = absurd (true≢false (sym h))
energy_of_three true false c d h = absurd (true≢false (sym h))
energy_of_three false b c d h = absurd (true≢false (sym h))

energy_fits : (i : IntegratorState) → finite_floats_of i ≡ true → fits binary32 i.filter_source_energy ≡ true
unfolding finite_floats_of finite_f32_of
energy_fits i h = energy_of_three (finite_f32_of i.band_state) (finite_f32_of i.low_state) (fits binary32 i.filter_source_energy) (finite i.filter_source_energy) h

-- ---- the substeps

settled_or_not : (a : Advanced) (t : Bool) → (t ≡ true → finite_floats_of a.state ≡ true) → finite_after (cond t (Some a) None) ≡ true
unfolding finite_after
settled_or_not a true h = h refl
settled_or_not a false h = refl

settled_finite : (a : Advanced) → T (fits binary32 a.state.band_state) → T (fits binary32 a.state.low_state)
    → fits binary32 a.state.filter_source_energy ≡ true → in_domain a ≡ true → finite_floats_of a.state ≡ true
unfolding in_domain finite_floats_of finite_f32_of
settled_finite a p q r h =
    let s = a.state in
    let o = a.outputs in
    six (finite s.band_state) (finite s.low_state) (finite s.filter_source_energy) (finite o.high_pass) (finite o.band_pass) (finite o.low_pass)
    (holds (fits binary32 s.band_state) p)
    (holds (fits binary32 s.low_state) q)
    r
    h

module _ (driven : Float) (k : Coefficients) where
  band_fits : (s : IntegratorState) → T (fits binary32 (advance_of s driven k).state.band_state)
  unfolding advance_of
  band_fits s = sub-fits binary32 _ _

  low_fits : (s : IntegratorState) → T (fits binary32 (advance_of s driven k).state.low_state)
  unfolding advance_of
  low_fits s = sub-fits binary32 _ _

  energy_stays : (s : IntegratorState) → fits binary32 s.filter_source_energy ≡ true → fits binary32 (advance_of s driven k).state.filter_source_energy ≡ true
  unfolding advance_of
  energy_stays s e = e

  substep_valid : (s : IntegratorState) → fits binary32 s.filter_source_energy ≡ true → finite_after (substep_of s driven k) ≡ true
  unfolding substep_of
  substep_valid s e = settled_or_not (advance_of s driven k) (in_domain (advance_of s driven k)) (settled_finite (advance_of s driven k) (band_fits s) (low_fits s) (energy_stays s e))

  then_valid : (b : Option Advanced) → finite_after b ≡ true → finite_after (then_of b driven k) ≡ true
  unfolding finite_after then_of
  then_valid (Some a) h = substep_valid a.state (energy_fits a.state h)
  then_valid None h = refl

  four_valid : (s : IntegratorState) → fits binary32 s.filter_source_energy ≡ true → finite_after (four_substeps_of s driven k) ≡ true
  unfolding four_substeps_of
  four_valid s e = then_valid _ (then_valid _ (then_valid _ (substep_valid s e)))

moved_valid : (f : FilterControls) (s : IntegratorState) (input energy : Float) → fits binary32 energy ≡ true → finite_after (moved_of f s input energy) ≡ true
unfolding moved_of
moved_valid f s input energy e = four_valid _ _ _ e

-- ---- the sample

either : (t : Bool) (x y : Result Sampled Refusal) → finite_taken x ≡ true → finite_taken y ≡ true → finite_taken (cond t x y) ≡ true
either true x y p q = p
either false x y p q = q

state_valid : (o : Outputs) (s : IntegratorState) → finite_floats_of s ≡ true → finite_taken (Ok (record { outputs = o; state = s })) ≡ true
unfolding finite_taken
state_valid o s h = h

refused_valid : (a : Refusal) → finite_taken (Err a) ≡ true
unfolding finite_taken
refused_valid a = refl

valid_after : (judged : Answer) (x : Result Sampled Refusal) → finite_taken x ≡ true → finite_taken (result_and judged x) ≡ true
unfolding finite_taken
valid_after (Ok _) x h = h
valid_after (Err refusal) x h = refl

taken_valid : (c : ControlCache) (count mode : ℕ) (b : Option Advanced) → finite_after b ≡ true → finite_taken (taken_of c count mode b) ≡ true
unfolding finite_after taken_of
taken_valid c count mode None h = refused_valid Domain
taken_valid c count mode (Some a) h =
    let o = a.outputs in
    let selected = select_filter_output_of c count mode o in
    let outputs : Outputs = record { high = o.high_pass; band = o.band_pass; low = o.low_pass; selected = selected } in
    either (finite selected) (Ok (record { outputs = outputs; state = a.state })) (Err Domain) (state_valid outputs a.state h) (refused_valid Domain)

rested : (t : Bool) (s : IntegratorState) (b : Option Advanced) → finite_floats_of s ≡ true → finite_after b ≡ true → finite_after (cond t (at_rest_of s) b) ≡ true
unfolding finite_after
rested true s b p q = p
rested false s b p q = q

module _ (bundle curves : List ℕ) (slot : ℕ) (t : MixingTopology) (s : IntegratorState) (sum energy : Float) where
  core_valid : (f : FilterControls) → finite_floats_of s ≡ true → finite_after (advance_filter_core_of bundle curves slot t f s sum energy) ≡ true
  unfolding advance_filter_core_of
  core_valid f h =
      let tracked = s.filter_source_energy in
      let fed = fed_energy_of t.filter_input_count t.filter_input_reciprocal energy in
      let input = summer_transfer_of bundle curves slot t sum ⊗ K.filter_input_gain in
      rested (is_idle_of t.filter_input_count s) s (moved_of f s input (tracked_energy_of tracked fed)) h
      (moved_valid f s input (tracked_energy_of tracked fed) (holds (fits binary32 (tracked_energy_of tracked fed)) (add-fits binary32 tracked (K.filter_source_energy_tracking ⊗ (fed ⊖ tracked)))))

  -- the state after a sample, where it was taken
  pub sample_valid : (c : ControlCache) (mode : ℕ) → finite_floats_of s ≡ true → finite_taken (filter_sample_of bundle curves slot t c mode s sum energy) ≡ true
  unfolding filter_sample_of
  sample_valid c mode h =
      let judged = judge_sample_of bundle curves slot t s sum energy in
      let count = t.filter_output_count in
      let moved = advance_filter_core_of bundle curves slot t c.filter s sum energy in
      valid_after judged (taken_of c count mode moved) (taken_valid c count mode moved (core_valid c.filter h))
