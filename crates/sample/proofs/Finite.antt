-- The outputs of a sample that is taken are finite, so that their bits are their own. Assumes nothing.
use Prim.Native.Nat.{ℕ}
use mathlib.Core.Path.{◌≡◌, refl, sym, ap, ◌∙◌}
use mathlib.Core.Bool.{Bool, true, false, cond, ◌&&◌, true≢false}
use mathlib.Core.List.{List}
use lib.Ieee.{Float, of_bits}
use lib.Ieee.Scale.{finite}
use Rattle.answers.specs.declared.Refusal.TheVariants.{Domain}
use Rattle.integrator.specs.declared.IntegratorState.{IntegratorState}
use Rattle.integrator.specs.declared.Coefficients.{Coefficients}
use Rattle.integrator.specs.declared.Advanced.{Advanced}
use Rattle.integrator.specs.declared.FilterOutputs.{FilterOutputs}
use Rattle.integrator.specs.Integrator.{advance_of, state_finite, in_domain, substep_of, then_of, four_substeps_of}
use Rattle.mixing.specs.declared.MixingTopology.{MixingTopology}
use Rattle.controls.specs.declared.FilterControls.{FilterControls}
use Rattle.controls.specs.declared.ControlCache.{ControlCache}
use Rattle.sample.specs.declared.Outputs.{Outputs}
use Rattle.sample.specs.declared.Sampled.{Sampled}
use Rattle.sample.specs.Sample.{is_idle_of, moved_of, at_rest_of, advance_filter_core_of, select_filter_output_of, judge_sample_of, outputs_finite, taken_of, filter_sample_of}
use Rattle.std.specs.Prelude.{Err, is_ok, Option, Some, None, Result, Ok}
use Rattle.answers.specs.declared.Refusal.{Refusal}
use Rattle.answers.specs.Answers.{Answer}
use Rattle.std.specs.Result.{result_and}

abbrev three : FilterOutputs → Bool
three o = finite o.high_pass && finite o.band_pass && finite o.low_pass

unfoldable moves : Option Advanced → Bool
moves (Some a) = three a.outputs
moves None = true

unfoldable takes : Result Sampled Refusal → Bool
takes (Ok t) = outputs_finite t.outputs
takes (Err refusal) = true

-- ---- the substeps

last_three : (s h b l : Bool) → (s && h && b && l) ≡ true → (h && b && l) ≡ true
last_three true h b l e = e
last_three false h b l e = absurd (true≢false (sym e))

module _ (driven : Float) (k : Coefficients) where
  substep_moves : (s : IntegratorState) → moves (substep_of s driven k) ≡ true
  unfolding substep_of in_domain moves
  substep_moves s = go (in_domain a) (last_three (state_finite a.state) _ _ _)
    where
      a : Advanced
      a = advance_of s driven k

      go : (t : Bool) → (t ≡ true → three a.outputs ≡ true) → moves (cond t (Some a) None) ≡ true
      go true h = h refl
      go false h = refl

  then_moves : (b : Option Advanced) → moves (then_of b driven k) ≡ true
  unfolding then_of moves
  then_moves (Some a) = substep_moves a.state
  then_moves None = refl

moved_moves : (f : FilterControls) (s : IntegratorState) (input energy : Float) → moves (moved_of f s input energy) ≡ true
unfolding moved_of four_substeps_of
moved_moves f s input energy = then_moves _ _ _

rest_moves : (s : IntegratorState) → moves (at_rest_of s) ≡ true
unfolding moves of_bits
rest_moves s = refl

-- ---- the sample

either : {A : Type 0} (t : Bool) (p : A → Bool) {x y : A} → p x ≡ true → p y ≡ true → p (cond t x y) ≡ true
either true p h g = h
either false p h g = g

taken_takes : (c : ControlCache) (count mode : ℕ) (b : Option Advanced) → moves b ≡ true → takes (taken_of c count mode b) ≡ true
unfolding moves takes taken_of
taken_takes c count mode None h = refl
taken_takes c count mode (Some a) h = go (finite (select_filter_output_of c count mode a.outputs)) refl
  where
    go : (t : Bool) → finite (select_filter_output_of c count mode a.outputs) ≡ t
        → takes
        (cond t
        (Ok (record { outputs = (record { high = a.outputs.high_pass; band = a.outputs.band_pass; low = a.outputs.low_pass; selected = select_filter_output_of c count mode a.outputs }); state = a.state }))
        (Err Domain))
        ≡ true
    go true e = rw (h, e)
    go false e = refl

taken_after : (judged : Answer) (x : Result Sampled Refusal) → takes x ≡ true → takes (result_and judged x) ≡ true
unfolding takes
taken_after (Ok _) x h = h
taken_after (Err refusal) x h = refl

-- what a sample gives, where it is taken
pub outputs_finite_lem : (bundle curves : List ℕ) (slot : ℕ) (t : MixingTopology) (c : ControlCache) (mode : ℕ) (s : IntegratorState) (sum energy : Float) {x : Result Sampled Refusal} (o : Outputs) (j : IntegratorState)
    → x ≡ filter_sample_of bundle curves slot t c mode s sum energy → x ≡ Ok (record { outputs = o; state = j }) → outputs_finite o ≡ true
unfolding filter_sample_of advance_filter_core_of takes
outputs_finite_lem bundle curves slot t c mode s sum energy o j is got =
    ap takes (sym got ∙ is)
    ∙ taken_after (judge_sample_of bundle curves slot t s sum energy) _
    (taken_takes c t.filter_output_count mode _ (either (is_idle_of t.filter_input_count s) moves (rest_moves s) (moved_moves c.filter s _ _)))
