-- Whole loads and the summer at rest, of the direct calls: on an accepted bundle with the curves built from it they are answered, and agree. Assumes nothing.
use Prim.Native.Nat.{ℕ, ◌≤◌}
use mathlib.Core.Path.{◌≡◌, refl}
use mathlib.Core.Bool.{true, not}
use mathlib.Core.List.{List}
use native.Mathlib.Omega.{arith}
use borrow.Author.Tests.{eq-eqb, le-leb}
use lib.Dec.{T, lit≤}
use lib.Ieee.{Float, binary32, is_nan, eq, of_bits, of_int, div}
use lib.Ieee.Scale.{finite}
use Rattle.floats.specs.Arithmetic.{f32}
use Rattle.floats.proofs.Numbers.{finite_number}
use Rattle.floats.proofs.Sized.{sized_finite, of_int_sized}
use Rattle.floats.proofs.Values.{same_sym, same_sized, zero_finite, equal_zero}
use Rattle.bundle.specs.Opening.{check_of, Accepted}
use Rattle.bundle.proofs.Accepted.{check_passes}
use Rattle.mixing.specs.Topology.{topology_of, filter_count_of, reciprocal_of}
use Rattle.response.specs.Levels.{filter_mode_quiescent_level_of}
use Rattle.curves.specs.Sampling.{sample_of, curve_point_of, summer_resting_places_of}
use Rattle.curves.specs.Building.{build_curves_of, judge_length_of}
use Rattle.curves.proofs.Built.{length_curves, sample_accepted}
use Rattle.curves.proofs.WholeLoads.{whole_load, sample_sized, read_accepted, built_same, built_agrees}
use Rattle.sample.specs.Sample.{summer_point_of, judge_summer_of}
use Rattle.sample.proofs.AtRest.{average_rests, summer_zero, summer_rests}
use Rattle.curves.specs.declared.CurvePoint.{CurvePoint}
use Rattle.answers.specs.declared.Refusal.{Refusal}
use Rattle.std.specs.Prelude.{Result, Ok, IsOkAnd}
use Rattle.direct.specs.Calls.{finite_value_of, finite_point_of, sample_call_of, sample_curve_answer_of, sample_curve_call_of, summer_answer_of, summer_transfer_call_of}
use Rattle.answers.specs.Answers.{done}

half_finite : finite (reciprocal_of 2) ≡ true
unfolding reciprocal_of of_bits of_int div
half_finite = refl

-- Both are answered, and their values are equal by the IEEE test.
abbrev pub Agree : Result Float Refusal → Result CurvePoint Refusal → Type 0
Agree sampled read = IsOkAnd sampled (λ value. IsOkAnd read (λ point. eq value point.value ≡ true))

-- It is answered, with a zero.
abbrev pub Rests : Result CurvePoint Refusal → Type 0
Rests summed = IsOkAnd summed (λ point. eq point.value (f32 0) ≡ true)

module _ (bundle : List ℕ) (a : Accepted bundle) where
  pub bundle_checked : check_of bundle ≡ done
  bundle_checked = check_passes bundle a.long a.fixed

  pub built_long : judge_length_of (build_curves_of bundle) ≡ done
  built_long = rw (eq-eqb _ _ (length_curves bundle)) refl

  -- ---- every finite input: at the ten loads, and at 0 to 6, which the built curves have

  module _ (input : Float) (known : finite input ≡ true) where
    number : T (not (is_nan input))
    number = (finite_number input known).real

    pub sampled_value : (g : ℕ) → g ≤ 9 → sample_call_of bundle (whole_load g) input ≡ Ok (sample_of bundle (whole_load g) input)
    unfolding sample_call_of finite_value_of
    sampled_value g h =
        let load : finite (whole_load g) ≡ true = sized_finite (of_int_sized binary32 h (lit≤ tt)) in
        rw (bundle_checked, load, known, sample_accepted bundle a (whole_load g) input, sized_finite (sample_sized bundle a g h input number)) refl

    read_point : (g : ℕ) → g ≤ 6 → sample_curve_call_of (build_curves_of bundle) g input ≡ Ok (curve_point_of (build_curves_of bundle) g input)
    unfolding sample_curve_call_of sample_curve_answer_of finite_point_of curve_point_of
    read_point g h =
        let value = sized_finite (same_sized (same_sym (built_same bundle a g h input number)) (sample_sized bundle a g (omega arith) input number)) in
        rw (built_long, le-leb g 30 (omega arith), known, read_accepted bundle a g h input, value) refl

    pub calls_agree : (g : ℕ) → g ≤ 6 → Agree (sample_call_of bundle (whole_load g) input) (sample_curve_call_of (build_curves_of bundle) g input)
    unfolding curve_point_of
    calls_agree g h = rw (sampled_value g (omega arith), read_point g h) (built_agrees bundle a g h input number)

  -- ---- no input routed, in every mode, and a sum of 0 of either sign

  module _ (mode : ℕ) (sum : Float) (silent : eq sum (f32 0) ≡ true) where
    rest_read : judge_summer_of bundle (build_curves_of bundle) 2 (topology_of 0 mode) sum ≡ done
    unfolding judge_summer_of summer_resting_places_of topology_of filter_count_of
    rest_read =
        let rest = filter_mode_quiescent_level_of in
        rw (average_rests mode sum silent, read_accepted bundle a 2 (lit≤ tt) rest, sample_accepted bundle a (whole_load 2) rest) refl

    summer_answered : summer_answer_of bundle (build_curves_of bundle) (topology_of 0 mode) sum ≡ done
    unfolding summer_answer_of topology_of filter_count_of
    summer_answered = rw (bundle_checked, built_long, half_finite, zero_finite (equal_zero binary32 sum silent), rest_read) refl

    pub call_rests : Rests (summer_transfer_call_of bundle (build_curves_of bundle) (topology_of 0 mode) sum)
    unfolding summer_transfer_call_of summer_point_of finite_point_of
    call_rests =
        let out = summer_zero mode sum silent bundle a in
        rw (summer_answered, zero_finite out) (summer_rests mode sum silent bundle a)
