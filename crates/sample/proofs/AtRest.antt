-- THE SUMMER AT REST. On every accepted bundle with the curves built from it: with no input routed, in every mode, the summer makes 0 of a sum of 0, of either sign.
-- The two inputs that are always there make the count 2, so it reads the curve of load 2 where the surface is sampled for its rest. It takes no energy. Assumes nothing.
use Prim.Native.Nat.{ℕ}
use mathlib.Core.Path.{◌≡◌, refl, sym}
use mathlib.Core.Bool.{true, not, true≢false}
use mathlib.Core.List.{List}
use lib.Dec.{T, lit≤}
use lib.Ieee.{Float, binary32, is_nan, of_bits, of_int, lt, eq, sub, mul, div}
use lib.Ieee.Bits.{of_bits-fits}
use Rattle.floats.specs.Arithmetic.{◌⊗◌, f32}
use Rattle.floats.proofs.Sized.{sized_finite}
use Rattle.floats.proofs.Values.{Zero, same_sym, same_other, same_sized, equal_zero, zero_equal, same_less, add_zero_left}
use Rattle.response.specs.Levels.{filter_mode_quiescent_level_of, normalise_voltage_of}
use Rattle.mixing.specs.Topology.{topology_of, filter_count_of, reciprocal_of}
use Rattle.bundle.specs.Opening.{Accepted}
use Rattle.curves.specs.Sampling.{summer_resting_output_of}
use Rattle.curves.specs.Building.{build_curves_of}
use Rattle.curves.proofs.WholeLoads.{sample_sized, built_same}
use Rattle.sample.specs.Sample.{summer_slot_of, average_of, summer_transfer_of}

-- An input at rest, two of them, and their average, computed: all are floats of the same digits.
level_is : filter_mode_quiescent_level_of ≡ f32 0x3ec0_b8f1
unfolding filter_mode_quiescent_level_of normalise_voltage_of of_bits lt sub div
level_is = refl

two_are : f32 0x4000_0000 ⊗ f32 0x3ec0_b8f1 ≡ f32 0x3f40_b8f1
unfolding of_bits mul
two_are = refl

one_of_two : f32 0x3f40_b8f1 ⊗ reciprocal_of 2 ≡ f32 0x3ec0_b8f1
unfolding reciprocal_of of_bits of_int mul div
one_of_two = refl

two_other : Zero (f32 0x3f40_b8f1) → ⊥
unfolding of_bits eq
two_other z = true≢false (sym (zero_equal binary32 _ z))

level_number : T (not (is_nan filter_mode_quiescent_level_of))
unfolding of_bits is_nan
level_number = rw level_is tt

module _ (mode : ℕ) (sum : Float) (silent : eq sum (f32 0) ≡ true) where
  pub average_rests : average_of (topology_of 0 mode) sum ≡ filter_mode_quiescent_level_of
  unfolding topology_of filter_count_of
  average_rests =
      let fed = same_other two_other (add_zero_left binary32 sum (f32 0x3f40_b8f1) (equal_zero binary32 sum silent) (of_bits-fits binary32 _)) in
      rw (level_is, two_are, fed, one_of_two) refl

  module _ (bundle : List ℕ) (a : Accepted bundle) where
    pub summer_zero : Zero (summer_transfer_of bundle (build_curves_of bundle) (summer_slot_of (topology_of 0 mode)) (topology_of 0 mode) sum)
    unfolding summer_transfer_of summer_resting_output_of topology_of filter_count_of
    summer_zero =
        let same = built_same bundle a 2 (lit≤ tt) filter_mode_quiescent_level_of level_number in
        let rest = sample_sized bundle a 2 (lit≤ tt) filter_mode_quiescent_level_of level_number in
        rw average_rests (same_less binary32 (sized_finite (same_sized (same_sym same) rest)) (same_sym same))

    pub summer_rests : eq (summer_transfer_of bundle (build_curves_of bundle) (summer_slot_of (topology_of 0 mode)) (topology_of 0 mode) sum) (f32 0) ≡ true
    summer_rests = zero_equal binary32 _ summer_zero
