-- Facts of the topology: memberships are disjoint; they total four, or three exactly if mode bit 3 is set and routing bit 2
-- clear; the mixer has at most seven inputs. Assumes nothing.
use mathlib.Core.Path.{◌≡◌, refl, ◌∙◌}
use mathlib.Core.Bool.{Bool, true, false, not, ◌&&◌, cond}
use mathlib.Core.List.{[], ◌∷◌}
use Prim.Native.Nat.{ℕ, ◌+◌, ◌≤◌}
use native.Mathlib.Omega.{arith}
use lib.Dec.{eqb}
use lib.Ieee.{of_bits, of_int, div}
use Rattle.floats.specs.Arithmetic.{f32}
use Rattle.response.specs.Bits.{bit}
use Rattle.mixing.specs.Topology.{one, filtered_of, bypassed_of, filter_count_of, bypass_count_of, output_count_of, mixer_count_of, reciprocal_of, topology_of}

pub disjoint : (routing mode index : ℕ) → (filtered_of routing index && bypassed_of routing mode index) ≡ false
disjoint routing mode index = go (filtered_of routing index) (eqb index 2 && bit mode 3)
  where
    go : (f x : Bool) → (f && (not f && not x)) ≡ false
    go true x = refl
    go false x = refl

-- a source that is not turned off is in just one of the two
each : (f x : Bool) → one f + one (not f && not x) ≡ cond (x && not f) 0 1
each true true = refl
each true false = refl
each false true = refl
each false false = refl

pub total : (routing mode : ℕ) → filter_count_of routing + bypass_count_of routing mode ≡ cond (bit mode 3 && not (bit routing 2)) 3 4
unfolding filter_count_of bypass_count_of
total routing mode = sum ∙ go (bit mode 3 && not (bit routing 2))
  where
    sum : filter_count_of routing + bypass_count_of routing mode ≡ 3 + cond (bit mode 3 && not (bit routing 2)) 0 1
    sum = omega (arith, each (bit routing 0) false, each (bit routing 1) false, each (bit routing 2) (bit mode 3), each (bit routing 3) false)

    go : (t : Bool) → 3 + cond t 0 1 ≡ cond t 3 4
    go true = refl
    go false = refl

one_most : (b : Bool) → one b ≤ 1
one_most true = omega arith
one_most false = omega arith

pub bypass_most : (routing mode : ℕ) → bypass_count_of routing mode ≤ 4
unfolding bypass_count_of
bypass_most routing mode =
    omega (arith, one_most (bypassed_of routing mode 0), one_most (bypassed_of routing mode 1), one_most (bypassed_of routing mode 2), one_most (bypassed_of routing mode 3))

pub filter_most : (routing : ℕ) → filter_count_of routing ≤ 4
unfolding filter_count_of
filter_most routing = omega (arith, one_most (bit routing 0), one_most (bit routing 1), one_most (bit routing 2), one_most (bit routing 3))

pub output_most : (mode : ℕ) → output_count_of mode ≤ 3
unfolding output_count_of
output_most mode = omega (arith, one_most (bit mode 0), one_most (bit mode 1), one_most (bit mode 2))

-- `filter_count` counts what the topology counts
pub filter_counted : (routing mode : ℕ) → (topology_of routing mode).filter_input_count ≡ filter_count_of routing
unfolding topology_of
filter_counted routing mode = refl

-- four past the filter and three outputs make seven
pub mixer_most : (routing mode : ℕ) → mixer_count_of routing mode ≤ 7
unfolding mixer_count_of
mixer_most routing mode = omega (arith, bypass_most routing mode, output_most mode)

-- `MixingTopology::new`, field by field from mixing.rs, is `update` at routing 0 and mode 0.
pub new_is_update : topology_of 0 0 ≡
    record {
      filter_membership = false ∷ false ∷ false ∷ false ∷ [];
      bypass_membership = true ∷ true ∷ true ∷ true ∷ [];
      filter_input_count = 0;
      bypass_input_count = 4;
      filter_output_count = 0;
      mixer_input_count = 4;
      filter_input_reciprocal = f32 0;
      summer_input_reciprocal = f32 0x3f00_0000;
      mixer_input_reciprocal = f32 0x3e80_0000;
      filter_internal_mask = 0;
      bypass_internal_mask = 0x07;
    }
unfolding topology_of filter_count_of bypass_count_of output_count_of mixer_count_of reciprocal_of of_bits of_int div
new_is_update = refl
