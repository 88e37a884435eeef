-- `MixingTopology::update` of mixing.rs: which sources the filter takes and which go straight to the mixer, by the routing and the mode nibble.
-- Sources 0 to 2 are voices 1 to 3, and source 3 is the external input.
use Rattle.std.specs.Prelude.{ℕ, ◌+◌, ◌*◌, Bool, not, ◌&&◌, cond, List, [], ◌∷◌, eqb, pos, Float}
use Rattle.std.specs.Float.{binary32}
use Rattle.std.specs.Float.Ieee.{of_int}
use Rattle.floats.specs.Arithmetic.{◌⊘◌, f32}
use Rattle.response.specs.Bits.{bit}
use Rattle.mixing.specs.declared.MixingTopology.{MixingTopology}

-- usize::from
abbrev pub one : Bool → ℕ
one b = cond b 1 0

-- a routed source goes through the filter
abbrev pub filtered_of : ℕ → ℕ → Bool
filtered_of routing index = bit routing index

-- any other goes straight to the mixer, but for voice 3 where mode bit 3 turns it off there
abbrev pub bypassed_of : ℕ → ℕ → ℕ → Bool
bypassed_of routing mode index = not (filtered_of routing index) && not (eqb index 2 && bit mode 3)

abbrev pub flags_of : (ℕ → Bool) → List Bool
flags_of member = member 0 ∷ member 1 ∷ member 2 ∷ member 3 ∷ []

abbrev pub count_of : (ℕ → Bool) → ℕ
count_of member = one (member 0) + one (member 1) + one (member 2) + one (member 3)

-- the three voices alone, as bits
abbrev pub mask_of : (ℕ → Bool) → ℕ
mask_of member = one (member 0) + 2 * one (member 1) + 4 * one (member 2)

unfoldable pub filter_count_of : ℕ → ℕ
filter_count_of routing = count_of (filtered_of routing)

unfoldable pub bypass_count_of : ℕ → ℕ → ℕ
bypass_count_of routing mode = count_of (bypassed_of routing mode)

-- the low, band and high outputs that the mode selects
unfoldable pub output_count_of : ℕ → ℕ
output_count_of mode = one (bit mode 0) + one (bit mode 1) + one (bit mode 2)

-- both reach the mixer. The Rust's `.min(7)` is left out: `mixer-most` of proofs/Facts.antt shows that there are never more than seven.
unfoldable pub mixer_count_of : ℕ → ℕ → ℕ
mixer_count_of routing mode = bypass_count_of routing mode + output_count_of mode

-- 1.0 / count as f32, and 0.0 for no input
unfoldable pub reciprocal_of : ℕ → Float
reciprocal_of count = cond (eqb count 0) (f32 0) (f32 0x3f80_0000 ⊘ of_int binary32 (pos count))

unfoldable pub topology_of : ℕ → ℕ → MixingTopology
topology_of routing mode =
    record {
      filter_membership = flags_of (filtered_of routing);
      bypass_membership = flags_of (bypassed_of routing mode);
      filter_input_count = filter_count_of routing;
      bypass_input_count = bypass_count_of routing mode;
      filter_output_count = output_count_of mode;
      mixer_input_count = mixer_count_of routing mode;
      filter_input_reciprocal = reciprocal_of (filter_count_of routing);
      summer_input_reciprocal = reciprocal_of (2 + filter_count_of routing);
      mixer_input_reciprocal = reciprocal_of (mixer_count_of routing mode);
      filter_internal_mask = mask_of (filtered_of routing);
      bypass_internal_mask = mask_of (bypassed_of routing mode);
    }
