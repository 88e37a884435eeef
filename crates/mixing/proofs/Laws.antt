-- What `update` puts together is the topology. Assumes nothing.
use mathlib.Core.Path.{◌≡◌}
use mathlib.Core.Bool.{Bool, false, not, ◌&&◌, and-true}
use mathlib.Core.List.{List, [], ◌∷◌, ◌++◌}
use Prim.Native.Nat.{ℕ, ◌+◌, ◌*◌, ◌≤◌}
use native.Mathlib.Nat.{add-zero, le_trans}
use lib.Dec.{lit≤}
use lib.ListN.{get_or}
use lib.Ieee.{Float}
use Rattle.mixing.specs.declared.MixingTopology.{MixingTopology}
use Rattle.response.specs.Bits.{bit}
use Rattle.wire.specs.Text.{ascii}
use Rattle.mixing.specs.Topology.{one, reciprocal_of, filter_count_of, bypass_count_of, output_count_of, mixer_count_of, topology_of}
use Rattle.mixing.specs.Line.{digit, flag, line_of}
use Rattle.mixing.proofs.Facts.{filter_most, bypass_most, output_most, mixer_most}

-- f are the flags of the filter, o is voice 3 off, m the mode's outputs; n, b and q are the counts
pub topology_told : (routing mode : ℕ) {f0 f1 f2 f3 o m0 m1 m2 : Bool} {n b q u v : ℕ} {x y z : Float}
    → f0 ≡ bit routing 0 → f1 ≡ bit routing 1 → f2 ≡ bit routing 2 → f3 ≡ bit routing 3 → o ≡ bit mode 3 → m0 ≡ bit mode 0 → m1 ≡ bit mode 1 → m2 ≡ bit mode 2
    → n ≡ one f0 + one f1 + one f2 + one f3 → b ≡ one (not f0) + one (not f1) + one (not f2 && not o) + one (not f3) → q ≡ one m0 + one m1 + one m2 + 0
    → x ≡ reciprocal_of n → y ≡ reciprocal_of (2 + n) → z ≡ reciprocal_of (b + q)
    → u ≡ one f0 + 2 * one f1 + 4 * one f2 → v ≡ one (not f0) + 2 * one (not f1) + 4 * one (not f2 && not o)
    → ◌≡◌ {A = MixingTopology}
    (record {
      filter_membership = f0 ∷ f1 ∷ f2 ∷ f3 ∷ [];
      bypass_membership = not f0 ∷ not f1 ∷ (not f2 && not o) ∷ not f3 ∷ [];
      filter_input_count = n;
      bypass_input_count = b;
      filter_output_count = q;
      mixer_input_count = b + q;
      filter_input_reciprocal = x;
      summer_input_reciprocal = y;
      mixer_input_reciprocal = z;
      filter_internal_mask = u;
      bypass_internal_mask = v;
    })
    (topology_of routing mode)
unfolding topology_of filter_count_of bypass_count_of output_count_of mixer_count_of
topology_told routing mode f0 f1 f2 f3 o m0 m1 m2 n b q x y z u v =
    simp (x, y, z, u, v, n, b, q, f0, f1, f2, f3, o, m0, m1, m2, and-true, add-zero)

-- what `line` puts together is the line: f and b are the flags, d the digits
abbrev member : List Bool → ℕ → ℕ
member flags i = flag (get_or flags i false)

pub line_told : (routing mode : ℕ) {t : MixingTopology} {f0 f1 f2 f3 b0 b1 b2 b3 d0 d1 d2 d3 : ℕ} → t ≡ topology_of routing mode
    → f0 ≡ member t.filter_membership 0 → f1 ≡ member t.filter_membership 1 → f2 ≡ member t.filter_membership 2 → f3 ≡ member t.filter_membership 3
    → b0 ≡ member t.bypass_membership 0 → b1 ≡ member t.bypass_membership 1 → b2 ≡ member t.bypass_membership 2 → b3 ≡ member t.bypass_membership 3
    → d0 ≡ digit t.filter_input_count → d1 ≡ digit t.bypass_input_count → d2 ≡ digit t.filter_output_count → d3 ≡ digit t.mixer_input_count
    → ascii "filter " ++ (f0 ∷ f1 ∷ f2 ∷ f3 ∷ ascii " bypass ") ++ (b0 ∷ b1 ∷ b2 ∷ b3 ∷ ascii " counts ")
    ++ (d0 ∷ ascii " ") ++ (d1 ∷ ascii " ") ++ (d2 ∷ ascii " ") ++ (d3 ∷ ascii "\n") ≡ line_of routing mode
unfolding topology_of line_of
line_told routing mode t f0 f1 f2 f3 b0 b1 b2 b3 d0 d1 d2 d3 = simp (f0, f1, f2, f3, b0, b1, b2, b3, d0, d1, d2, d3, t)

-- each of its counts is one digit
module _ (routing mode : ℕ) {t : MixingTopology} (e : t ≡ topology_of routing mode) where
  pub filter_digit : t.filter_input_count ≤ 9
  unfolding topology_of
  filter_digit = rw e (le_trans (filter_most routing) (lit≤ tt))

  pub bypass_digit : t.bypass_input_count ≤ 9
  unfolding topology_of
  bypass_digit = rw e (le_trans (bypass_most routing mode) (lit≤ tt))

  pub output_digit : t.filter_output_count ≤ 9
  unfolding topology_of
  output_digit = rw e (le_trans (output_most mode) (lit≤ tt))

  pub mixer_digit : t.mixer_input_count ≤ 9
  unfolding topology_of
  mixer_digit = rw e (le_trans (mixer_most routing mode) (lit≤ tt))
