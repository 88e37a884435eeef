-- The positions lie in their tables, so that an index is a float exactly. Assumes nothing.
use mathlib.Core.Path.{◌≡◌, refl}
use mathlib.Core.Bool.{Bool, true, not, ◌&&◌}
use Prim.Native.Nat.{ℕ, ◌+◌, ◌≤◌, ◌<◌, min}
use native.Mathlib.Omega.{arith}
use borrow.Author.Tests.{not-true}
use native.Mathlib.Numerals.{add-one}
use lib.Dec.{T}
use lib.Ieee.{Float, binary32, of_bits, to_unsigned, is_nan, eq, lt, le}
use Rattle.floats.specs.Arithmetic.{◌⊖◌, ◌⊗◌, f32}
use Rattle.floats.specs.Floats.{clamp_of, of_small}
use Rattle.floats.proofs.Laws.{both, equal_no_nan, small_exact}
use Rattle.floats.proofs.Range.{Whole, of_int-whole, index_below, index_between, bin_index, loading_index}
use Rattle.response.specs.declared.TablePosition.{TablePosition}
use Rattle.response.specs.Position.{activity_of, operating_position_of, loading_position_of}

-- the lower bin is at most 15
pub operating_lower : (input band low : Float) → (operating_position_of input band low).lower ≤ 15
unfolding operating_position_of activity_of
operating_lower input band low = bin_index _

-- up to a cutoff of 2,047 the lower entry is at most 31
pub loading_lower : (cutoff : ℕ) → cutoff ≤ 2047 → (loading_position_of cutoff).lower ≤ 31
unfolding loading_position_of
loading_lower cutoff h = loading_index cutoff h

-- ---- a guessed bin

-- two floats that equal themselves
pub no_nans : (x y : Float) → (eq x x && eq y y) ≡ true → T (not (is_nan x)) × T (not (is_nan y))
no_nans x y h = let p = both (eq x x) (eq y y) h in (equal_no_nan x p.0, equal_no_nan y p.1)

small_whole : {n : ℕ} → n ≤ 16777216 → Whole (of_small n) n
small_whole {n} h = rw (small_exact h) (of_int-whole binary32 n h)

-- a bin g that the position lies in: w is g as a float, and v the next
pub guess_told : (p : Float) {v w : Float} (g : ℕ) → g < 15 → w ≡ of_small g → v ≡ of_small (g + 1) → (le w p && lt p v) ≡ true → g ≡ to_unsigned 64 p
guess_told p {v} {w} g h is_w is_v t =
    let q = both (le w p) (lt p v) t in
    index_between p (rw is_w (small_whole (omega arith))) (rw (is_v, add-one) (small_whole (omega arith))) (omega arith) q.0 q.1

fifteen : Whole (f32 0x4170_0000) 15
unfolding of_bits
fifteen = record { value = (refl, refl) }

-- s is the activity before it is clamped, where nothing bounds it
abbrev Free : Float → Bool
Free s = not (lt s (f32 0)) && not (lt (f32 0x3f80_0000) s)

module _ (s : Float) (h : (Free s && lt (s ⊗ f32 0x4170_0000) (f32 0x4170_0000)) ≡ true) where
  pub near_index : to_unsigned 64 (s ⊗ f32 0x4170_0000) ≤ 14
  near_index = index_below (s ⊗ f32 0x4170_0000) fifteen (both (Free s) (lt (s ⊗ f32 0x4170_0000) (f32 0x4170_0000)) h).1

  unclamped : clamp_of s (f32 0) (f32 0x3f80_0000) ≡ s
  unclamped =
      let p = both (not (lt s (f32 0))) (not (lt (f32 0x3f80_0000) s)) (both (Free s) (lt (s ⊗ f32 0x4170_0000) (f32 0x4170_0000)) h).0 in
      rw (not-true (lt s (f32 0)) p.0, not-true (lt (f32 0x3f80_0000) s) p.1)

  pub near_told : (input band low : Float) {w : Float} {n : ℕ} → clamp_of s (f32 0) (f32 0x3f80_0000) ≡ activity_of input band low
      → n ≡ to_unsigned 64 (s ⊗ f32 0x4170_0000) → w ≡ of_small n
      → ◌≡◌ {A = TablePosition} (record { lower = n; upper = n + 1; fraction = s ⊗ f32 0x4170_0000 ⊖ w }) (operating_position_of input band low)
  unfolding operating_position_of
  near_told input band low {w} {n} e is_n is_w =
      let few : n ≤ 14 = rw is_n near_index in
      let next : n + 1 ≡ min (n + 1) 15 = omega arith in
      rw (← e, unclamped, ← is_n, ← next, is_w, small_exact {n = n} (omega arith))
