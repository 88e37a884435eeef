-- A volume entry above 1,024 in magnitude is written, and refused when it is read: building judges the surface alone, and what reads a curve judges the entry.
use Prim.Native.Nat.{ℕ, ◌+◌, ◌*◌, ◌<◌}
use mathlib.Core.Path.{◌≡◌, refl, ◌∙◌}
use mathlib.Core.Bool.{Bool, false}
use mathlib.Core.List.{List, [], ◌∷◌, map}
use native.Mathlib.Omega.{arith}
use native.Mathlib.Nat.{add-zero}
use lib.ListN.{replicate}
use lib.Ieee.{binary32, of_int, of_bits, to_bits, add, sub, mul, div}
use lib.Ieee.Bits.{to_bits-lt}
use Rattle.answers.specs.declared.Buffer.TheVariants.{Curves}
use Rattle.answers.specs.declared.Refusal.TheVariants.{Entry}
use Rattle.floats.specs.Arithmetic.{f32}
use Rattle.wire.specs.Wire.{u32_at, usable_of, float_bytes}
use Rattle.wire.proofs.Laws.{length-bytes_of, number_at-bytes_of, number_at-rows}
use Rattle.bundle.specs.Opening.{judge_places_of}
use Rattle.curves.specs.Sampling.{curve_place}
use Rattle.curves.specs.Building.{volume_entry_of, curve_entry_of, curve_length, build_curve_of, build_curves_of}
use Rattle.curves.proofs.Building.{length_curve}
use Rattle.curves.proofs.Built.{entry_fits}
use Rattle.std.specs.Prelude.{Err}

-- Where the surface has -1,024, which is usable, the entry of volume 0 is -1,024.5, and at no volume is it usable.
pub written_beyond : volume_entry_of 0 (f32 0xc480_0000) ≡ f32 0xc480_1000
unfolding volume_entry_of of_int of_bits add sub mul div
written_beyond = refl

abbrev usable_at_volume : ℕ → Bool
usable_at_volume volume = usable_of (to_bits binary32 (volume_entry_of volume (f32 0xc480_0000)))

pub unusable_beyond : map usable_at_volume (0 ∷ 1 ∷ 2 ∷ 3 ∷ 4 ∷ 5 ∷ 6 ∷ 7 ∷ 8 ∷ 9 ∷ 10 ∷ 11 ∷ 12 ∷ 13 ∷ 14 ∷ 15 ∷ []) ≡ replicate 16 false
unfolding usable_of volume_entry_of of_int of_bits to_bits add sub mul div
unusable_beyond = refl

module _ (bundle : List ℕ) (curve k : ℕ) (h : curve < 31) (l : k < 2049) where
  -- The word at the place of an entry is the entry's bits, usable or not.
  pub built_word : u32_at (build_curves_of bundle) (curve_place curve k) ≡ to_bits binary32 (curve_entry_of bundle curve k)
  unfolding build_curves_of build_curve_of
  built_word =
      let q : curve_place curve k ≡ curve_length * curve + 4 * k = omega arith in
      let x = curve_entry_of bundle curve in
      let e = number_at-rows (λ (i : ℕ). float_bytes (x i)) 4 (λ i. length-bytes_of 4 (to_bits binary32 (x i))) 4 2049 k 0 l (omega arith) in
      rw q (number_at-rows (build_curve_of bundle) curve_length (length_curve bundle) 4 31 curve (4 * k) h (omega arith))
      ∙ (rw add-zero at e ∙ number_at-bytes_of 4 (to_bits binary32 (x k)) (to_bits-lt binary32 (x k) (entry_fits bundle curve k)))

  -- One that is not usable is refused with its place by whatever reads it first.
  pub refused_when_read : usable_of (to_bits binary32 (curve_entry_of bundle curve k)) ≡ false → (later : List ℕ)
      → judge_places_of Curves (build_curves_of bundle) (curve_place curve k ∷ later) ≡ Err (Entry Curves (curve_place curve k))
  unfolding judge_places_of
  refused_when_read u later = rw (built_word, u)
