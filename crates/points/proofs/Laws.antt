-- The script of one sample: its bytes as they are written, and what it says. Assumes nothing.
use native.Mathlib.Nat.{mod-eq_of_lt}
use mathlib.Core.Path.{◌≡◌, refl, ap, ◌∙◌}
use mathlib.Core.Bool.{true}
use mathlib.Core.List.{[], ◌∷◌}
use lib.Dec.{T, lit≤}
use lib.ListN.{replicate}
use lib.Ieee.{Float, binary32, to_bits, of_bits, fits}
use lib.Ieee.Bits.{of_bits-to_bits, to_bits-lt}
use Rattle.wire.specs.Wire.{bytes_of, little, number_at, float_bytes, row_bytes, put_at}
use Rattle.wire.proofs.Laws.{little-bytes_of, put_at-join, put_at-whole}
use Rattle.script.specs.declared.Event.TheVariants.{Sample}
use Rattle.script.specs.Script.{kind_of, decode_event_of, slices_in, all_readable, events_in, events_of, header_ok, well_formed}
use Rattle.points.specs.Points.{sample_script_of}

module _ (sum energy : Float) where
  pub script_bytes : put_at (put_at (replicate 20 0) 0 (row_bytes 1 8 4 (to_bits binary32 sum))) 16 (float_bytes energy) ≡ sample_script_of sum energy
  unfolding sample_script_of bytes_of
  script_bytes =
      put_at-join (replicate 20 0) 0 (row_bytes 1 8 4 (to_bits binary32 sum)) (float_bytes energy) 16 refl (lit≤ tt)
      ∙ put_at-whole (replicate 20 0) (sample_script_of sum energy) refl

  pub script_formed : well_formed (sample_script_of sum energy) ≡ true
  unfolding sample_script_of bytes_of well_formed header_ok all_readable slices_in decode_event_of kind_of number_at
  script_formed = refl

-- A float's bytes say it.
bytes_float : (x : Float) → T (fits binary32 x) → of_bits binary32 (little (float_bytes x)) ≡ x
bytes_float x f = ap (of_bits binary32) (little-bytes_of 4 (to_bits binary32 x) ∙ mod-eq_of_lt (to_bits-lt binary32 x f)) ∙ of_bits-to_bits binary32 x f

module _ (sum energy : Float) (f : T (fits binary32 sum)) (g : T (fits binary32 energy)) where
  pub script_events : events_of (sample_script_of sum energy) ≡ Sample sum energy ∷ []
  unfolding sample_script_of bytes_of slices_in events_in decode_event_of kind_of number_at
  script_events =
      ap (λ (x : Float). Sample x (of_bits binary32 (little (float_bytes energy))) ∷ []) (bytes_float sum f)
      ∙ ap (λ (y : Float). Sample sum y ∷ []) (bytes_float energy g)
