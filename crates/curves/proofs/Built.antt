-- What stands in the built buffer, and that an accepted bundle's surface is never refused.
use Prim.Native.Nat.{ℕ, ◌+◌, ◌-◌, ◌*◌, ◌≤◌, ◌<◌}
use mathlib.Core.Path.{◌≡◌, refl, ap, ◌∙◌}
use mathlib.Core.Bool.{Bool, true, false, cond}
use mathlib.Core.List.{List}
use native.Mathlib.Omega.{arith}
use lib.Dec.{T, ltb}
use lib.Ieee.{Float, binary32, of_bits, fits}
use lib.Ieee.Fits.{add-fits, mul-fits}
use lib.ListN.{length}
use Rattle.answers.specs.declared.Buffer.TheVariants.{Bundle}
use Rattle.wire.specs.Wire.{usable_at}
use Rattle.wire.proofs.Laws.{length_rows, number_at-rows}
use Rattle.wire.proofs.Floats.{f32_at-rows}
use Rattle.bundle.specs.Opening.{entry_at, judge_places_of, Accepted}
use Rattle.bundle.proofs.Accepted.{section_done, surface_usable}
use Rattle.bundle.specs.Layout.{analogue_surface}
use Rattle.curves.specs.Sampling.{last_input, last_base, load_position_of, input_position_of, table_place, corners_of, sample_places_of, curve_place}
use Rattle.curves.specs.Building.{load_curve_of, curve_load_of, volume_entry_of, finished_of, curve_entry_of, curve_length, curves_length, build_curve_of, build_curves_of}
use Rattle.curves.proofs.Laws.{load_lower, load_upper, input_lower, input_upper}
use Rattle.curves.proofs.Building.{length_curve}
use Rattle.answers.specs.Answers.{done}

module _ (bundle : List ℕ) where
  pub length_curves : length (build_curves_of bundle) ≡ curves_length
  unfolding build_curves_of
  length_curves = length_rows (build_curve_of bundle) curve_length (length_curve bundle) 31

  module _ (curve : ℕ) where
    -- Entry 2,048 repeats entry 2,047.
    pub last_repeats : curve_entry_of bundle curve 2048 ≡ curve_entry_of bundle curve 2047
    unfolding curve_entry_of load_curve_of
    last_repeats = refl

    pub entry_fits : (k : ℕ) → T (fits binary32 (curve_entry_of bundle curve k))
    unfolding curve_entry_of finished_of volume_entry_of load_curve_of
    entry_fits k = go (ltb curve 15)
      where
        go : (b : Bool)
            → T (fits binary32 (cond b (load_curve_of bundle (load_position_of (curve_load_of curve)) k) (volume_entry_of (curve - 15) (load_curve_of bundle (load_position_of (curve_load_of curve)) k))))
        go true = add-fits binary32 _ _
        go false = mul-fits binary32 _ _

    -- What is read at the place of an entry is the entry.
    pub built_entry : curve < 31 → (k : ℕ) → k < 2049 → entry_at (build_curves_of bundle) (curve_place curve k) ≡ curve_entry_of bundle curve k
    unfolding build_curves_of build_curve_of
    built_entry h k l =
        let q : curve_place curve k ≡ curve_length * curve + 4 * k = omega arith in
        ap (of_bits binary32) (rw q (number_at-rows (build_curve_of bundle) curve_length (length_curve bundle) 4 31 curve (4 * k) h (omega arith)))
        ∙ f32_at-rows (curve_entry_of bundle curve) 2049 k l (entry_fits k)

-- On an accepted bundle no sample of the surface is refused.
module _ (bundle : List ℕ) (a : Accepted bundle) where
  pub corner : (base index : ℕ) → base ≤ last_base → index ≤ last_input → usable_at bundle (table_place (base + index)) ≡ true
  corner base index h l = section_done bundle analogue_surface (surface_usable bundle a) (base + index) (omega arith)

  pub sample_accepted : (conductance input : Float) → judge_places_of Bundle bundle (sample_places_of conductance input) ≡ done
  unfolding judge_places_of sample_places_of corners_of
  sample_accepted conductance input =
      let load = load_position_of conductance in
      let at = input_position_of input in
      rw (
        corner load.lower_base at.lower (load_lower conductance) (input_lower input),
        corner load.lower_base at.upper (load_lower conductance) (input_upper input),
        corner load.upper_base at.lower (load_upper conductance) (input_lower input),
        corner load.upper_base at.upper (load_upper conductance) (input_upper input),
      )
