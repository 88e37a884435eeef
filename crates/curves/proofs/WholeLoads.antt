-- THE WHOLE LOADS. On every accepted bundle, at a conductance of 0 to 9 in whole steps, the surface and the curve that is built at that load agree for every input
-- but a NaN, an infinity too. They agree by the IEEE test, so neither is a NaN, and only a zero can differ, in its sign (`signs-differ`). Assumes nothing.
use Prim.Native.Nat.{ℕ, ◌+◌, ◌*◌, ◌≤◌, ◌<◌, min}
use mathlib.Core.Path.{◌≡◌, refl, ap, ◌∙◌}
use mathlib.Core.Bool.{Bool, true, not, ◌&&◌}
use mathlib.Core.List.{List}
use native.Mathlib.Omega.{arith}
use borrow.Author.Tests.{lt-ltb}
use lib.Dec.{T, eqb, lit≤}
use lib.IntN.{pos}
use lib.Ieee.{Float, binary32, is_nan, fits, of_bits, of_int, to_bits, to_unsigned, lt, eq, add, sub, mul, div, neg}
use lib.Ieee.Bits.{of_bits-fits}
use lib.Ieee.Fits.{add-fits}
use Rattle.answers.specs.declared.Buffer.TheVariants.{Curves}
use Rattle.floats.specs.Arithmetic.{f32}
use Rattle.floats.proofs.Laws.{both}
use Rattle.floats.proofs.Numbers.{Number, finite_number}
use Rattle.floats.proofs.Range.{curve_fraction}
use Rattle.floats.proofs.Sized.{Sized, sized_finite, within_sized, sub_sized, between_sized}
use Rattle.floats.proofs.Values.{Zero, Same, same_sym, same_trans, same_sized, same_equal, equal_zero, lower_at_zero, same_between}
use Rattle.wire.specs.Wire.{float_bytes, rows, usable_at, usable_of}
use Rattle.wire.specs.First.{every}
use Rattle.wire.proofs.First.{every_true}
use Rattle.wire.proofs.Floats.{f32_at-rows}
use Rattle.wire.proofs.Magnitude.{usable_sized, sized_usable}
use Rattle.bundle.specs.Opening.{entry_at, judge_places_of, Accepted}
use Rattle.response.specs.Levels.{interpolate_of}
use Rattle.curves.specs.declared.AnalogueLoadPosition.{AnalogueLoadPosition}
use Rattle.curves.specs.Sampling.{last_load, last_input, last_base, row_entries, load_position_of, input_position_of, table_at, sample_at_of, sample_of, curve_place, sample_curve_places_of, sample_curve_of}
use Rattle.curves.specs.Building.{load_curve_of, curve_load_of, finished_of, curve_entry_of, build_curves_of}
use Rattle.curves.proofs.Laws.{load_lower, load_upper, input_lower, input_upper}
use Rattle.curves.proofs.Built.{corner, built_entry}
use Rattle.curves.proofs.Volume.{built_word}
use Rattle.answers.specs.Answers.{done}

-- ---- the ten loads

abbrev pub whole_load : ℕ → Float
whole_load g = of_int binary32 (pos g)

-- Load g is row 16 g, with no fraction, and row 16 g + 1 the upper one; after the last row that is the last row again.
abbrev has_rows : ℕ → AnalogueLoadPosition → Bool
has_rows g load = eqb load.lower_base (16 * g * row_entries) && eqb load.upper_base (min (16 * g + 1) last_load * row_entries)

abbrev on_row : ℕ → Bool
on_row g = let load = load_position_of (whole_load g) in has_rows g load && eq load.fraction (f32 0)

-- the one check of all ten, computed
pub on_rows : every on_row 10 ≡ true
unfolding every load_position_of of_int of_bits to_unsigned lt eq sub mul div
on_rows = refl

no_fraction : (g : ℕ) → g ≤ 9 → Zero (load_position_of (whole_load g)).fraction
no_fraction g h =
    let load = load_position_of (whole_load g) in
    equal_zero binary32 load.fraction (both (has_rows g load) (eq load.fraction (f32 0)) (every_true on_row 10 on_rows g (omega arith))).1

-- ---- the unscaled curve built at a conductance, by itself in a buffer

abbrev pub one_curve : List ℕ → Float → List ℕ
one_curve bundle conductance = rows (λ k. float_bytes (load_curve_of bundle (load_position_of conductance) k)) 2049

curve_fits : (bundle : List ℕ) (load : AnalogueLoadPosition) (k : ℕ) → T (fits binary32 (load_curve_of bundle load k))
unfolding load_curve_of
curve_fits bundle load k = add-fits binary32 _ _

one_entry : (bundle : List ℕ) (conductance : Float) (k : ℕ) → k < 2049 → entry_at (one_curve bundle conductance) (curve_place 0 k) ≡ load_curve_of bundle (load_position_of conductance) k
one_entry bundle conductance k l =
    let load = load_position_of conductance in
    let q : curve_place 0 k ≡ 4 * k = omega arith in
    rw q (f32_at-rows (load_curve_of bundle load) 2049 k l (curve_fits bundle load k))

-- ---- the surface at one of them, and a curve that holds its entries

module _ (bundle : List ℕ) (a : Accepted bundle) where
  table_sized : (base index : ℕ) → base ≤ last_base → index ≤ last_input → Sized (table_at bundle (base + index)) 1024
  table_sized base index b i = usable_sized _ (corner bundle a base index b i)

  table_fits : (index : ℕ) → T (fits binary32 (table_at bundle index))
  table_fits index = of_bits-fits binary32 _

  module _ (g : ℕ) (h : g ≤ 9) where
    abbrev load : AnalogueLoadPosition
    load = load_position_of (whole_load g)

    lower_most : load.lower_base ≤ last_base
    lower_most = load_lower (whole_load g)

    upper_most : load.upper_base ≤ last_base
    upper_most = load_upper (whole_load g)

    -- an entry of the curve has the lower row's value
    own_entry : (k i : ℕ) → min k last_input ≡ i → Same (load_curve_of bundle load k) (table_at bundle (load.lower_base + i))
    unfolding load_curve_of
    own_entry k i e =
        let l : i ≤ last_input = omega arith in
        let apart = sub_sized binary32 (lit≤ tt) (table_sized _ i upper_most l) (table_sized _ i lower_most l) in
        rw e (lower_at_zero binary32 _ _ (table_fits _) (sized_finite apart) (no_fraction g h))

    entry_sized : (k : ℕ) → Sized (load_curve_of bundle load k) 1024
    entry_sized k = same_sized (own_entry k (min k last_input) refl) (table_sized _ _ lower_most (omega arith))

    module _ (input : Float) (number : T (not (is_nan input))) where
      fraction_most : Sized (input_position_of input).fraction 1
      unfolding input_position_of
      fraction_most = within_sized _ (curve_fraction input number).within

      abbrev row_value : ℕ → Float
      row_value base =
          let at = input_position_of input in
          interpolate_of (table_at bundle (base + at.lower)) (table_at bundle (base + at.upper)) at.fraction

      row_sized : (base : ℕ) → base ≤ last_base → Sized (row_value base) 3072
      row_sized base b = between_sized binary32 (lit≤ tt) (lit≤ tt) (table_sized base _ b (input_lower input)) (table_sized base _ b (input_upper input)) fraction_most

      -- the surface has the lower row's value
      own_row : Same (sample_of bundle (whole_load g) input) (row_value load.lower_base)
      unfolding sample_of sample_at_of
      own_row =
          let apart = sub_sized binary32 (lit≤ tt) (row_sized _ upper_most) (row_sized _ lower_most) in
          lower_at_zero binary32 _ _ (add-fits binary32 _ _) (sized_finite apart) (no_fraction g h)

      pub sample_sized : Sized (sample_of bundle (whole_load g) input) 3072
      sample_sized = same_sized own_row (row_sized _ lower_most)

      sample_number : Number (sample_of bundle (whole_load g) input)
      sample_number = finite_number _ (sized_finite sample_sized)

      -- and so has every curve whose entries are those built at the load
      same_value : (curves : List ℕ) (curve : ℕ) → ((k : ℕ) → k < 2049 → entry_at curves (curve_place curve k) ≡ load_curve_of bundle load k)
          → Same (sample_of bundle (whole_load g) input) (sample_curve_of curves curve input)
      unfolding sample_curve_of input_position_of
      same_value curves curve holds =
          let at = input_position_of input in
          let l : at.lower ≤ last_input = input_lower input in
          same_trans own_row (same_sym
          (rw (holds at.lower (omega arith), holds (at.lower + 1) (omega arith))
          (same_between binary32 _ (curve_fits bundle load _) (table_fits _) (table_fits _) (sized_finite fraction_most)
          (own_entry at.lower at.lower (omega arith)) (own_entry (at.lower + 1) at.upper refl))))

-- ---- loads 0 to 6 among the 31 curves: the summer's, by the count of inputs

module _ (bundle : List ℕ) (a : Accepted bundle) (g : ℕ) (h : g ≤ 6) where
  summer_entry : (k : ℕ) → curve_entry_of bundle g k ≡ load_curve_of bundle (load_position_of (whole_load g)) k
  unfolding curve_entry_of finished_of curve_load_of
  summer_entry k = rw (lt-ltb g 15 (omega arith), lt-ltb g 7 (omega arith)) refl

  held_entry : (k : ℕ) → k < 2049 → entry_at (build_curves_of bundle) (curve_place g k) ≡ load_curve_of bundle (load_position_of (whole_load g)) k
  held_entry k l = built_entry bundle g (omega arith) k l ∙ summer_entry k

  pub built_same : (input : Float) → T (not (is_nan input)) → Same (sample_of bundle (whole_load g) input) (sample_curve_of (build_curves_of bundle) g input)
  built_same input number = same_value bundle a g (omega arith) input number (build_curves_of bundle) g held_entry

  -- What they hold is usable.
  usable_entry : (k : ℕ) → k < 2049 → usable_at (build_curves_of bundle) (curve_place g k) ≡ true
  usable_entry k l =
      ap usable_of (built_word bundle g k (omega arith) l ∙ ap (to_bits binary32) (summer_entry k))
      ∙ sized_usable _ (curve_fits bundle _ k) (entry_sized bundle a g (omega arith) k)

  pub read_accepted : (input : Float) → judge_places_of Curves (build_curves_of bundle) (sample_curve_places_of g input) ≡ done
  unfolding judge_places_of sample_curve_places_of
  read_accepted input =
      let at = input_position_of input in
      let l : at.lower ≤ last_input = input_lower input in
      rw (usable_entry at.lower (omega arith), usable_entry (at.lower + 1) (omega arith)) refl

-- ---- the theorem

-- of the curve built at the load, by itself in a buffer
pub load_agrees : (bundle : List ℕ) → Accepted bundle → (g : ℕ) → g ≤ 9 → (input : Float) → T (not (is_nan input))
    → eq (sample_of bundle (whole_load g) input) (sample_curve_of (one_curve bundle (whole_load g)) 0 input) ≡ true
load_agrees bundle a g h input number =
    same_equal (sample_number bundle a g h input number) (same_value bundle a g h input number (one_curve bundle (whole_load g)) 0 (one_entry bundle (whole_load g)))

-- and of the curve of that number among the 31
pub built_agrees : (bundle : List ℕ) → Accepted bundle → (g : ℕ) → g ≤ 6 → (input : Float) → T (not (is_nan input))
    → eq (sample_of bundle (whole_load g) input) (sample_curve_of (build_curves_of bundle) g input) ≡ true
built_agrees bundle a g h input number = same_equal (sample_number bundle a g (omega arith) input number) (built_same bundle a g h input number)

-- ---- no more than the value

-- Four entries at a whole load: over the input first, as the surface has them, and over the load first, as a curve.
abbrev on_surface : Float → Float → Float → Float → Float → Float
on_surface lower_left lower_right upper_left upper_right fraction =
    interpolate_of (interpolate_of lower_left lower_right fraction) (interpolate_of upper_left upper_right fraction) (f32 0)

abbrev on_curve : Float → Float → Float → Float → Float → Float
on_curve lower_left lower_right upper_left upper_right fraction =
    interpolate_of (interpolate_of lower_left upper_left (f32 0)) (interpolate_of lower_right upper_right (f32 0)) fraction

-- With s the smallest float: of -0.0 and -s in the lower row, -s and s in the upper, half the way between them, the surface has 0.0 and the curve -0.0.
pub signs_differ :
    (on_surface (f32 0x8000_0000) (f32 0x8000_0001) (f32 0x8000_0001) (f32 1) (f32 0x3f00_0000) ≡ f32 0)
    × (on_curve (f32 0x8000_0000) (f32 0x8000_0001) (f32 0x8000_0001) (f32 1) (f32 0x3f00_0000) ≡ f32 0x8000_0000)
unfolding of_bits add sub mul neg
signs_differ = (refl, refl)
