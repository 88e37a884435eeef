-- What the loops over a curve's entries and over the curves stand on.
use Prim.Native.Nat.{ℕ, zero, suc, ◌+◌, ◌-◌, ◌*◌, ◌≤◌, min}
use mathlib.Core.Path.{◌≡◌, refl, ap, sym, ◌∙◌}
use mathlib.Core.List.{List, ◌++◌, append_assoc}
use native.Mathlib.Omega.{arith}
use lib.Dec.{eqb}
use lib.Ieee.{Float}
use lib.ListN.{length, take, drop}
use borrow.Rule.Slice.PartMut.{put_mid, Post-is}
use borrow.Author.Tests.{eqb-true}
use Rattle.answers.specs.declared.Refusal.TheVariants.{CurvesLength}
use Rattle.answers.specs.Answers.{first_of, done}
use Rattle.answers.proofs.Laws.{first_done, unless_done}
use Rattle.wire.specs.Wire.{u32_at, usable_of, float_bytes, put_at, rows}
use Rattle.wire.proofs.Laws.{length_rows, put_at_in, number_at-take, number_at-drop}
use Rattle.wire.proofs.Floats.{length-float_bytes}
use Rattle.bundle.specs.Layout.{bundle_length, analogue_surface}
use Rattle.bundle.specs.Opening.{check_of, judge_section_of}
use Rattle.bundle.proofs.Accepted.{check_done, section_done}
use Rattle.curves.specs.declared.AnalogueLoadPosition.{AnalogueLoadPosition}
use Rattle.curves.specs.Sampling.{last_base, load_position_of, table_place}
use Rattle.curves.specs.Building.{load_curve_of, curve_load_of, curve_entry_of, curve_length, curves_length, build_curve_of, judge_length_of, judge_build_of}
use Rattle.curves.specs.Inner.{row_length, table_row_of, UsableRow, blend_of, blend_rows_of, Buildable}
use Rattle.curves.proofs.Laws.{load_lower, load_upper}

-- ---- the row of a load

module _ (bundle : List ℕ) (long : length bundle ≡ bundle_length) (base : ℕ) (h : base ≤ last_base) where
  -- word `code` of the row is word base + code of the surface
  row_word : (code : ℕ) → code ≤ 2047 → u32_at (table_row_of bundle base) (4 * code) ≡ u32_at bundle (table_place (base + code))
  unfolding table_row_of
  row_word code l =
      let q : table_place base + 4 * code ≡ table_place (base + code) = omega arith in
      number_at-take 4 (drop (table_place base) bundle) row_length (4 * code) (omega arith) ∙ number_at-drop 4 bundle (table_place base) (4 * code) (omega arith) ∙ ap (u32_at bundle) q

  pub row_usable : judge_section_of bundle analogue_surface ≡ done → UsableRow (table_row_of bundle base)
  row_usable d code l = ap usable_of (row_word code (omega arith)) ∙ section_done bundle analogue_surface d (base + code) (omega arith)

-- ---- rows that are equal one by one

rows_same : (r r' : ℕ → List ℕ) → ((k : ℕ) → r k ≡ r' k) → (n : ℕ) → rows r n ≡ rows r' n
unfolding rows
rows_same r r' e zero = refl
rows_same r r' e (suc n) = rw (rows_same r r' e n, e n)

-- A curve is what the rows of its two loads blend to.
module _ (bundle : List ℕ) (long : length bundle ≡ bundle_length) (curve : ℕ) where
  abbrev load : AnalogueLoadPosition
  load = load_position_of (curve_load_of curve)

  blend_entry : (k : ℕ) → blend_of (table_row_of bundle load.lower_base) (table_row_of bundle load.upper_base) load.fraction curve k ≡ curve_entry_of bundle curve k
  unfolding blend_of curve_entry_of load_curve_of
  blend_entry k =
      rw (
        row_word bundle long load.lower_base (load_lower (curve_load_of curve)) (min k 2047) (omega arith),
        row_word bundle long load.upper_base (load_upper (curve_load_of curve)) (min k 2047) (omega arith),
      )

  pub blends_curve : blend_rows_of (table_row_of bundle load.lower_base) (table_row_of bundle load.upper_base) load.fraction curve ≡ build_curve_of bundle curve
  unfolding blend_rows_of build_curve_of
  blends_curve =
      rows_same
      (λ k. float_bytes (blend_of (table_row_of bundle load.lower_base) (table_row_of bundle load.upper_base) load.fraction curve k))
      (λ k. float_bytes (curve_entry_of bundle curve k))
      (λ k. ap float_bytes (blend_entry k))
      2049

-- ---- what a loop writes

-- n bytes in the place of the n that were lent from a on
pub put_part : (a n : ℕ) (s ys : List ℕ) → length ys ≡ n → a + n ≤ length s → put_mid a (a + n - a) s ys ≡ put_at s a ys
put_part a n s ys e h =
    ap (λ (l : List ℕ). take a s ++ (ys ++ l)) (Post-is a (a + n) s (omega arith))
    ∙ sym (put_at_in s a ys (omega arith) ∙ rw (append_assoc, e))

-- The bytes of a curve.
pub length_curve : (bundle : List ℕ) (curve : ℕ) → length (build_curve_of bundle curve) ≡ curve_length
unfolding build_curve_of
length_curve bundle curve = length_rows (λ k. float_bytes (curve_entry_of bundle curve k)) 4 (λ k. length-float_bytes (curve_entry_of bundle curve k)) 2049

-- the last entry is the one before it
pub last_again : (lower upper : List ℕ) (fraction : Float) (curve : ℕ) → blend_of lower upper fraction curve 2047 ≡ blend_of lower upper fraction curve 2048
unfolding blend_of
last_again lower upper fraction curve = refl

-- ---- what a build that is not refused stands on

pub build_done : (bundle curves : List ℕ) → judge_build_of bundle curves ≡ done → Buildable bundle × (length curves ≡ curves_length)
unfolding judge_build_of
build_done bundle curves d =
    let lent = first_done (first_of (check_of bundle) (judge_length_of curves)) (judge_section_of bundle analogue_surface) d in
    let checked = first_done (check_of bundle) (judge_length_of curves) lent.0 in
    (record { long = (check_done bundle checked.0).0; judged = lent.1 }, eqb-true _ _ (unless_done (eqb (length curves) curves_length) CurvesLength checked.1))
