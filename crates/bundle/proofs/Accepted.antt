-- Opening answers done exactly for an accepted bundle. No entry is computed: what is used of `first` holds at every count.
use Prim.Native.Nat.{ℕ, ◌+◌, ◌*◌, ◌≤◌, ◌<◌}
use mathlib.Core.Path.{◌≡◌, refl, ap, sym, subst, ◌∙◌}
use mathlib.Core.Bool.{true}
use mathlib.Core.List.{List, [], ◌∷◌}
use native.Mathlib.Omega.{arith}
use lib.Dec.{eqb, leb}
use lib.ListN.{length, get_or, take}
use lib.Seq.{length-take-le, get_or-take, ext_get_or}
use borrow.Author.Tests.{eq-eqb, eqb-true, le-leb, leb-true}
use Rattle.answers.specs.declared.Buffer.TheVariants.{Bundle}
use Rattle.answers.specs.declared.Refusal.TheVariants.{BundleLength, Header, Entry}
use Rattle.answers.specs.Answers.{unless_of, done}
use Rattle.answers.proofs.Laws.{first_done, unless_done}
use Rattle.wire.specs.Wire.{bytes_of, usable_at}
use Rattle.wire.specs.First.{first_unusable_of}
use Rattle.wire.proofs.First.{first_before, first_is, none_unusable, all_usable_lem}
use Rattle.bundle.specs.Layout.{Section, sections, every_entry, analogue_surface, bundle_length, header_length, words, header, entry_place}
use Rattle.bundle.specs.Opening.{header_byte, first_difference, check_of, judge_section_of, open_of, Accepted}

-- ---- the header

header_long : length header ≡ header_length
unfolding header words bytes_of
header_long = refl

module _ (bundle : List ℕ) where
  pub check_done : check_of bundle ≡ done → (length bundle ≡ bundle_length) × (take header_length bundle ≡ header)
  unfolding check_of header_byte
  check_done d =
      let both = first_done (unless_of (eqb (length bundle) bundle_length) BundleLength) (unless_of (leb header_length (first_difference bundle)) (Header (first_difference bundle))) d in
      let long : length bundle ≡ bundle_length = eqb-true _ _ (unless_done (eqb (length bundle) bundle_length) BundleLength both.0) in
      let all : header_length ≤ first_difference bundle = leb-true _ _ (unless_done (leb header_length (first_difference bundle)) (Header (first_difference bundle)) both.1) in
      let front : length (take header_length bundle) ≡ header_length = length-take-le header_length bundle (omega arith) in (
        long,
        ext_get_or 0 (take header_length bundle) header (front ∙ sym header_long)
            (λ (k : ℕ) l. get_or-take header_length bundle k 0 (omega arith) ∙ eqb-true _ _ (first_before (header_byte bundle) header_length 0 k (omega arith) (omega arith))),
      )

  pub check_passes : length bundle ≡ bundle_length → take header_length bundle ≡ header → check_of bundle ≡ done
  unfolding check_of header_byte
  check_passes long fixed =
      let none : first_difference bundle ≡ header_length =
      first_is (header_byte bundle) header_length 0 header_length (omega arith) (omega arith)
      (λ (k : ℕ) _ l. eq-eqb _ _ (sym (get_or-take header_length bundle k 0 l) ∙ ap (λ (s : List ℕ). get_or s k 0) fixed))
      (λ l. absurd (omega arith)) in
      rw (eq-eqb _ _ long, none)

-- ---- a section

module _ (bundle : List ℕ) (section : Section) where
  abbrev index : ℕ
  index = first_unusable_of bundle section.offset section.count

  pub section_done : judge_section_of bundle section ≡ done → (k : ℕ) → k < section.count → usable_at bundle (entry_place section k) ≡ true
  unfolding judge_section_of
  section_done d = none_unusable bundle section.offset section.count (leb-true _ _ (unless_done (leb section.count index) (Entry Bundle (entry_place section index)) d))

  pub section_passes : ((k : ℕ) → k < section.count → usable_at bundle (entry_place section k) ≡ true) → judge_section_of bundle section ≡ done
  unfolding judge_section_of
  section_passes h = rw (le-leb section.count index (omega (arith, all_usable_lem bundle section.offset section.count h)))

-- ---- opening

module _ (bundle : List ℕ) where
  pub accepted : open_of bundle ≡ done → Accepted bundle
  unfolding open_of
  accepted d =
      let both = first_done (check_of bundle) (judge_section_of bundle every_entry) d in
      let checked = check_done bundle both.0 in
      record { long = checked.0; fixed = checked.1; usable = section_done bundle every_entry both.1 }

  pub opens : Accepted bundle → open_of bundle ≡ done
  unfolding open_of
  opens a = rw (check_passes bundle a.long a.fixed, section_passes bundle every_entry a.usable)

-- ---- the sections follow the header in order, without gaps, and fill the bundle

abbrev pub Adjoin : ℕ → List Section → Type 0
Adjoin from [] = from ≡ bundle_length
Adjoin from (section ∷ rest) = (section.offset ≡ from) × Adjoin (from + 4 * section.count) rest

pub sections_adjoin : Adjoin header_length sections
sections_adjoin = (refl, (refl, (refl, (refl, (refl, (refl, refl))))))

-- So an accepted bundle has only usable entries in each section, one that begins after the first skipped entries of all.
pub section_usable : (bundle : List ℕ) → Accepted bundle → (section : Section) (skipped : ℕ) → section.offset ≡ header_length + 4 * skipped → skipped + section.count ≤ every_entry.count
    → (k : ℕ) → k < section.count → usable_at bundle (entry_place section k) ≡ true
section_usable bundle a section skipped e h k l =
    let q : entry_place every_entry (skipped + k) ≡ entry_place section k = omega arith in
    subst (λ (p : ℕ). usable_at bundle p ≡ true) q (a.usable (skipped + k) (omega arith))

pub surface_usable : (bundle : List ℕ) → Accepted bundle → judge_section_of bundle analogue_surface ≡ done
surface_usable bundle a = section_passes bundle analogue_surface (section_usable bundle a analogue_surface 526352 refl (omega arith))
