-- What is answered of a bundle: its length and header, the entries that a call reads, and every entry on opening.
use Rattle.std.specs.Prelude.{ℕ, ◌<◌, ◌≡◌, Bool, true, cond, List, [], ◌∷◌, length, get_or, take, eqb, leb, Float, Err}
use Rattle.answers.specs.declared.Buffer.{Buffer}
use Rattle.answers.specs.declared.Buffer.TheVariants.{Bundle}
use Rattle.answers.specs.declared.Refusal.TheVariants.{BundleLength, Header, Entry}
use Rattle.answers.specs.Answers.{first_of, unless_of, Answer, done}
use Rattle.wire.specs.Wire.{byte_at, f32_at, usable_at}
use Rattle.wire.specs.First.{first, first_unusable_of}
use Rattle.bundle.specs.Layout.{Section, every_entry, bundle_length, header_length, header, entry_place}

-- The float of the entry at a place. One that is unusable reads as the float that it is, and one past the end as 0.
abbrev pub entry_at : List ℕ → ℕ → Float
entry_at bundle place = f32_at bundle place

-- ---- length and header, which every call that takes a bundle looks at

-- Byte k is the header's.
unfoldable pub header_byte : List ℕ → ℕ → Bool
header_byte bundle k = eqb (byte_at bundle k) (get_or header k 0)

-- The first byte that is not the header's, and the header's length where each is.
abbrev pub first_difference : List ℕ → ℕ
first_difference bundle = first (header_byte bundle) header_length 0

unfoldable pub check_of : List ℕ → Answer
check_of bundle =
    first_of (unless_of (eqb (length bundle) bundle_length) BundleLength)
    (unless_of (leb header_length (first_difference bundle)) (Header (first_difference bundle)))

-- ---- entries

-- The first unusable one among the entries at some places of a buffer, in the order of the places.
unfoldable pub judge_places_of : Buffer → List ℕ → List ℕ → Answer
judge_places_of buffer bytes [] = done
judge_places_of buffer bytes (place ∷ rest) = cond (usable_at bytes place) (judge_places_of buffer bytes rest) (Err (Entry buffer place))

-- The first unusable entry of a section of the bundle.
unfoldable pub judge_section_of : List ℕ → Section → Answer
judge_section_of bundle section =
    let index = first_unusable_of bundle section.offset section.count in
    unless_of (leb section.count index) (Entry Bundle (entry_place section index))

-- ---- opening

unfoldable pub open_of : List ℕ → Answer
open_of bundle = first_of (check_of bundle) (judge_section_of bundle every_entry)

-- An accepted bundle: the fixed header, and only usable entries.
pub record Accepted (bundle : List ℕ) : Type 0 where
  pub long : length bundle ≡ bundle_length
  pub fixed : take header_length bundle ≡ header
  pub usable : (index : ℕ) → index < every_entry.count → usable_at bundle (entry_place every_entry index) ≡ true
