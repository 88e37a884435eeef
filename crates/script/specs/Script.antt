-- The script (docs/FORMATS.md): a header of two words, event count and offset, and 12 bytes an event.
use Rattle.std.specs.Prelude.{ℕ, zero, suc, ◌+◌, ◌*◌, Bool, true, false, cond, ◌&&◌, List, [], ◌∷◌, leb, eqb, length, take, drop, Float, Err, Option, Some, None, Result, Ok}
use Rattle.wire.specs.Wire.{byte_at, u32_at, f32_at}
use Rattle.answers.specs.declared.Refusal.TheVariants.{Script}
use Rattle.script.specs.declared.Event.{Event}
use Rattle.script.specs.declared.Event.TheVariants.{CutoffLow, CutoffHigh, Routing, Mode, Sample, Reset}
use Rattle.script.specs.declared.Checked.{Checked}
use Rattle.answers.specs.declared.Refusal.{Refusal}

-- ---- an event

-- By its kind, its value and its two floats. A kind above 5 cannot be read.
unfoldable pub kind_of : ℕ → ℕ → Float → Float → Option Event
kind_of kind value input_sum source_energy =
    cond (eqb kind 0) (Some (CutoffLow value))
    (cond (eqb kind 1) (Some (CutoffHigh value))
    (cond (eqb kind 2) (Some (Routing value))
    (cond (eqb kind 3) (Some (Mode value))
    (cond (eqb kind 4) (Some (Sample input_sum source_energy))
    (cond (eqb kind 5) (Some Reset) None)))))

-- Twelve bytes: kind, value, two zero bytes, input sum f32, source energy f32. Fields that a kind does not use are ignored.
unfoldable pub decode_event_of : List ℕ → Option Event
decode_event_of b =
    cond (eqb (length b) 12 && eqb (byte_at b 2) 0 && eqb (byte_at b 3) 0)
    (kind_of (byte_at b 0) (byte_at b 1) (f32_at b 4) (f32_at b 8))
    None

-- At a place of a script: what does not lie whole in it cannot be read.
abbrev pub event_at : List ℕ → ℕ → Option Event
event_at s place = decode_event_of (take 12 (drop place s))

-- ---- the events of a script

-- The n slices of 12 bytes that come first.
unfoldable pub slices_in : ℕ → List ℕ → List (List ℕ)
slices_in zero b = []
slices_in (suc n) b = take 12 b ∷ slices_in n (drop 12 b)

-- The count that the header says, and the bytes of each event after the header.
abbrev pub event_count_of : List ℕ → ℕ
event_count_of s = u32_at s 0

abbrev pub slices_of : List ℕ → List (List ℕ)
slices_of s = slices_in (event_count_of s) (drop 8 s)

-- Whether each can be read.
abbrev pub is_readable : Option Event → Bool
is_readable (Some e) = true
is_readable None = false

unfoldable pub all_readable : List (List ℕ) → Bool
all_readable [] = true
all_readable (b ∷ bs) = is_readable (decode_event_of b) && all_readable bs

-- The events that can be read, in order: all of them in a well-formed script.
abbrev pub cons_of : Option Event → List Event → List Event
cons_of (Some e) es = e ∷ es
cons_of None es = es

unfoldable pub events_in : List (List ℕ) → List Event
events_in [] = []
events_in (b ∷ bs) = cons_of (decode_event_of b) (events_in bs)

abbrev pub events_of : List ℕ → List Event
events_of s = events_in (slices_of s)

-- How many of them are samples.
abbrev pub sample_count_of : Event → ℕ
sample_count_of (CutoffLow v) = 0
sample_count_of (CutoffHigh v) = 0
sample_count_of (Routing v) = 0
sample_count_of (Mode v) = 0
sample_count_of (Sample x e) = 1
sample_count_of Reset = 0

unfoldable pub samples_of : List Event → ℕ
samples_of [] = 0
samples_of (e ∷ es) = sample_count_of e + samples_of es

-- ---- the check

-- At most 65,536 events, the offset 8, and 8 + 12 × count bytes.
unfoldable pub header_ok : List ℕ → Bool
header_ok s = leb (event_count_of s) 65536 && eqb (u32_at s 4) 8 && eqb (length s) (8 + 12 * event_count_of s)

-- Well-formed: the table of refusals has no 7 for it.
unfoldable pub well_formed : List ℕ → Bool
well_formed s = header_ok s && all_readable (slices_of s)

-- The check of count events in these slices.
unfoldable pub tally_of : ℕ → List (List ℕ) → Result Checked Refusal
tally_of count bs = cond (all_readable bs) (Ok (record { events = count; samples = (samples_of (events_in bs)) })) (Err Script)

-- The numbers of events and of samples, or refusal 7.
unfoldable pub check_script_of : List ℕ → Result Checked Refusal
check_script_of s = cond (well_formed s) (Ok (record { events = (event_count_of s); samples = (samples_of (events_of s)) })) (Err Script)
