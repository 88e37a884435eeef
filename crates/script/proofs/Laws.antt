-- What the decoder and the check ask: an event by its bytes, and the slices taken one by one.
use Prim.Native.Nat.{ℕ, suc, ◌+◌, ◌-◌, ◌*◌, ◌≤◌, ◌<◌}
use mathlib.Core.Path.{◌≡◌, refl}
use mathlib.Core.Bool.{Bool, true, false, cond, ◌&&◌}
use mathlib.Core.List.{List, [], ◌∷◌}
use native.Mathlib.Omega.{arith}
use native.Mathlib.Nat.{add_assoc, add-zero, zero-add}
use lib.Dec.{leb, eqb}
use lib.ListN.{length, take, drop, length-take, length-drop}
use lib.Seq.{drop-drop}
use borrow.Author.Tests.{ne_eqb, leb-true}
use Rattle.wire.specs.Wire.{byte_at, u32_at, f32_at}
use Rattle.answers.specs.declared.Refusal.TheVariants.{Script}
use Rattle.script.specs.declared.Event.{Event}
use Rattle.script.specs.declared.Event.TheVariants.{CutoffLow, CutoffHigh, Routing, Mode, Sample, Reset}
use Rattle.script.specs.declared.Checked.{Checked}
use Rattle.script.specs.Script.{kind_of, decode_event_of, event_at, slices_in, all_readable, events_in, sample_count_of}
use Rattle.script.specs.Script.{samples_of, header_ok, well_formed, slices_of, event_count_of, events_of, tally_of, check_script_of}
use Rattle.std.specs.Prelude.{Err, Some, None, Result, Ok}
use Rattle.answers.specs.declared.Refusal.{Refusal}

-- ---- an event

module _ (b : List ℕ) {x y : ℕ} (px : x ≡ byte_at b 2) (py : y ≡ byte_at b 3) where
  pub event_told : {v k : ℕ} → v ≡ byte_at b 1 → k ≡ byte_at b 0 → (eqb (length b) 12 && eqb x 0 && eqb y 0) ≡ true → kind_of k v (f32_at b 4) (f32_at b 8) ≡ decode_event_of b
  unfolding decode_event_of
  event_told pv pk h = rw (pv, pk, ← px, ← py, h)

  pub event_not : (eqb (length b) 12 && eqb x 0 && eqb y 0) ≡ false → None ≡ decode_event_of b
  unfolding decode_event_of
  event_not h = rw (← px, ← py, h)

event_short : (b : List ℕ) → length b < 12 → None ≡ decode_event_of b
unfolding decode_event_of
event_short b h = rw (ne_eqb (length b) 12 (λ e. omega arith))

-- the 12 bytes between a place and the next
pub event_part : (s : List ℕ) (place : ℕ) → decode_event_of (take (place + 12 - place) (drop place s)) ≡ event_at s place
event_part s place = let e : place + 12 - place ≡ 12 = omega arith in rw e

pub event_past : (s : List ℕ) (place : ℕ) → length s < place + 12 → None ≡ event_at s place
event_past s place h = event_short (take 12 (drop place s)) (omega (arith, length-take 12 (drop place s), length-drop place s))

pub sample_le : (e : Event) → sample_count_of e ≤ 1
sample_le (CutoffLow v) = omega arith
sample_le (CutoffHigh v) = omega arith
sample_le (Routing v) = omega arith
sample_le (Mode v) = omega arith
sample_le (Sample x e) = omega arith
sample_le Reset = omega arith

-- ---- the slices from the event i on, as a loop takes them

abbrev pub slices_from : List ℕ → ℕ → ℕ → List (List ℕ)
slices_from s count i = slices_in (count - i) (drop (8 + 12 * i) s)

module _ (s : List ℕ) (count i : ℕ) where
  slices_next : i < count → slices_from s count i ≡ take 12 (drop (8 + 12 * i) s) ∷ slices_from s count (i + 1)
  unfolding slices_in
  slices_next h =
      let m : count - i ≡ suc (count - (i + 1)) = omega arith in
      let p : 8 + 12 * i + 12 ≡ 8 + 12 * (i + 1) = omega arith in
      rw (m, drop-drop 12 (8 + 12 * i) s, p)

  slices_end : count ≤ i → slices_from s count i ≡ []
  unfolding slices_in
  slices_end h = let z : count - i ≡ 0 = omega arith in rw z

  -- one event more is read
  module _ (h : i < count) (e : Event) (r : event_at s (8 + 12 * i) ≡ Some e) where
    pub all_next : all_readable (slices_from s count i) ≡ all_readable (slices_from s count (i + 1))
    unfolding all_readable
    all_next = rw (slices_next h, r)

    pub events_next : events_in (slices_from s count i) ≡ e ∷ events_in (slices_from s count (i + 1))
    unfolding events_in
    events_next = rw (slices_next h, r)

  -- one cannot be read
  pub all_stop : i < count → event_at s (8 + 12 * i) ≡ None → all_readable (slices_from s count i) ≡ false
  unfolding all_readable
  all_stop h r = rw (slices_next h, r)

  -- none is left
  pub all_end : count ≤ i → all_readable (slices_from s count i) ≡ true
  unfolding all_readable
  all_end h = rw (slices_end h)

  pub events_end : count ≤ i → events_in (slices_from s count i) ≡ []
  unfolding events_in
  events_end h = rw (slices_end h)

-- ---- the tally

-- of slices that come after k samples
unfoldable pub tally_from : ℕ → ℕ → List (List ℕ) → Result Checked Refusal
tally_from count k bs = cond (all_readable bs) (Ok (record { events = count; samples = (k + samples_of (events_in bs)) })) (Err Script)

pub tally_start : (count : ℕ) (bs : List (List ℕ)) → tally_of count bs ≡ tally_from count 0 bs
unfolding tally_of tally_from
tally_start count bs = rw zero-add

module _ (s : List ℕ) (count k i : ℕ) where
  pub tally_more : i < count → (e : Event) → event_at s (8 + 12 * i) ≡ Some e → tally_from count k (slices_from s count i) ≡ tally_from count (k + sample_count_of e) (slices_from s count (i + 1))
  unfolding tally_from samples_of
  tally_more h e r = rw (all_next s count i h e r, events_next s count i h e r, add_assoc)

  pub tally_stop : i < count → event_at s (8 + 12 * i) ≡ None → tally_from count k (slices_from s count i) ≡ Err Script
  unfolding tally_from
  tally_stop h r = rw (all_stop s count i h r)

  pub tally_end : count ≤ i → tally_from count k (slices_from s count i) ≡ Ok (record { events = count; samples = k })
  unfolding tally_from samples_of
  tally_end h = rw (all_end s count i h, events_end s count i h, add-zero)

-- ---- the whole check

pub count_few : (c : ℕ) (b d : Bool) → (leb c 65536 && b && d) ≡ true → c ≤ 65536
count_few c b d h = leb-true c 65536 (first (leb c 65536) b d h)
  where
    first : (a b d : Bool) → (a && b && d) ≡ true → a ≡ true
    first true b d h = refl
    first false b d h = h

-- by the header's test, and then the tally
pub check_told : (s : List ℕ) (t : Bool) {c o : ℕ} → c ≡ event_count_of s → o ≡ u32_at s 4 → (leb c 65536 && eqb o 8 && eqb (length s) (8 + 12 * c)) ≡ t
    → cond t (tally_of c (slices_in c (drop 8 s))) (Err Script) ≡ check_script_of s
unfolding check_script_of well_formed header_ok tally_of
check_told s t pc po h = rw (← h, pc, po) (go (leb (event_count_of s) 65536 && eqb (u32_at s 4) 8 && eqb (length s) (8 + 12 * event_count_of s)) (all_readable (slices_of s)))
  where
    go : (a b : Bool)
        → cond {A = Result Checked Refusal} a (cond b (Ok (record { events = (event_count_of s); samples = (samples_of (events_of s)) })) (Err Script)) (Err Script)
        ≡ cond {A = Result Checked Refusal} (a && b) (Ok (record { events = (event_count_of s); samples = (samples_of (events_of s)) })) (Err Script)
    go true b = refl
    go false b = refl
