-- However the events of a well-formed script are cut into pieces, the pieces are well-formed scripts, and their events in a row are the whole's.
use Prim.Native.Nat.{ℕ, zero, suc, ◌+◌, ◌*◌, ◌≤◌}
use mathlib.Core.Path.{◌≡◌, refl, sym, ap, ◌∙◌}
use mathlib.Core.Bool.{Bool, true, false, cond, ◌&&◌, true≢false, and_assoc}
use mathlib.Core.List.{List, [], ◌∷◌, ◌++◌, map}
use native.Mathlib.Omega.{arith}
use native.Mathlib.Nat.{add_assoc, zero-add}
use lib.Dec.{eqb, leb}
use lib.ListN.{length, take, drop, length-append, take-append-drop, length-drop}
use lib.Seq.{take_at, drop_at, take-add, take_all}
use borrow.Author.Tests.{eqb-true, eq-eqb, leb-true, le-leb}
use Rattle.floats.proofs.Laws.{both}
use Rattle.wire.specs.Wire.{Bytes, byte_at, u32_at, f32_at, bytes_of}
use Rattle.wire.proofs.Laws.{length-bytes_of, number_at-bytes_of, number_at-first, number_at-second, bytes_of-number_at}
use Rattle.script.specs.declared.Event.{Event}
use Rattle.script.specs.Script.{kind_of, decode_event_of, is_readable, slices_in, event_count_of, slices_of, all_readable, cons_of, events_in, events_of, samples_of, header_ok, well_formed}
use Rattle.script.specs.Pieces.{joined, script_of, AllWellFormed}
use Rattle.std.specs.Prelude.{Option, Some, None}

-- ---- readable slices

readable_long : (b : List ℕ) → is_readable (decode_event_of b) ≡ true → length b ≡ 12
unfolding decode_event_of
readable_long b h = go (eqb (length b) 12) refl h
  where
    go : (t : Bool) → eqb (length b) 12 ≡ t
        → is_readable (cond (t && eqb (byte_at b 2) 0 && eqb (byte_at b 3) 0) (kind_of (byte_at b 0) (byte_at b 1) (f32_at b 4) (f32_at b 8)) None) ≡ true → length b ≡ 12
    go true e h = eqb-true (length b) 12 e
    go false e h = absurd (true≢false (sym h))

length_joined : (bs : List (List ℕ)) → all_readable bs ≡ true → length (joined bs) ≡ 12 * length bs
unfolding all_readable
length_joined [] h = refl
length_joined (b ∷ bs) h =
    let r = both (is_readable (decode_event_of b)) (all_readable bs) h in
    omega (arith, length-append b (joined bs), readable_long b r.0, length_joined bs r.1)

slices_joined : (bs : List (List ℕ)) → all_readable bs ≡ true → slices_in (length bs) (joined bs) ≡ bs
unfolding all_readable slices_in
slices_joined [] h = refl
slices_joined (b ∷ bs) h =
    let r = both (is_readable (decode_event_of b)) (all_readable bs) h in
    let l = readable_long b r.0 in
    rw (take_at b (joined bs) 12 l, drop_at b (joined bs) 12 l, slices_joined bs r.1)

-- ---- a piece's script

module _ (bs : List (List ℕ)) (few : length bs ≤ 65536) where
  header_long : length (bytes_of 4 (length bs) ++ bytes_of 4 8) ≡ 8
  header_long = omega (arith, length-append (bytes_of 4 (length bs)) (bytes_of 4 8), length-bytes_of 4 (length bs), length-bytes_of 4 8)

  count_is : event_count_of (script_of bs) ≡ length bs
  unfolding script_of
  count_is =
      number_at-first 4 (bytes_of 4 (length bs) ++ bytes_of 4 8) (joined bs) 0 (omega (arith, header_long))
      ∙ number_at-first 4 (bytes_of 4 (length bs)) (bytes_of 4 8) 0 (omega (arith, length-bytes_of 4 (length bs)))
      ∙ number_at-bytes_of 4 (length bs) (omega arith)

  offset_is : u32_at (script_of bs) 4 ≡ 8
  unfolding script_of
  offset_is =
      number_at-first 4 (bytes_of 4 (length bs) ++ bytes_of 4 8) (joined bs) 4 (omega (arith, header_long))
      ∙ number_at-second 4 (bytes_of 4 (length bs)) (bytes_of 4 8) 4 0 (length-bytes_of 4 (length bs))
      ∙ number_at-bytes_of 4 8 (omega arith)

  module _ (h : all_readable bs ≡ true) where
    script_long : length (script_of bs) ≡ 8 + 12 * length bs
    unfolding script_of
    script_long = omega (arith, length-append (bytes_of 4 (length bs) ++ bytes_of 4 8) (joined bs), header_long, length_joined bs h)

    slices_is : slices_of (script_of bs) ≡ bs
    unfolding script_of
    slices_is = rw (count_is, drop_at (bytes_of 4 (length bs) ++ bytes_of 4 8) (joined bs) 8 header_long) (slices_joined bs h)

    pub piece_well_formed : well_formed (script_of bs) ≡ true
    unfolding well_formed header_ok
    piece_well_formed = rw (slices_is, count_is, offset_is, script_long, le-leb (length bs) 65536 few, eq-eqb (8 + 12 * length bs) (8 + 12 * length bs) refl) h

    pub piece_events : events_of (script_of bs) ≡ events_in bs
    piece_events = ap events_in slices_is

-- ---- any way of cutting

pub all_append : (a b : List (List ℕ)) → all_readable (a ++ b) ≡ (all_readable a && all_readable b)
unfolding all_readable
all_append [] b = refl
all_append (x ∷ a) b = rw (all_append a b) (sym (and_assoc (is_readable (decode_event_of x)) (all_readable a) (all_readable b)))

pub events_append : (a b : List (List ℕ)) → events_in (a ++ b) ≡ events_in a ++ events_in b
unfolding events_in
events_append [] b = refl
events_append (x ∷ a) b = rw (events_append a b) (cons_append (decode_event_of x) (events_in a) (events_in b))
  where
    cons_append : (d : Option Event) (es fs : List Event) → cons_of d (es ++ fs) ≡ cons_of d es ++ fs
    cons_append (Some e) es fs = refl
    cons_append None es fs = refl

pub samples_append : (es fs : List Event) → samples_of (es ++ fs) ≡ samples_of es + samples_of fs
unfolding samples_of
samples_append [] fs = sym (zero-add (samples_of fs))
samples_append (e ∷ es) fs = rw (samples_append es fs, add_assoc)

pieces_well_formed : (pieces : List (List (List ℕ))) → length (joined pieces) ≤ 65536 → all_readable (joined pieces) ≡ true → AllWellFormed (map script_of pieces)
pieces_well_formed [] l h = tt
pieces_well_formed (p ∷ ps) l h =
    let n = length-append p (joined ps) in
    let r = both (all_readable p) (all_readable (joined ps)) (sym (all_append p (joined ps)) ∙ h) in
    (piece_well_formed p (omega arith) r.0, pieces_well_formed ps (omega arith) r.1)

pieces_events : (pieces : List (List (List ℕ))) → length (joined pieces) ≤ 65536 → all_readable (joined pieces) ≡ true → joined (map events_of (map script_of pieces)) ≡ events_in (joined pieces)
unfolding events_in
pieces_events [] l h = refl
pieces_events (p ∷ ps) l h =
    let n = length-append p (joined ps) in
    let r = both (all_readable p) (all_readable (joined ps)) (sym (all_append p (joined ps)) ∙ h) in
    rw (piece_events p (omega arith) r.0, pieces_events ps (omega arith) r.1) (sym (events_append p (joined ps)))

pub length_slices : (n : ℕ) (b : List ℕ) → length (slices_in n b) ≡ n
unfolding slices_in
length_slices zero b = refl
length_slices (suc n) b = ap suc (length_slices n (drop 12 b))

pub length_events : (bs : List (List ℕ)) → all_readable bs ≡ true → length (events_in bs) ≡ length bs
unfolding all_readable events_in
length_events [] h = refl
length_events (b ∷ bs) h =
    let r = both (is_readable (decode_event_of b)) (all_readable bs) h in
    one_more (decode_event_of b) (events_in bs) r.0 ∙ ap suc (length_events bs r.1)
  where
    one_more : (d : Option Event) (es : List Event) → is_readable d ≡ true → length (cons_of d es) ≡ suc (length es)
    one_more (Some e) es h = refl
    one_more None es h = absurd (true≢false (sym h))

-- what a well-formed script has
pub record Header (s : List ℕ) : Type 0 where
  pub few : event_count_of s ≤ 65536
  pub offset : u32_at s 4 ≡ 8
  pub long : length s ≡ 8 + 12 * event_count_of s
  pub readable : all_readable (slices_of s) ≡ true

pub header : (s : List ℕ) → well_formed s ≡ true → Header s
unfolding well_formed header_ok
header s h =
    let a = leb (event_count_of s) 65536 in
    let b = eqb (u32_at s 4) 8 in
    let c = eqb (length s) (8 + 12 * event_count_of s) in
    let r = both (a && b && c) (all_readable (slices_of s)) h in
    let q = both (a && b) c r.0 in
    let p = both a b q.0 in
    record {
      few = leb-true (event_count_of s) 65536 p.0;
      offset = eqb-true (u32_at s 4) 8 p.1;
      long = eqb-true (length s) (8 + 12 * event_count_of s) q.1;
      readable = r.1;
    }

-- As many events as its count says.
pub events_count : (s : List ℕ) → well_formed s ≡ true → length (events_of s) ≡ event_count_of s
events_count s h = length_events (slices_of s) (header s h).readable ∙ length_slices (event_count_of s) (drop 8 s)

pub record Cut (s : List ℕ) (pieces : List (List (List ℕ))) : Type 0 where
  pub each : AllWellFormed (map script_of pieces)
  pub whole : joined (map events_of (map script_of pieces)) ≡ events_of s

-- For every well-formed script, and every list of pieces, empty ones too, that are its events in a row.
pub cut : (s : List ℕ) → well_formed s ≡ true → (pieces : List (List (List ℕ))) → joined pieces ≡ slices_of s → Cut s pieces
cut s h pieces e =
    let k = header s h in
    let l : length (joined pieces) ≤ 65536 = omega (arith, ap length e, length_slices (event_count_of s) (drop 8 s), k.few) in
    let r : all_readable (joined pieces) ≡ true = ap all_readable e ∙ k.readable in
    record { each = pieces_well_formed pieces l r; whole = pieces_events pieces l r ∙ ap events_in e }

-- ---- one piece

joined_slices : (n : ℕ) (b : List ℕ) → joined (slices_in n b) ≡ take (12 * n) b
unfolding slices_in
joined_slices zero b = refl
joined_slices (suc n) b =
    let m : 12 * suc n ≡ 12 + 12 * n = omega arith in
    rw (joined_slices n (drop 12 b), m) (sym (take-add 12 (12 * n) b))

-- Cut into one piece, a script is as it was.
pub one_piece : (s : List ℕ) → Bytes s → well_formed s ≡ true → script_of (slices_of s) ≡ s
unfolding script_of
one_piece s b h =
    let k = header s h in
    let l = k.long in
    let offset : bytes_of 4 8 ≡ take 4 (drop 4 s) = ap (bytes_of 4) (sym k.offset) ∙ bytes_of-number_at 4 s 4 (omega arith) b in
    rw (
      length_slices (event_count_of s) (drop 8 s),
      joined_slices (event_count_of s) (drop 8 s),
      take_all (12 * event_count_of s) (drop 8 s) (omega (arith, length-drop 8 s)),
      bytes_of-number_at 4 s 0 (omega arith) b,
      offset,
    )
    (rw (← take-add 4 4 s) (take-append-drop 8 s))
