-- Reading one thing and then another: both values, or the first refusal. Assumes nothing.
use Rattle.std.specs.Prelude.{◌≡◌, refl, Bool, true, false, Float, Ok, Err}
use Rattle.answers.specs.declared.Refusal.{Refusal}
use Rattle.answers.specs.Answers.{Answer, first_of, unless_of, done}
use Rattle.bundle.specs.Reading.{read_of}

-- What is read is the value of entries that are judged usable, or the refusal.
pub read_value : (j : Answer) (v : Float) {x : Float} → Ok x ≡ read_of j v → (j ≡ done) × (x ≡ v)
unfolding read_of
read_value (Ok _) v e = (refl, (cc))
read_value (Err r) v e = (cc, (cc))

pub read_refused : (j : Answer) (v : Float) {r : Refusal} → Err r ≡ read_of j v → j ≡ Err r
unfolding read_of
read_refused (Ok _) v e = cc
read_refused (Err r) v e = cc

pub first_refused : (j k : Answer) (u w : Float) {r : Refusal} → Err r ≡ read_of j u → Err r ≡ read_of (first_of j k) w
unfolding read_of
first_refused j k u w p = simp (read_refused j u p)

module _ (j k : Answer) (u v : Float) where
  pub second_refused : (w : Float) {x : Float} {r : Refusal} → Ok x ≡ read_of j u → Err r ≡ read_of k v → Err r ≡ read_of (first_of j k) w
  unfolding read_of
  second_refused w p q = simp ((read_value j u p).0, read_refused k v q)

  pub both_read : (f : Float → Float → Float) {x y : Float} → Ok x ≡ read_of j u → Ok y ≡ read_of k v → Ok (f x y) ≡ read_of (first_of j k) (f u v)
  unfolding read_of
  both_read f p q =
      let s = read_value j u p in
      let t = read_value k v q in
      simp (s.0, t.0, s.1, t.1)

-- The refusal does not depend on the value, and the value of usable entries may be worked on.
pub still_refused : (j : Answer) (u w : Float) {r : Refusal} → Err r ≡ read_of j u → Err r ≡ read_of j w
unfolding read_of
still_refused j u w p = simp (read_refused j u p)

pub read_through : (j : Answer) (u : Float) (f : Float → Float) {x : Float} → Ok x ≡ read_of j u → Ok (f x) ≡ read_of j (f u)
unfolding read_of
read_through j u f p = let q = read_value j u p in simp (q.0, q.1)

-- A test of the value after the entries.
module _ (j : Answer) (u : Float) (ok : Float → Bool) (refusal : Refusal) where
  pub test_passed : {x : Float} → Ok x ≡ read_of j u → ok x ≡ true → Ok x ≡ read_of (first_of j (unless_of (ok u) refusal)) u
  unfolding read_of
  test_passed {x} p t =
      let q = read_value j u p in
      let v : ok u ≡ true = rw q.1 at t in
      simp (q.0, v, q.1)

  pub test_failed : {x : Float} → Ok x ≡ read_of j u → ok x ≡ false → Err refusal ≡ read_of (first_of j (unless_of (ok u) refusal)) u
  unfolding read_of
  test_failed {x} p t =
      let q = read_value j u p in
      let v : ok u ≡ false = rw q.1 at t in
      simp (q.0, v)
