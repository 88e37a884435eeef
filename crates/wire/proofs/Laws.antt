-- Laws of little-endian bytes over the width n: a number and its bytes, reading, writing.
use Prim.Native.Nat.{ℕ, zero, suc, ◌+◌, ◌-◌, ◌*◌, ◌/◌, ◌%◌, ◌^◌, ◌≤◌, ◌<◌}
use mathlib.Core.Path.{◌≡◌, refl, ap, sym, subst, ◌∙◌}
use mathlib.Core.Logic.{◌⊎◌, inl, inr, ⊎_elim}
use mathlib.Core.Bool.{Bool, true, false}
use mathlib.Core.List.{List, [], ◌∷◌, ◌++◌, append_assoc, append-nil}
use native.Mathlib.Omega.{arith}
use native.Mathlib.Numerals.{add-one}
use native.Mathlib.Nat.{zero-add, add_assoc, add-zero, mul-zero, mul-suc, mul-le-mul_left, pow-suc, mod-one, mod-eq_of_lt, one-le-pow}
use lib.Arith.{mod-mul}
use lib.Dec.{leb, lit<}
use lib.ListN.{length, take, drop, length-append, length-take, length-drop, take-append-drop, drop_of_length-le, get_or-eq_default}
use lib.Seq.{length-take-le, take_all, drop-cons, take-append-le, drop-append-le, take_at, drop_at, drop-drop, get_or-take, get_or-drop, take-length}
use borrow.Rule.Slice.PartMut.{put_mid}
use Rattle.std.proofs.lemmas.Slice.{put_mid-paste}
use Rattle.std.specs.Int.{to_le_bytes}
use mir.Syntax.{w32}
use borrow.Author.Tests.{le-leb, lt-leb, leb-true, leb-false}
use Rattle.wire.specs.Wire.{Bytes, little, bytes_of, byte_at, number_at, put_at, rows}

-- ---- cases

pub le_or_lt : (a b : ℕ) → (a ≤ b) ⊎ (b < a)
le_or_lt a b = go (leb a b) refl
  where
    go : (t : Bool) → leb a b ≡ t → (a ≤ b) ⊎ (b < a)
    go true e = inl (leb-true a b e)
    go false e = inr (leb-false a b e)

zero<256 : 0 < 256
zero<256 = lit< tt

-- ---- a number and its bytes

pub length-bytes_of : (n v : ℕ) → length (bytes_of n v) ≡ n
unfolding bytes_of
length-bytes_of zero v = refl
length-bytes_of (suc n) v = ap suc (length-bytes_of n (v / 256))

-- the library's four bytes
pub to_le_bytes-four : (v : ℕ) → to_le_bytes w32 v ≡ bytes_of 4 v
unfolding bytes_of
to_le_bytes-four v =
    let two : v / 65536 % 256 ≡ v / 256 / 256 % 256 = omega arith in
    let three : v / 16777216 % 256 ≡ v / 256 / 256 / 256 % 256 = omega arith in
    rw (two, three)

pub little-bytes_of : (n v : ℕ) → little (bytes_of n v) ≡ v % 256 ^ n
unfolding bytes_of
little-bytes_of zero v = sym (mod-one v)
little-bytes_of (suc n) v =
    rw (little-bytes_of n (v / 256), pow-suc) (omega (arith, mod-mul v (one-le-pow n 256 zero<256) zero<256))

pub bytes_of-little : (bs : List ℕ) → Bytes bs → bytes_of (length bs) (little bs) ≡ bs
unfolding bytes_of
bytes_of-little [] h = refl
bytes_of-little (b ∷ bs) h =
    let l : b < 256 = h 0 in
    let low : (b + 256 * little bs) % 256 ≡ b = omega arith in
    let high : (b + 256 * little bs) / 256 ≡ little bs = omega arith in
    rw (low, high, bytes_of-little bs (λ i. h (suc i)))

pub little_lt : (bs : List ℕ) → Bytes bs → little bs < 256 ^ length bs
little_lt [] h = lit< tt
little_lt (b ∷ bs) h = rw pow-suc (omega (arith, h 0, little_lt bs (λ i. h (suc i))))

-- ---- reading

module _ (n : ℕ) (s : List ℕ) (p : ℕ) where
  pub number_at_in : p + n ≤ length s → number_at n s p ≡ little (take n (drop p s))
  unfolding number_at
  number_at_in h = rw (le-leb _ _ h)

  pub number_at_out : length s < p + n → number_at n s p ≡ 0
  unfolding number_at
  number_at_out h = rw (lt-leb _ _ h)

-- the n elements at p, where they are there
module _ (n : ℕ) (s : List ℕ) (p : ℕ) (h : p + n ≤ length s) where
  pub length_part : length (take n (drop p s)) ≡ n
  length_part = length-take-le n (drop p s) (omega (arith, length-drop p s))

  part_bytes : Bytes s → Bytes (take n (drop p s))
  part_bytes b i =
      ⊎_elim
      (λ (l : n ≤ i). rw (get_or-eq_default (take n (drop p s)) 0 {n = i} (omega (arith, length_part))) zero<256)
      (λ (l : i < n). rw (get_or-take n (drop p s) i 0 l, get_or-drop) (b (p + i)))
      (le_or_lt n i)

  -- the n bytes that are there are those of the number that is read
  pub bytes_of-number_at : Bytes s → bytes_of n (number_at n s p) ≡ take n (drop p s)
  bytes_of-number_at b =
      rw (number_at_in n s p h) (subst (λ (k : ℕ). bytes_of k (little (take n (drop p s))) ≡ take n (drop p s)) length_part (bytes_of-little (take n (drop p s)) (part_bytes b)))

pub number_at-lt : (n : ℕ) (s : List ℕ) (p : ℕ) → Bytes s → number_at n s p < 256 ^ n
number_at-lt n s p b =
    ⊎_elim
    (λ (h : p + n ≤ length s). rw (number_at_in n s p h) (subst (λ (k : ℕ). little (take n (drop p s)) < 256 ^ k) (length_part n s p h) (little_lt (take n (drop p s)) (part_bytes n s p h b))))
    (λ (h : length s < p + n). rw (number_at_out n s p h) (one-le-pow n 256 zero<256))
    (le_or_lt (p + n) (length s))

-- the bytes of a number one by one
part_cons : (n : ℕ) (s : List ℕ) (p : ℕ) → p < length s → take (suc n) (drop p s) ≡ byte_at s p ∷ take n (drop (p + 1) s)
part_cons n s p h = rw (drop-cons s p 0 h, add-one)

pub two_bytes : (s : List ℕ) (p : ℕ) → p + 2 ≤ length s → little (byte_at s p ∷ byte_at s (p + 1) ∷ []) ≡ number_at 2 s p
two_bytes s p h = rw (number_at_in 2 s p h, part_cons 1 s p (omega arith), part_cons 0 s (p + 1) (omega arith))

pub four_bytes : (s : List ℕ) (p : ℕ) → p + 4 ≤ length s → little (byte_at s p ∷ byte_at s (p + 1) ∷ byte_at s (p + 2) ∷ byte_at s (p + 3) ∷ []) ≡ number_at 4 s p
four_bytes s p h =
    rw (number_at_in 4 s p h, part_cons 3 s p (omega arith), part_cons 2 s (p + 1) (omega arith), add_assoc, part_cons 1 s (p + 2) (omega arith), add_assoc, part_cons 0 s (p + 3) (omega arith))

-- a number in the first of two lists, and in the second
pub number_at-first : (n : ℕ) (a b : List ℕ) (p : ℕ) → p + n ≤ length a → number_at n (a ++ b) p ≡ number_at n a p
number_at-first n a b p h =
    rw (number_at_in n (a ++ b) p (omega (arith, length-append a b)), number_at_in n a p h)
    (rw (drop-append-le p a b (omega arith), take-append-le n (drop p a) b (omega (arith, length-drop p a))))

pub number_at-second : (n : ℕ) (a b : List ℕ) (m p : ℕ) → length a ≡ m → number_at n (a ++ b) (m + p) ≡ number_at n b p
number_at-second n a b m p e =
    ⊎_elim
    (λ (h : p + n ≤ length b). rw (number_at_in n b p h, number_at_in n (a ++ b) (m + p) (omega (arith, length-append a b)), ← drop-drop p m (a ++ b), drop_at a b m e))
    (λ (h : length b < p + n). rw (number_at_out n b p h, number_at_out n (a ++ b) (m + p) (omega (arith, length-append a b))))
    (le_or_lt (p + n) (length b))

-- a number in the first k elements, and past them
pub number_at-take : (n : ℕ) (s : List ℕ) (k p : ℕ) → p + n ≤ k → number_at n (take k s) p ≡ number_at n s p
number_at-take n s k p l =
    ⊎_elim
    (λ (h : p + n ≤ length s). sym (rw take-append-drop at (number_at-first n (take k s) (drop k s) p (omega (arith, length-take k s)))))
    (λ (h : length s < p + n). rw (number_at_out n s p h, number_at_out n (take k s) p (omega (arith, length-take k s))))
    (le_or_lt (p + n) (length s))

pub number_at-drop : (n : ℕ) (s : List ℕ) (k p : ℕ) → k ≤ length s → number_at n (drop k s) p ≡ number_at n s (k + p)
number_at-drop n s k p h = sym (rw take-append-drop at (number_at-second n (take k s) (drop k s) k p (length-take-le k s h)))

pub number_at-bytes_of : (n v : ℕ) → v < 256 ^ n → number_at n (bytes_of n v) 0 ≡ v
number_at-bytes_of n v l =
    let e = length-bytes_of n v in
    rw (number_at_in n (bytes_of n v) 0 (omega arith), take_all n (bytes_of n v) (omega arith), little-bytes_of) (mod-eq_of_lt l)

-- ---- writing

module _ (s : List ℕ) (p : ℕ) (vs : List ℕ) where
  pub put_at_in : p + length vs ≤ length s → put_at s p vs ≡ take p s ++ vs ++ drop (p + length vs) s
  unfolding put_at
  put_at_in h = rw (le-leb _ _ h)

  pub put_at_out : length s < p + length vs → put_at s p vs ≡ s
  unfolding put_at
  put_at_out h = rw (lt-leb _ _ h)

  -- what holds of the list with vs written, and of the list as it is, holds of what is left
  put_at-either : (P : List ℕ → Type 0) → (p + length vs ≤ length s → P (take p s ++ vs ++ drop (p + length vs) s)) → P s → P (put_at s p vs)
  put_at-either P f g =
      ⊎_elim
      (λ (h : p + length vs ≤ length s). rw (put_at_in h) (f h))
      (λ (h : length s < p + length vs). rw (put_at_out h) g)
      (le_or_lt (p + length vs) (length s))

  pub length-put_at : length (put_at s p vs) ≡ length s
  length-put_at =
      put_at-either (λ t. length t ≡ length s)
      (λ h. simp (length-append, length-drop) (omega (arith, length-take-le p s (omega arith))))
      refl

pub put_at_nil : (s : List ℕ) (p : ℕ) → put_at s p [] ≡ s
put_at_nil s p = put_at-either s p [] (λ t. t ≡ s) (λ _. rw (append-nil, add-zero) (take-append-drop p s)) refl

pub put_at-whole : (s vs : List ℕ) → length vs ≡ length s → put_at s 0 vs ≡ vs
put_at-whole s vs e = put_at_in s 0 vs (omega arith) ∙ rw (drop_of_length-le s {i = 0 + length vs} (omega arith)) (append-nil vs)

-- A list that is filled from the front, P so far and the rest as in o, takes vs right after P.
pub front_step : (o P vs : List ℕ) (w : ℕ) → length P ≡ w → w + length vs ≤ length o → put_at (P ++ drop w o) w vs ≡ P ++ vs ++ drop (w + length vs) o
front_step o P vs w e h =
    let b = P ++ drop w o in
    put_at_in b w vs (omega (arith, length-append P (drop w o), length-drop w o))
    ∙ rw (take_at P (drop w o) w e, ← drop-drop (length vs) w (P ++ drop w o), drop_at P (drop w o) w e, drop-drop (length vs) w o)

-- Two writes side by side are one.
pub put_at-join : (s : List ℕ) (p : ℕ) (a b : List ℕ) (q : ℕ) → p + length a ≡ q → q + length b ≤ length s → put_at (put_at s p a) q b ≡ put_at s p (a ++ b)
put_at-join s p a b q e h =
    let l : p + length (a ++ b) ≡ q + length b = omega (arith, length-append a b) in
    rw (put_at_in s p a (omega arith), put_at_in s p (a ++ b) (omega arith), l, e, ← append_assoc (take p s) a b)
    (front_step s (take p s ++ a) b q (omega (arith, length-append (take p s) a, length-take-le p s (omega arith))) h)

-- A copy into the k elements from p on is one write.
pub put_mid-put_at : (s : List ℕ) (p k : ℕ) (ys vs : List ℕ) → ys ≡ vs → length vs ≡ k → p + k ≤ length s → put_mid p k s ys ≡ put_at s p vs
put_mid-put_at s p k ys vs e l h = put_mid-paste p k s ys vs k e refl (sym l) ∙ rw (← l, take-length) (sym (put_at_in s p vs (omega arith)))

-- ---- reading what was written, and beside it

module _ (s : List ℕ) (p : ℕ) (vs : List ℕ) where
  -- what lies before the written part, and after it
  pub take-put_at : take p (put_at s p vs) ≡ take p s
  take-put_at =
      put_at-either s p vs (λ t. take p t ≡ take p s)
      (λ h. rw append_assoc (take_at (take p s) (vs ++ drop (p + length vs) s) p (length-take-le p s (omega arith))))
      refl

  front : p + length vs ≤ length s → length (take p s ++ vs) ≡ p + length vs
  front h = omega (arith, length-append (take p s) vs, length-take-le p s (omega arith))

  pub drop-put_at : drop (p + length vs) (put_at s p vs) ≡ drop (p + length vs) s
  drop-put_at =
      put_at-either s p vs (λ t. drop (p + length vs) t ≡ drop (p + length vs) s)
      (λ h. drop_at (take p s ++ vs) (drop (p + length vs) s) (p + length vs) (front h))
      refl

  -- a number in the written part, before it and after it
  module _ (n : ℕ) where
    pub number_at_written : (k : ℕ) → p + length vs ≤ length s → k + n ≤ length vs → number_at n (put_at s p vs) (p + k) ≡ number_at n vs k
    number_at_written k h l =
        rw (put_at_in s p vs h, append_assoc)
        (number_at-second n (take p s) (vs ++ drop (p + length vs) s) p k (length-take-le p s (omega arith)) ∙ number_at-first n vs (drop (p + length vs) s) k l)

    pub number_at_before : (q : ℕ) → q + n ≤ p → number_at n (put_at s p vs) q ≡ number_at n s q
    number_at_before q l =
        sym (number_at-take n (put_at s p vs) p q l) ∙ ap (λ (t : List ℕ). number_at n t q) take-put_at ∙ number_at-take n s p q l

    pub number_at-after : (q : ℕ) → p + length vs ≤ q → number_at n (put_at s p vs) q ≡ number_at n s q
    number_at-after q l =
        let m = p + length vs in
        let e : m + (q - m) ≡ q = omega arith in
        put_at-either s p vs (λ t. number_at n t q ≡ number_at n s q)
        (λ h. rw e at (number_at-second n (take p s ++ vs) (drop m s) m (q - m) (front h) ∙ number_at-drop n s m (q - m) h))
        refl

-- ---- rows of w bytes each

module _ (r : ℕ → List ℕ) (w : ℕ) (e : (k : ℕ) → length (r k) ≡ w) where
  pub length_rows : (n : ℕ) → length (rows r n) ≡ w * n
  unfolding rows
  length_rows zero = sym (mul-zero w)
  length_rows (suc n) = rw mul-suc (omega (arith, length-append (rows r n) (r n), length_rows n, e n))

  -- a row more, right after n rows
  pub rows_put : (s : List ℕ) (p n : ℕ) → p + w * (n + 1) ≤ length s → put_at (put_at s p (rows r n)) (p + w * n) (r n) ≡ put_at s p (rows r (n + 1))
  unfolding rows
  rows_put s p n h =
      let h' : p + (w * n + w) ≤ length s = rw (add-one, mul-suc) at h in
      rw add-one (put_at-join s p (rows r n) (r n) (p + w * n) (ap (λ (k : ℕ). p + k) (length_rows n)) (omega (arith, e n)))

  -- A list that is filled from its front: no row, one more, and all that it has room for.
  pub front_none : (s : List ℕ) → s ≡ put_at s 0 (rows r 0)
  unfolding rows
  front_none s = sym (put_at_nil s 0)

  pub front_more : (s : List ℕ) (n : ℕ) → w * (n + 1) ≤ length s → put_at (put_at s 0 (rows r n)) (w * n) (r n) ≡ put_at s 0 (rows r (n + 1))
  front_more s n h = rw zero-add at (rows_put s 0 n (rw zero-add h))

  pub front_all : (s : List ℕ) (n : ℕ) → length s ≡ w * n → put_at s 0 (rows r n) ≡ rows r n
  front_all s n h = put_at-whole s (rows r n) (length_rows n ∙ sym h)

  -- a number in row k
  pub number_at-rows : (m n k j : ℕ) → k < n → j + m ≤ w → number_at m (rows r n) (w * k + j) ≡ number_at m (r k) j
  unfolding rows
  number_at-rows m zero k j h l = absurd (omega arith)
  number_at-rows m (suc n) k j h l =
      ⊎_elim
      (λ (g : n ≤ k). let q : k ≡ n = omega arith in rw q (number_at-second m (rows r n) (r n) (w * n) j (length_rows n)))
      (λ (g : k < n).
      let b : w * k + w ≤ w * n = rw mul-suc at (mul-le-mul_left w g) in
      number_at-first m (rows r n) (r n) (w * k + j) (omega (arith, length_rows n)) ∙ number_at-rows m n k j g l)
      (le_or_lt n k)
