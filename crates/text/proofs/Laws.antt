-- Text that grows in a buffer, and a number's digits.
use Prim.Native.Nat.{ℕ, zero, suc, ◌+◌, ◌-◌, ◌*◌, ◌/◌, ◌%◌, ◌^◌, ◌≤◌, ◌<◌, min}
use mathlib.Core.Path.{◌≡◌, refl, sym, ◌∙◌}
use mathlib.Core.Logic.{⊎_elim}
use mathlib.Core.List.{List, [], ◌++◌, append_assoc, append-nil}
use native.Mathlib.Omega.{arith}
use native.Mathlib.Nat.{pow-suc, one-le-pow, pow-le-pow_right}
use lib.Dec.{lit<}
use lib.ListN.{length, take, drop, length-append, length-drop, drop_of_length-le}
use lib.Seq.{length-take-le, take_all, take-length, take-append_seam, take-append-le, take-append-add, drop-append-add, drop-drop, paste}
use borrow.Author.Tests.{lt-ltb, le-ltb}
use borrow.Rule.Slice.PartMut.{put_mid}
use Rattle.io.specs.Digits.{last_digits, IsDigitCount}
use Rattle.wire.proofs.Laws.{le_or_lt}
use Rattle.text.specs.Text.{decimal_in, decimal_of, grown, grown_end}

-- ---- text in a buffer

-- Where the text ends and what the buffer holds, after text was put at a place of d.
abbrev pub Grew : List ℕ → ℕ → List ℕ → List ℕ → ℕ → Type 0
Grew d at s e r = (r ≡ grown_end d at s) × (e ≡ grown d at s)

module _ (d s : List ℕ) (at : ℕ) where
  -- text that fits, and text that passes the end
  grown_fits : at + length s ≤ length d → grown d at s ≡ take at d ++ s ++ drop (at + length s) d
  unfolding grown
  grown_fits h =
      take_all (length d) (take at d ++ s ++ drop (at + length s) d)
      (simp (length-append, length-drop, length-take-le at d (omega arith)) (omega arith))

  grown_cut : at ≤ length d → length d ≤ at + length s → grown d at s ≡ take (length d) (take at d ++ s)
  unfolding grown
  grown_cut h g =
      take-append-le (length d) (take at d ++ s) (drop (at + length s) d) (simp (length-append, length-take-le at d h) g)

  -- a place past the end has no room
  pub grown_past : length d < at → Grew d at s d (length d)
  unfolding grown grown_end
  grown_past h = (omega arith, sym (rw (take_all at d (omega arith), append_assoc d s (drop (at + length s) d)) (take-append_seam d (s ++ drop (at + length s) d))))

  -- the first bytes of s, pasted at a place of d: all that there are, or all that there is room for
  pub pasted : at ≤ length d → Grew d at s (paste d at s (min (length s) (length d - at))) (at + min (length s) (length d - at))
  unfolding grown_end
  pasted h =
      ⊎_elim
      (λ (f : at + length s ≤ length d).
      let e : min (length s) (length d - at) ≡ length s = omega arith in
      rw (e, take_all (length s) s (omega arith)) (omega arith, sym (grown_fits f)))
      (λ (g : length d < at + length s).
      let e : min (length s) (length d - at) ≡ length d - at = omega arith in
      let end : at + (length d - at) ≡ length d = omega arith in
      let k : length (take at d) + (length d - at) ≡ length d = omega (arith, length-take-le at d h) in
      rw (e, end) (omega arith, rw (drop_of_length-le d {i = length d} (omega arith), append-nil) (sym (grown_cut h (omega arith) ∙ rw k at (take-append-add (take at d) s (length d - at))))))
      (le_or_lt (at + length s) (length d))

  -- the same of n bytes y, put in the place of those of d
  pub placed : (n : ℕ) (y : List ℕ) → at ≤ length d → n ≡ min (length s) (length d - at) → y ≡ take n s → Grew d at s (put_mid at (at + n - at) d y) (at + n)
  placed n y h e f =
      let k : at + n - at ≡ n = omega arith in
      rw (k, f, drop-drop n at d, ← append_assoc (take at d) (take n s) (drop (at + n) d), e) (pasted h)

grown_is : (d s : List ℕ) (at : ℕ) → grown d at s ≡ take (length d) (take at d ++ s ++ drop (at + length s) d)
unfolding grown
grown_is d s at = refl

-- text after a head that is there
grown_after : (head tail s : List ℕ) → grown (head ++ tail) (length head) s ≡ take (length (head ++ tail)) (head ++ s ++ drop (length s) tail)
unfolding grown
grown_after head tail s = rw (take-append_seam head tail, drop-append-add head tail (length s))

-- text at a buffer's end changes nothing
grown_at_end : (d s : List ℕ) → grown d (length d) s ≡ d
grown_at_end d s = grown_cut d s (length d) (omega arith) (omega arith) ∙ rw (take-length, take-append_seam)

-- no text changes nothing either, and a text of the buffer's length is all of it
pub grown_none : (d : List ℕ) → Grew d 0 [] d 0
unfolding grown grown_end
grown_none d = (omega arith, sym (take-length d))

pub grown_all : (d s : List ℕ) → length s ≡ length d → grown d 0 s ≡ s
grown_all d s e = grown_cut d s 0 (omega arith) (omega arith) ∙ take_all (length d) s (omega arith)

-- text that grew, and grew again
module _ (d a b : List ℕ) (at : ℕ) (h : at ≤ length d) where
  length_grown : length (grown d at a) ≡ length d
  unfolding grown
  length_grown = length-take-le _ _ (simp (length-append, length-drop, length-take-le at d h) (omega arith))

  pub end_then : grown_end (grown d at a) (grown_end d at a) b ≡ grown_end d at (a ++ b)
  unfolding grown_end
  end_then = rw (length_grown, length-append a b) (omega arith)

  -- where the first text fits
  fits_then : at + length a ≤ length d → grown (grown d at a) (at + length a) b ≡ grown d at (a ++ b)
  fits_then f =
      let head : List ℕ = take at d ++ a in
      let tail : List ℕ = drop (at + length a) d in
      let long : length head ≡ at + length a = omega (arith, length-append (take at d) a, length-take-le at d h) in
      let whole : length (head ++ tail) ≡ length d = rw (grown_fits d a at f) at length_grown in
      let place : at + length (a ++ b) ≡ at + length a + length b = omega (arith, length-append a b) in
      rw (grown_fits d a at f)
      (rw long at (grown_after head tail b)
      ∙ rw (whole, drop-drop (length b) (at + length a) d, append_assoc (take at d) a b, ← place) (sym (grown_is d (a ++ b) at)))

  -- where it does not
  cut_then : length d ≤ at + length a → grown (grown d at a) (length d) b ≡ grown d at (a ++ b)
  cut_then g =
      rw (← length_grown) (grown_at_end (grown d at a) b)
      ∙ grown_cut d a at h g
      ∙ sym
      (grown_cut d (a ++ b) at h (omega (arith, length-append a b))
      ∙ rw (← append_assoc (take at d) a b) (take-append-le (length d) (take at d ++ a) b (omega (arith, length-append (take at d) a, length-take-le at d h))))

  pub put_then : grown (grown d at a) (grown_end d at a) b ≡ grown d at (a ++ b)
  unfolding grown_end
  put_then =
      ⊎_elim
      (λ (f : at + length a ≤ length d). let e : min (at + length a) (length d) ≡ at + length a = omega arith in rw e (fits_then f))
      (λ (g : length d < at + length a). let e : min (at + length a) (length d) ≡ length d = omega arith in rw e (cut_then (omega arith)))
      (le_or_lt (at + length a) (length d))

pub grown_then : (d e t : List ℕ) (at r q : ℕ) (a b : List ℕ) → at ≤ length d → Grew d at a e r → Grew e r b t q → Grew d at (a ++ b) t q
grown_then d e t at r q a b h x y = (y.0 ∙ rw (x.0, x.1) (end_then d a b at h), y.1 ∙ rw (x.0, x.1) (put_then d a b at h))

-- ---- a number's digits

digits_in : (k m n : ℕ) → k < m → n < 10 ^ suc k → (0 < k → 10 ^ k ≤ n) → last_digits 10 (suc k) n ≡ decimal_in m n
unfolding decimal_in
digits_in k zero n l h g = absurd (omega arith)
digits_in zero (suc m) n l h g =
    let few : n < 10 = rw pow-suc at h in
    let e : n % 10 ≡ n = omega arith in
    rw (e, lt-ltb n 10 few)
digits_in (suc k) (suc m) n l h g =
    let one = one-le-pow k 10 (lit< tt) in
    let high : n < 10 ^ suc k * 10 = rw pow-suc at h in
    let low : 10 ^ k * 10 ≤ n = rw pow-suc at (g (omega arith)) in
    let many : 10 ≤ n = omega arith in
    rw (le-ltb n 10 many, digits_in k m (n / 10) (omega arith) (omega arith) (λ _. omega arith))

-- 2^64 is below 10^20
few_digits : (n k : ℕ) → n < 2 ^ 64 → IsDigitCount 10 1 n k → k ≤ 20
few_digits n k l f =
    ⊎_elim
    (λ (h : k ≤ 20). h)
    (λ (h : 20 < k).
    let big : 10 ^ 20 ≤ 10 ^ (k - 1) = pow-le-pow_right (lit< tt) {i = 20} {j = k - 1} (omega arith) in
    let low : 10 ^ (k - 1) ≤ n = f.2 (omega arith) in
    absurd (omega arith))
    (le_or_lt k 20)

-- the fewest digits that hold a number of 64 bits
pub decimal_is : (n k : ℕ) → n < 2 ^ 64 → IsDigitCount 10 1 n k → last_digits 10 k n ≡ decimal_of n
unfolding decimal_of
decimal_is n zero l f = absurd (omega arith)
decimal_is n (suc k) l f =
    let few = few_digits n (suc k) l f in
    let e : suc k - 1 ≡ k = omega arith in
    digits_in k 20 n (omega arith) f.1 (λ h. rw e at (f.2 (omega arith)))
