-- Laws of the layout, and of the entries that a call reads.
use Prim.Native.Nat.{ℕ, zero, suc, ◌+◌, ◌-◌, ◌*◌, ◌/◌, ◌%◌, ◌^◌, ◌≤◌, ◌<◌}
use mathlib.Core.Path.{◌≡◌, refl, sym, ap, ◌∙◌}
use mathlib.Core.Bool.{Bool, true, false, cond}
use mathlib.Core.Logic.{⊎_elim}
use mathlib.Core.List.{List, [], ◌∷◌, ◌++◌}
use native.Mathlib.Omega.{arith}
use native.Mathlib.Numerals.{add-one}
use native.Mathlib.Nat.{add-zero, zero-div, zero-mod, div-one, div-div-eq-div-mul}
use lib.IntN.{ℤ, pos, negsuc}
use lib.ListN.{length, get_or, drop, get_or-append}
use lib.Pow.{pow-add}
use lib.Seq.{drop-cons, get_or-append-add}
use mir.Syntax.{w16}
use mir.Val.{of_z, SFits}
use Rattle.answers.specs.declared.Buffer.{Buffer}
use Rattle.answers.specs.declared.Refusal.TheVariants.{Entry}
use Rattle.answers.specs.Answers.{first_of, done}
use Rattle.wire.specs.Wire.{little, bytes_of, Bytes, byte_at, usable_at}
use Rattle.wire.proofs.Laws.{le_or_lt, length-bytes_of, bytes_of-little}
use borrow.Author.Tests.{eq-eqb}
use Rattle.bundle.specs.Layout.{bundle_length, sections, pairs, words, header, displacement_index_of}
use Rattle.bundle.specs.Opening.{header_byte, judge_places_of}
use Rattle.std.specs.Prelude.{Err}

-- ---- the bytes of numbers that stand one after the other

byte_of : (n v j : ℕ) → j < n → get_or (bytes_of n v) j 0 ≡ v / 2 ^ (8 * j) % 256
unfolding bytes_of
byte_of zero v j h = absurd (omega arith)
byte_of (suc n) v zero h = rw div-one
byte_of (suc n) v (suc j) h =
    let e : 8 * suc j ≡ 8 + 8 * j = omega arith in
    rw (byte_of n (v / 256) j (omega arith), div-div-eq-div-mul, e, pow-add)

pub byte_of_words : (ns : List ℕ) (k : ℕ) → get_or (words ns) k 0 ≡ get_or ns (k / 4) 0 / 2 ^ (8 * (k % 4)) % 256
unfolding words
byte_of_words [] k = rw (zero-div, zero-mod)
byte_of_words (n ∷ rest) k =
    ⊎_elim
    (λ (h : 4 ≤ k).
    let j = k - 4 in
    let e : k ≡ 4 + j = omega arith in
    let q : k / 4 ≡ suc (j / 4) = omega arith in
    let r : k % 4 ≡ j % 4 = omega arith in
    rw (q, r) (ap (λ (i : ℕ). get_or (bytes_of 4 n ++ words rest) i 0) e ∙ four_on n rest j ∙ byte_of_words rest j))
    (λ (h : k < 4).
    let q : k / 4 ≡ 0 = omega arith in
    let r : k % 4 ≡ k = omega arith in
    rw (q, r) (get_or-append (bytes_of 4 n) (words rest) 0 k (rw length-bytes_of h) ∙ byte_of 4 n k h))
    (le_or_lt 4 k)
  where
    four_on : (n : ℕ) (rest : List ℕ) (j : ℕ) → get_or (bytes_of 4 n ++ words rest) (4 + j) 0 ≡ get_or (words rest) j 0
    four_on n rest j = rw length-bytes_of at (get_or-append-add (bytes_of 4 n) (words rest) j 0)

-- four bytes are the digits of their number
digit : (a b c d : ℕ) → a < 256 → b < 256 → c < 256 → d < 256 → (j : ℕ) → j < 4 → get_or (a ∷ b ∷ c ∷ d ∷ []) j 0 ≡ little (a ∷ b ∷ c ∷ d ∷ []) / 2 ^ (8 * j) % 256
digit a b c d A B C D j h = ap (λ (bs : List ℕ). get_or bs j 0) (sym (bytes_of-little (a ∷ b ∷ c ∷ d ∷ []) bytes)) ∙ byte_of 4 (little (a ∷ b ∷ c ∷ d ∷ [])) j h
  where
    bytes : Bytes (a ∷ b ∷ c ∷ d ∷ [])
    bytes zero = A
    bytes (suc zero) = B
    bytes (suc (suc zero)) = C
    bytes (suc (suc (suc zero))) = D
    bytes (suc (suc (suc (suc i)))) = omega arith

-- four bytes whose number is word k of the header are the header's
pub word_told : (s : List ℕ) (k : ℕ) {a b c d : ℕ} → a ≡ byte_at s (4 * k) → b ≡ byte_at s (4 * k + 1) → c ≡ byte_at s (4 * k + 2) → d ≡ byte_at s (4 * k + 3)
    → a < 256 → b < 256 → c < 256 → d < 256 → little (a ∷ b ∷ c ∷ d ∷ []) ≡ get_or (bundle_length ∷ 6 ∷ pairs sections) k 0
    → (j : ℕ) → j < 4 → header_byte s (4 * k + j) ≡ true
unfolding header_byte header
word_told s k {a} {b} {c} {d} is_a is_b is_c is_d A B C D e j h =
    let q : (4 * k + j) / 4 ≡ k = omega arith in
    let r : (4 * k + j) % 4 ≡ j = omega arith in
    eq-eqb _ _ (here j h ∙ digit a b c d A B C D j h ∙ ap (λ (n : ℕ). n / 2 ^ (8 * j) % 256) e ∙ sym (rw (q, r) at (byte_of_words (bundle_length ∷ 6 ∷ pairs sections) (4 * k + j))))
  where
    here : (j : ℕ) → j < 4 → byte_at s (4 * k + j) ≡ get_or (a ∷ b ∷ c ∷ d ∷ []) j 0
    here zero h = ap (byte_at s) (add-zero (4 * k)) ∙ sym is_a
    here (suc zero) h = sym is_b
    here (suc (suc zero)) h = sym is_c
    here (suc (suc (suc zero))) h = sym is_d
    here (suc (suc (suc (suc i)))) h = absurd (omega arith)

-- ---- the displacement's index, from its 16 bits

pub index_from_zero : (z : ℤ) {b : ℕ} → SFits w16 z → b ≡ of_z w16 z → b < 32768 → b + 57 ≡ displacement_index_of z
index_from_zero (pos n) f e h = omega arith
index_from_zero (negsuc n) f e h = absurd (omega (arith, f.sfits))

pub index_far_below : (z : ℤ) {b : ℕ} → SFits w16 z → b ≡ of_z w16 z → 32768 ≤ b → b < 65479 → 0 ≡ displacement_index_of z
index_far_below (pos n) f e g h = absurd (omega (arith, f.sfits))
index_far_below (negsuc n) f e g h = omega (arith, f.sfits)

pub index_below_zero : (z : ℤ) {b : ℕ} → SFits w16 z → b ≡ of_z w16 z → 65479 ≤ b → b - 65479 ≡ displacement_index_of z
index_below_zero (pos n) f e h = absurd (omega (arith, f.sfits))
index_below_zero (negsuc n) f e h = omega (arith, f.sfits)

pub index_small : (z : ℤ) → SFits w16 z → displacement_index_of z < 32825
index_small (pos n) f = omega (arith, f.sfits)
index_small (negsuc n) f = omega arith

-- ---- the first unusable one among places

module _ (buffer : Buffer) (bytes : List ℕ) where
  -- place i of a list is usable, or it is the first that is not
  module _ (places : List ℕ) (i : ℕ) (h : i < length places) where
    pub judge_on : usable_at bytes (get_or places i 0) ≡ true → judge_places_of buffer bytes (drop i places) ≡ judge_places_of buffer bytes (drop (i + 1) places)
    unfolding judge_places_of
    judge_on u = rw (drop-cons places i 0 h, u, add-one)

    pub judge_off : usable_at bytes (get_or places i 0) ≡ false → judge_places_of buffer bytes (drop i places) ≡ Err (Entry buffer (get_or places i 0))
    unfolding judge_places_of
    judge_off u = rw (drop-cons places i 0 h, u)

  -- places one after the other
  pub judge_append : (a b : List ℕ) → judge_places_of buffer bytes (a ++ b) ≡ first_of (judge_places_of buffer bytes a) (judge_places_of buffer bytes b)
  unfolding judge_places_of
  judge_append [] b = refl
  judge_append (p ∷ a) b = go (usable_at bytes p) (judge_append a b)
    where
      go : (u : Bool) → judge_places_of buffer bytes (a ++ b) ≡ first_of (judge_places_of buffer bytes a) (judge_places_of buffer bytes b)
          → cond u (judge_places_of buffer bytes (a ++ b)) (Err (Entry buffer p)) ≡ first_of (cond u (judge_places_of buffer bytes a) (Err (Entry buffer p))) (judge_places_of buffer bytes b)
      go true e = e
      go false e = refl

  -- done says that each is usable.
  pub judge_done : (places : List ℕ) → judge_places_of buffer bytes places ≡ done → (i : ℕ) → i < length places → usable_at bytes (get_or places i 0) ≡ true
  unfolding judge_places_of
  judge_done [] d i h = absurd (omega arith)
  judge_done (p ∷ rest) d i h = go (usable_at bytes p) refl i h d (judge_done rest)
    where
      go : (u : Bool) → usable_at bytes p ≡ u → (i : ℕ) → i < length (p ∷ rest) → cond u (judge_places_of buffer bytes rest) (Err (Entry buffer p)) ≡ done
          → (judge_places_of buffer bytes rest ≡ done → (k : ℕ) → k < length rest → usable_at bytes (get_or rest k 0) ≡ true) → usable_at bytes (get_or (p ∷ rest) i 0) ≡ true
      go true e zero h d r = e
      go true e (suc i) h d r = r d i (omega arith)
      go false e i h d r = let z : ◌≡◌ {A = ℕ} 0 1 = cc in absurd (omega arith)
