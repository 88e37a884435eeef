-- Sixteen words: each usable where none is found that is not; and each at its place.
use Prim.Native.Nat.{ℕ, zero, suc, ◌+◌, ◌*◌, ◌<◌}
use mathlib.Core.Path.{◌≡◌, refl, ap, ◌∙◌}
use mathlib.Core.Bool.{Bool, true, false, cond, ◌&&◌}
use mathlib.Core.List.{List, [], ◌∷◌}
use native.Mathlib.Nat.{add-zero}
use native.Mathlib.Omega.{arith}
use borrow.Author.Tests.{eq-eqb, ne_eqb}
use lib.Dec.{eqb}
use lib.ListN.{length, get_or, drop, drop_of_length-le}
use lib.Seq.{drop-cons}
use Rattle.wire.specs.Wire.{u32_at, sixteen_at, usable_of, all_usable}
use Rattle.wire.specs.First.{first, usable_entry, first_unusable_of}

-- The words of the n entries from i on.
abbrev words_from : List ℕ → ℕ → ℕ → ℕ → List ℕ
words_from s p zero i = []
words_from s p (suc n) i = u32_at s (p + 4 * i) ∷ words_from s p n (suc i)

word_from : (s : List ℕ) (p n i k : ℕ) → k < n → get_or (words_from s p n i) k 0 ≡ u32_at s (p + 4 * (i + k))
word_from s p zero i k h = absurd (omega arith)
word_from s p (suc n) i zero h = rw (add-zero i) refl
word_from s p (suc n) i (suc k) h =
    let q : suc i + k ≡ i + suc k = omega arith in
    rw q at (word_from s p n (suc i) k (omega arith))

-- The first unusable one is past the end where each is usable, and nowhere else.
none_is_all : (s : List ℕ) (p n i : ℕ) → eqb (first (usable_entry s p) n i) (i + n) ≡ all_usable (words_from s p n i)
unfolding first usable_entry
none_is_all s p zero i = let q : i ≡ i + 0 = omega arith in eq-eqb _ _ q
none_is_all s p (suc n) i = go (usable_of (u32_at s (p + 4 * i))) (none_is_all s p n (suc i))
  where
    go : (u : Bool) → eqb (first (usable_entry s p) n (suc i)) (suc i + n) ≡ all_usable (words_from s p n (suc i))
        → eqb (cond u (first (usable_entry s p) n (suc i)) i) (i + suc n) ≡ (u && all_usable (words_from s p n (suc i)))
    go true e = let q : i + suc n ≡ suc i + n = omega arith in rw q e
    go false e = ne_eqb i (i + suc n) (λ q. omega arith)

module _ (s : List ℕ) (p : ℕ) where
  pub by_first : eqb (first_unusable_of s p 16) 16 ≡ all_usable (sixteen_at s p)
  by_first = none_is_all s p 16 0 ∙ rw (add-zero p) refl

-- Sixteen words that are each at their places.
abbrev items : List ℕ → ℕ → ℕ → List ℕ
items ws zero i = []
items ws (suc n) i = get_or ws i 0 ∷ items ws n (suc i)

items_same : (ws : List ℕ) (n i : ℕ) → length ws ≡ i + n → drop i ws ≡ items ws n i
items_same ws zero i e = drop_of_length-le ws (omega arith)
items_same ws (suc n) i e = drop-cons ws i 0 (omega arith) ∙ ap (λ (t : List ℕ). get_or ws i 0 ∷ t) (items_same ws n (suc i) (omega arith))

pub by_items : (s : List ℕ) (p : ℕ) (ws : List ℕ) → length ws ≡ 16
    → get_or ws 0 0 ≡ u32_at s p
    → get_or ws 1 0 ≡ u32_at s (p + 4)
    → get_or ws 2 0 ≡ u32_at s (p + 8)
    → get_or ws 3 0 ≡ u32_at s (p + 12)
    → get_or ws 4 0 ≡ u32_at s (p + 16)
    → get_or ws 5 0 ≡ u32_at s (p + 20)
    → get_or ws 6 0 ≡ u32_at s (p + 24)
    → get_or ws 7 0 ≡ u32_at s (p + 28)
    → get_or ws 8 0 ≡ u32_at s (p + 32)
    → get_or ws 9 0 ≡ u32_at s (p + 36)
    → get_or ws 10 0 ≡ u32_at s (p + 40)
    → get_or ws 11 0 ≡ u32_at s (p + 44)
    → get_or ws 12 0 ≡ u32_at s (p + 48)
    → get_or ws 13 0 ≡ u32_at s (p + 52)
    → get_or ws 14 0 ≡ u32_at s (p + 56)
    → get_or ws 15 0 ≡ u32_at s (p + 60)
    → ws ≡ sixteen_at s p
by_items s p ws l e0 e1 e2 e3 e4 e5 e6 e7 e8 e9 e10 e11 e12 e13 e14 e15 =
    items_same ws 16 0 l ∙ rw (e0, e1, e2, e3, e4, e5, e6, e7, e8, e9, e10, e11, e12, e13, e14, e15) refl
