-- `usable` on the bits is the same on the float: finite and at most 1,024 in magnitude.
use Prim.Native.Nat.{ℕ, zero, suc, ◌+◌, ◌*◌, ◌/◌, ◌%◌, ◌^◌, ◌≤◌, ◌<◌}
use mathlib.Core.Path.{◌≡◌, refl, ap, sym, ◌∙◌}
use mathlib.Core.Bool.{Bool, true, false, cond, true≢false}
use mathlib.Core.Logic.{⊎_elim}
use native.Mathlib.Omega.{arith}
use native.Mathlib.Nat.{le_trans, le_of_eq, mul_right_comm, mul-le-mul_right, mul-le-mul_left, mul-lt-mul_of_pos_right, le_of_mul-le-mul_right}
use lib.Dec.{T, leb, eqb, lit≤}
use lib.Pow.{pow_pos, pow_mono}
use lib.Ieee.{Float, nan, inf, fin, binary32, up, down, odd, of_fields, of_bits, to_bits, fits}
use lib.Ieee.Bits.{of_bits-to_bits}
use lib.Ieee.Fits.{down_pos}
use lib.Ieee.Exact.{HasValue, odd_sign}
use borrow.Author.Tests.{le-leb, lt-leb, leb-true, eqb-true}
use Rattle.floats.proofs.Sized.{Sized}
use Rattle.wire.specs.Wire.{usable_of}
use Rattle.wire.proofs.Laws.{le_or_lt}

-- finite and at most k in magnitude: `fin s m e` is m * 2 ^ e in size, and 2 ^ e is up e / down e
abbrev pub at_most : ℕ → Float → Bool
at_most k nan = false
at_most k (inf s) = false
at_most k (fin s m e) = leb (m * up e) (k * down e)

-- two orders that hold together
same_order : (a b c d : ℕ) → (a ≤ b → c ≤ d) → (c ≤ d → a ≤ b) → leb a b ≡ leb c d
same_order a b c d f g =
    ⊎_elim
    (λ (h : a ≤ b). le-leb a b h ∙ sym (le-leb c d (f h)))
    (λ (h : b < a). lt-leb a b h ∙ sym (lt-leb c d (⊎_elim (λ (l : c ≤ d). absurd (no (g l) h)) (λ (l : d < c). l) (le_or_lt c d))))
    (le_or_lt a b)
  where
    no : a ≤ b → b < a → ⊥
    no u v = omega arith

-- a float that is a / c in size is at most k where a is at most k * c
of_value : (k : ℕ) (x : Float) (s : Bool) (a c : ℕ) → 0 < c → HasValue x s a c → at_most k x ≡ leb a (k * c)
of_value k nan s a c p v = absurd v
of_value k (inf t) s a c p v = absurd v
of_value k (fin t m e) s a c p v =
    same_order (m * up e) (k * down e) a (k * c)
    (λ h. le_of_mul-le-mul_right (le_trans (le_of_eq (sym v.1)) (le_trans (mul-le-mul_right c h) (le_of_eq (mul_right_comm k (down e) c)))) (down_pos e))
    (λ h. le_of_mul-le-mul_right (le_trans (le_of_eq v.1) (le_trans (mul-le-mul_right (down e) h) (le_of_eq (mul_right_comm k c (down e))))) p)

-- With a leading digit, a float is (2 ^ 23 + t) * 2 ^ x of the smallest values, of which 2 ^ 149 are 1. Up to x = 135 that is at most
-- 2 ^ 159, at x = 136 where t is 0, and from there on not.
normal : (x t : ℕ) → t < 2 ^ 23 → leb ((2 ^ 23 + t) * 2 ^ x) (1024 * 2 ^ 149) ≡ leb (suc x * 2 ^ 23 + t) 0x4480_0000
normal x t l =
    ⊎_elim
    (λ (h : 137 ≤ x). lt-leb ((2 ^ 23 + t) * 2 ^ x) (1024 * 2 ^ 149) (above h) ∙ sym (lt-leb (suc x * 2 ^ 23 + t) 0x4480_0000 (omega arith)))
    (λ (h : x < 137).
    ⊎_elim
    (λ (g : 136 ≤ x). let e : x ≡ 136 = omega arith in rw e at)
    (λ (g : x < 136). le-leb ((2 ^ 23 + t) * 2 ^ x) (1024 * 2 ^ 149) (below g) ∙ sym (le-leb (suc x * 2 ^ 23 + t) 0x4480_0000 (omega arith)))
    (le_or_lt 136 x))
    (le_or_lt 137 x)
  where
    above : 137 ≤ x → 2 ^ 22 * 2 ^ 137 < (2 ^ 23 + t) * 2 ^ x
    above h =
        let u : 2 ^ 22 < 2 ^ 23 + t = omega arith in
        le_trans (mul-lt-mul_of_pos_right u (pow_pos 137)) (mul-le-mul_left (2 ^ 23 + t) (pow_mono h))

    below : x < 136 → (2 ^ 23 + t) * 2 ^ x ≤ 2 ^ 24 * 2 ^ 135
    below g =
        let u : x ≤ 135 = omega arith in
        let v : 2 ^ 23 + t ≤ 2 ^ 24 = omega arith in
        le_trans (mul-le-mul_left (2 ^ 23 + t) (pow_mono u)) (mul-le-mul_right (2 ^ 135) v)

    none : 2 ^ 23 + t ≤ 2 ^ 23 → 137 * 2 ^ 23 + t ≤ 0x4480_0000
    none u = omega arith

    at : leb ((2 ^ 23 + t) * 2 ^ 136) (2 ^ 23 * 2 ^ 136) ≡ leb (137 * 2 ^ 23 + t) 0x4480_0000
    at =
        same_order ((2 ^ 23 + t) * 2 ^ 136) (2 ^ 23 * 2 ^ 136) (137 * 2 ^ 23 + t) 0x4480_0000
        (λ u. none (le_of_mul-le-mul_right u (pow_pos 136)))
        (λ u. let v : 2 ^ 23 + t ≤ 2 ^ 23 = omega arith in mul-le-mul_right (2 ^ 136) v)

fields : (s : Bool) (x t : ℕ) → x < 256 → t < 2 ^ 23 → at_most 1024 (of_fields binary32 s x t) ≡ leb (x * 2 ^ 23 + t) 0x4480_0000
unfolding of_fields
fields s zero t h l =
    let u : t * 2 ^ 0 ≤ 2 ^ 23 = omega arith in
    of_value 1024 (odd 24 s t 0 149) s (t * 2 ^ 0) (2 ^ 149) (pow_pos 149) (odd_sign 24 s t 0 149)
    ∙ le-leb (t * 2 ^ 0) (1024 * 2 ^ 149) (le_trans u (lit≤ tt))
    ∙ sym (le-leb (0 * 2 ^ 23 + t) 0x4480_0000 (omega arith))
fields s (suc x) t h l = go (eqb (suc x) 255) (eqb t 0) refl
  where
    go : (a b : Bool) → eqb (suc x) 255 ≡ a → at_most 1024 (cond a (cond b (inf s) nan) (odd 24 s (2 ^ 23 + t) x 149)) ≡ leb (suc x * 2 ^ 23 + t) 0x4480_0000
    go true true e = sym (lt-leb (suc x * 2 ^ 23 + t) 0x4480_0000 (omega (arith, eqb-true (suc x) 255 e)))
    go true false e = sym (lt-leb (suc x * 2 ^ 23 + t) 0x4480_0000 (omega (arith, eqb-true (suc x) 255 e)))
    go false b e = of_value 1024 (odd 24 s (2 ^ 23 + t) x 149) s ((2 ^ 23 + t) * 2 ^ x) (2 ^ 149) (pow_pos 149) (odd_sign 24 s (2 ^ 23 + t) x 149) ∙ normal x t l

pub usable_is : (b : ℕ) → usable_of b ≡ at_most 1024 (of_bits binary32 b)
unfolding usable_of of_bits
usable_is b =
    let e : b % 2 ^ 31 ≡ b % 2 ^ 31 / 2 ^ 23 * 2 ^ 23 + b % 2 ^ 23 = omega arith in
    ap (λ (r : ℕ). leb r 0x4480_0000) e ∙ sym (fields (leb (2 ^ 31) b) (b % 2 ^ 31 / 2 ^ 23) (b % 2 ^ 23) (omega arith) (omega arith))

-- ---- the same as a bound

sized_is : (k : ℕ) (x : Float) → at_most k x ≡ true → Sized x k
sized_is k nan h = absurd (true≢false (sym h))
sized_is k (inf s) h = absurd (true≢false (sym h))
sized_is k (fin s m e) h = record { magnitude = leb-true (m * up e) (k * down e) h }

is_sized : (k : ℕ) (x : Float) → Sized x k → at_most k x ≡ true
is_sized k nan h = absurd h.magnitude
is_sized k (inf s) h = absurd h.magnitude
is_sized k (fin s m e) h = le-leb (m * up e) (k * down e) h.magnitude

pub usable_sized : (b : ℕ) → usable_of b ≡ true → Sized (of_bits binary32 b) 1024
usable_sized b h = sized_is 1024 (of_bits binary32 b) (sym (usable_is b) ∙ h)

pub sized_usable : (x : Float) → T (fits binary32 x) → Sized x 1024 → usable_of (to_bits binary32 x) ≡ true
sized_usable x f h = usable_is (to_bits binary32 x) ∙ ap (at_most 1024) (of_bits-to_bits binary32 x f) ∙ is_sized 1024 x h
