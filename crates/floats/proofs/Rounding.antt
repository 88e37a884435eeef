-- A rounded value with its sign changed; and back from the whole part of a value, which is the value itself from 2 ^ 24 on. Assumes nothing.
use Rattle.std.proofs.Common.{◌≡◌, ℕ, zero, suc, ◌+◌, ◌*◌, ◌/◌, ◌^◌, ◌<◌, ◌≤◌, Bool, true, false, cond, not, T, ltb, ℤ, pos, negsuc, sym, refl, ap, ◌∙◌, true≢false, mul_assoc, div-lt_iff_lt-mul, zero-mul, mul-one, div-le_self, div-one, arith, lit<, pow-add, ltb-true, eqb→eq, pow_pos, eqb-true, mul-pos}
use native.Mathlib.Nat.{zero-div, pow-succ'}
use lib.Ieee.{Float, nan, inf, fin, Format, binary32, prec, emax, low, up, down, lt, eq, neg, round, units, odd, of_bits, of_int, fits, to_unsigned}
use lib.Ieee.Fits.{up_pos, down_pos, round_is, round-fits}
use lib.Ieee.Back.{whole_unique}
use Rattle.floats.specs.Floats.{round_of}
use Rattle.floats.proofs.Formats.{held, exact}
use Rattle.floats.proofs.Laws.{both, uncapped, cast_below, cast_above}

-- ---- the sign

pub neg_odd : (d : ℕ) (s : Bool) (q k l : ℕ) → neg (odd d s q k l) ≡ odd d (not s) q k l
unfolding neg odd
neg_odd d s zero k l = refl
neg_odd d s (suc q) k l = refl

neg_units : (f : Format) (s : Bool) (q k : ℕ) → neg (units f s q k) ≡ units f (not s) q k
unfolding neg units
neg_units f s q k = go (ltb (q * 2 ^ k) (2 ^ (low f + suc (emax f))))
  where
    go : (b : Bool) → neg (cond b (odd (suc (prec f)) s q k (low f)) (inf s)) ≡ cond b (odd (suc (prec f)) (not s) q k (low f)) (inf (not s))
    go true = neg_odd (suc (prec f)) s q k (low f)
    go false = refl

pub neg_round : (f : Format) (s : Bool) (a c : ℕ) → neg (round f s a c) ≡ round f (not s) a c
neg_round f s a c = ap neg (round_is f s a c) ∙ neg_units f s _ _ ∙ sym (round_is f (not s) a c)

-- ---- a whole value is what it rounds to

whole_units : (f : Format) (s : Bool) (m k : ℕ) → T (fits f (fin s m (pos k))) → m < 2 ^ prec f → m * 2 ^ k < 2 ^ suc (emax f) * 1 → fin s m (pos k) ≡ round f s (m * 2 ^ k) 1
whole_units f s m k h few under =
    whole_unique f (fin s m (pos k)) (round f s (m * 2 ^ k) 1) s (m * 2 ^ k) h (round-fits f s (m * 2 ^ k) 1) (refl, refl)
    (exact f s (m * 2 ^ k) 1 m (k + low f) (lit< tt) few under (simp (pow-add, mul-one, mul_assoc)))

-- ---- back from the whole part, n, of a value from 2 ^ 24 on: the value itself below 2 ^ 64, and 2 ^ 64 past it

whole_from_value : (s : Bool) (m : ℕ) (e : ℤ) → T (fits binary32 (fin s m e)) → 16777216 ≤ m * up e / down e → fin s m e ≡ round binary32 s (m * up e / down e) 1
whole_from_value s zero e h l = absurd (omega (arith, rw (zero-mul (up e), zero-div (down e)) at l))
whole_from_value s (suc m) (pos k) h l =
    let z = held binary32 s m (pos k) h in
    whole_units binary32 s (suc m) k h z.few z.under ∙ ap (λ (n : ℕ). round binary32 s n 1) (sym (div-one (suc m * 2 ^ k)))
whole_from_value s (suc m) (negsuc k) h l =
    let few = (held binary32 s m (negsuc k) h).few in
    absurd (omega (arith, div-le_self (suc m * 1) (2 ^ suc k)))

pub whole_from : (x : Float) {n : ℕ} → T (fits binary32 x) → n ≡ to_unsigned 64 x → 16777216 ≤ n → lt x (of_bits binary32 0x5f80_0000) ≡ true → x ≡ of_int binary32 (pos n)
unfolding to_unsigned lt of_bits of_int
whole_from nan h e l t = absurd (omega arith)
whole_from (inf true) h e l t = absurd (omega arith)
whole_from (inf false) h e l t = absurd (true≢false (sym t))
whole_from (fin true m d) h e l t = absurd (omega arith)
whole_from (fin false m d) {n} h e l t =
    let under : m * up d < 18446744073709551616 * down d = omega (arith, ltb-true (m * up d * 1) (18446744073709551616 * down d) t) in
    let q : n ≡ m * up d / down d = e ∙ uncapped (m * up d / down d) 18446744073709551616 ((div-lt_iff_lt-mul (down_pos d)).1 under) in
    rw q (whole_from_value false m d h (omega arith))

top_float : of_bits binary32 0x5f80_0000 ≡ of_int binary32 (pos 0xffff_ffff_ffff_ffff)
unfolding of_bits of_int
top_float = refl

pub whole_past : (x : Float) {n : ℕ} → n ≡ to_unsigned 64 x → 16777216 ≤ n → lt x (of_bits binary32 0x5f80_0000) ≡ false
    → of_bits binary32 0x5f80_0000 ≡ of_int binary32 (pos n)
whole_past x {n} e l t = go (lt (neg (of_bits binary32 0x3f80_0000)) x) refl
  where
    go : (b : Bool) → lt (neg (of_bits binary32 0x3f80_0000)) x ≡ b → of_bits binary32 0x5f80_0000 ≡ of_int binary32 (pos n)
    go true u = top_float ∙ ap (λ (k : ℕ). of_int binary32 (pos k)) (cast_above x u t ∙ sym e)
    go false u = absurd (omega (arith, cast_below x u))

-- ---- a zero is whole

-- one that fits has the exponent 0
zero_exponent : (e : ℤ) → up e * down e ≡ 1 → e ≡ pos 0
zero_exponent (pos zero) h = refl
zero_exponent (pos (suc k)) h = absurd (omega (arith, h, pow-succ' 2 k, pow_pos k))
zero_exponent (negsuc k) h = absurd (omega (arith, h, pow-succ' 2 k, pow_pos k))

pub zero_rounds : (x : Float) → T (fits binary32 x) → eq x (of_bits binary32 0) ≡ true → x ≡ round_of binary32 x
unfolding eq of_bits fits round_of round
zero_rounds nan h z = refl
zero_rounds (inf s) h z = refl
zero_rounds (fin s zero e) h z = rw (zero_exponent e (eqb→eq (up e * down e) 1 h)) refl
zero_rounds (fin s (suc m) e) h z =
    absurd (omega (arith, eqb-true (suc m * up e * 1) (0 * down e) (both _ _ z).0, mul-pos {m = suc m} {n = up e} (omega arith) (up_pos e)))
