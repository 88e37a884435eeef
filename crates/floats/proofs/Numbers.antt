-- Which results are no NaN, and that a NaN is handed on. Assumes nothing.
use Rattle.std.proofs.Common.{◌≡◌, ℕ, zero, suc, ◌+◌, ◌-◌, ◌*◌, ◌^◌, Bool, true, false, cond, not, ◌&&◌, T, ltb, sym, refl, subst, true≢false}
use mathlib.Core.Bool.{beq}
use lib.Dec.{eqb-suc-zero}
use lib.Ieee.{Float, nan, inf, fin, Format, prec, emax, low, odd, units, round, sum, add, sub, mul, is_nan}
use lib.Ieee.Fits.{round_is}
use lib.Ieee.Scale.{finite}
use lib.Ieee.Positive.{positive}

-- finite or infinite
pub record Number (x : Float) : Type 0 where
  pub real : T (not (is_nan x))

-- ---- a rounded result

cond_number : (b : Bool) {x y : Float} → Number x → Number y → Number (cond b x y)
cond_number true h i = h
cond_number false h i = i

inf_number : (s : Bool) → Number (inf s)
unfolding is_nan
inf_number s = record { real = tt }

odd_number : (d : ℕ) (s : Bool) (q k l : ℕ) → Number (odd d s q k l)
unfolding odd is_nan
odd_number d s zero k l = record { real = tt }
odd_number d s (suc q) k l = record { real = tt }

units_number : (f : Format) (s : Bool) (q k : ℕ) → Number (units f s q k)
unfolding units
units_number f s q k = cond_number (ltb (q * 2 ^ k) (2 ^ (low f + suc (emax f)))) (odd_number (suc (prec f)) s q k (low f)) (inf_number s)

round_number : (f : Format) (s : Bool) (a c : ℕ) → Number (round f s a c)
round_number f s a c = subst Number (sym (round_is f s a c)) (units_number f s _ _)

sum_number : (f : Format) (s : Bool) (a : ℕ) (t : Bool) (b c : ℕ) → Number (sum f s a t b c)
unfolding sum
sum_number f s a t b c =
    cond_number (beq s t) (round_number f s (a + b) c) (cond_number (ltb a b) (round_number f t (b - a) c) (round_number f (s && ltb b a) (a - b) c))

-- ---- sums and products

pub add_number : (f : Format) (x y : Float) → finite x ≡ true → finite y ≡ true → Number (add f x y)
unfolding add
add_number f nan y h i = absurd (true≢false (sym h))
add_number f (inf s) y h i = absurd (true≢false (sym h))
add_number f (fin s m e) nan h i = absurd (true≢false (sym i))
add_number f (fin s m e) (inf t) h i = absurd (true≢false (sym i))
add_number f (fin s m e) (fin t n d) h i = sum_number f s _ t _ _

-- a number, an infinity too, times one that is finite and above zero
pub mul_number : (f : Format) (x y : Float) → Number x → T (positive y) → Number (mul f x y)
unfolding mul is_nan
mul_number f nan y h p = absurd h.real
mul_number f (inf s) nan h p = absurd p
mul_number f (inf s) (inf t) h p = absurd p
mul_number f (inf s) (fin true n d) h p = absurd p
mul_number f (inf s) (fin false zero d) h p = absurd p
mul_number f (inf s) (fin false (suc n) d) h p = rw (eqb-suc-zero n) (inf_number _)
mul_number f (fin s m e) nan h p = absurd p
mul_number f (fin s m e) (inf t) h p = absurd p
mul_number f (fin s m e) (fin t n d) h p = round_number f _ _ _

-- ---- what is finite is a number, and so is what a finite difference was taken of

pub finite_number : (x : Float) → finite x ≡ true → Number x
unfolding is_nan
finite_number nan h = absurd (true≢false (sym h))
finite_number (inf s) h = absurd (true≢false (sym h))
finite_number (fin s m e) h = record { real = tt }

pub minuend_number : (f : Format) (x y : Float) → finite (sub f x y) ≡ true → Number x
unfolding sub add is_nan
minuend_number f nan y h = absurd (true≢false (sym h))
minuend_number f (inf s) y h = record { real = tt }
minuend_number f (fin s m e) y h = record { real = tt }

-- ---- a NaN is handed on

pub add_nan : (f : Format) (x : Float) → add f x nan ≡ nan
unfolding add
add_nan f nan = refl
add_nan f (inf s) = refl
add_nan f (fin s m e) = refl

pub mul_nan : (f : Format) (x : Float) → mul f x nan ≡ nan
unfolding mul
mul_nan f nan = refl
mul_nan f (inf s) = refl
mul_nan f (fin s m e) = refl
