-- The `match` on a mask is three tests of a bit, one after another; a mask above 7 is all three.
use mathlib.Core.Path.{◌≡◌, refl}
use mathlib.Core.Bool.{Bool, true, false, cond}
use Prim.Native.Nat.{ℕ, zero, suc, ◌<◌}
use native.Mathlib.Omega.{arith}
use borrow.Author.Tests.{lt-ltb, ne_eqb}
use lib.Dec.{eqb}
use lib.Ieee.{Float}
use Rattle.mixing.specs.declared.MixingTopology.{MixingTopology}
use Rattle.signals.specs.declared.RoutedSignals.{RoutedSignals}
use Rattle.signals.specs.declared.Voices.{Voices}
use Rattle.transients.specs.declared.SawBlends.{SawBlends}
use Rattle.signals.specs.Signals.{is_masked_of, masked_of, add_filter_voice_of, add_bypass_voice_of, add_filter_voices_of, add_voices_of}

other_mask : (mask k : ℕ) → k < mask → eqb mask k ≡ false
other_mask mask k h = ne_eqb mask k (λ (e : mask ≡ k). omega (arith, h, e))

pub masked_told : (one two three : RoutedSignals → RoutedSignals) (mask : ℕ) (s : RoutedSignals)
    → let a = cond (is_masked_of mask 0) (one s) s in
    let b = cond (is_masked_of mask 1) (two a) a in
    cond (is_masked_of mask 2) (three b) b ≡ masked_of one two three mask s
unfolding masked_of
masked_told one two three zero s = refl
masked_told one two three (suc zero) s = refl
masked_told one two three (suc (suc zero)) s = refl
masked_told one two three (suc (suc (suc zero))) s = refl
masked_told one two three (suc (suc (suc (suc zero)))) s = refl
masked_told one two three (suc (suc (suc (suc (suc zero))))) s = refl
masked_told one two three (suc (suc (suc (suc (suc (suc zero)))))) s = refl
masked_told one two three (suc (suc (suc (suc (suc (suc (suc zero))))))) s = refl
masked_told one two three (suc (suc (suc (suc (suc (suc (suc (suc n)))))))) s =
    let mask : ℕ = suc (suc (suc (suc (suc (suc (suc (suc n))))))) in
    let all : 7 < mask = omega arith in
    rw (
      lt-ltb 7 mask all,
      other_mask mask 0 (omega (arith, all)),
      other_mask mask 1 (omega (arith, all)),
      other_mask mask 2 (omega (arith, all)),
      other_mask mask 3 (omega (arith, all)),
      other_mask mask 4 (omega (arith, all)),
      other_mask mask 5 (omega (arith, all)),
      other_mask mask 6 (omega (arith, all)),
    ) refl

-- What a step gives that is taken where its test holds.
pub record Step (test : Bool) (after added before : RoutedSignals) : Type 0 where
  pub is : after ≡ cond test added before

pub step_told : (test : Bool) {told : Bool} {after added before : RoutedSignals} → told ≡ test → (told ≡ true → after ≡ added) → (told ≡ false → after ≡ before) → Step test after added before
step_told test {told = true} e on off = record { is = rw (← e) (on refl) }
step_told test {told = false} e on off = record { is = rw (← e) (off refl) }

-- one voice after another, first into the filter, then beside it
pub voices_told : (t : MixingTopology) (voices : Voices) (blends : SawBlends) (resting : Float) (s : RoutedSignals) {f1 f2 f3 b1 b2 b3 : RoutedSignals}
    → let f = t.filter_internal_mask in
    let b = t.bypass_internal_mask in
    Step (is_masked_of f 0) f1 (add_filter_voice_of s voices.one resting) s
    → Step (is_masked_of f 1) f2 (add_filter_voice_of f1 voices.two resting) f1
    → Step (is_masked_of f 2) f3 (add_filter_voice_of f2 voices.three resting) f2
    → Step (is_masked_of b 0) b1 (add_bypass_voice_of f3 voices.one blends.one resting) f3
    → Step (is_masked_of b 1) b2 (add_bypass_voice_of b1 voices.two blends.two resting) b1
    → Step (is_masked_of b 2) b3 (add_bypass_voice_of b2 voices.three blends.three resting) b2
    → b3 ≡ add_voices_of t voices blends resting s
unfolding add_voices_of
voices_told t voices blends resting s {f1} {f2} {f3} {b1} {b2} p1 p2 p3 q1 q2 q3 =
    let filtered : f3 ≡ add_filter_voices_of t.filter_internal_mask voices resting s =
    rw (p3.is, p2.is, p1.is) (masked_told _ _ _ t.filter_internal_mask s) in
    rw (q3.is, q2.is, q1.is, filtered) (masked_told _ _ _ t.bypass_internal_mask _)

-- What three steps keep, between two sums that are taken side by side, the `match` keeps.
module _ (R : RoutedSignals → RoutedSignals → Type 0) where
  either : (b : Bool) {x x' y y' : RoutedSignals} → R x x' → R y y' → R (cond b x y) (cond b x' y')
  either true p q = p
  either false p q = q

  pub masked_keeps : {one two three one' two' three' : RoutedSignals → RoutedSignals} (mask : ℕ)
      → ((s s' : RoutedSignals) → R s s' → R (one s) (one' s'))
      → ((s s' : RoutedSignals) → R s s' → R (two s) (two' s'))
      → ((s s' : RoutedSignals) → R s s' → R (three s) (three' s'))
      → (s s' : RoutedSignals) → R s s' → R (masked_of one two three mask s) (masked_of one' two' three' mask s')
  unfolding masked_of
  masked_keeps mask p q r s s' k =
      either (eqb mask 0) k
      (either (eqb mask 1) (p _ _ k)
      (either (eqb mask 2) (q _ _ k)
      (either (eqb mask 3) (q _ _ (p _ _ k))
      (either (eqb mask 4) (r _ _ k)
      (either (eqb mask 5) (r _ _ (p _ _ k))
      (either (eqb mask 6) (r _ _ (q _ _ k))
      (r _ _ (q _ _ (p _ _ k)))))))))

-- The same of one sum alone.
pub masked_each : (P : RoutedSignals → Type 0) {one two three : RoutedSignals → RoutedSignals} (mask : ℕ)
    → ((s : RoutedSignals) → P s → P (one s))
    → ((s : RoutedSignals) → P s → P (two s))
    → ((s : RoutedSignals) → P s → P (three s))
    → (s : RoutedSignals) → P s → P (masked_of one two three mask s)
masked_each P {one} {two} {three} mask p q r s k =
    masked_keeps (λ (s s' : RoutedSignals). P s) {one' = one} {two' = two} {three' = three} mask
    (λ (s s' : RoutedSignals). p s) (λ (s s' : RoutedSignals). q s) (λ (s s' : RoutedSignals). r s) s s k
