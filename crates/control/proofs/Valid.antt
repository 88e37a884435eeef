-- Every write and the reset keep a valid state valid, for every value; the starting value is valid; the displacement is -57 to 57 after every step.
use Prim.Native.Nat.{ℕ, zero, suc, ◌+◌, ◌*◌, ◌/◌, ◌≤◌, min}
use mathlib.Core.Path.{◌≡◌, refl, sym}
use mathlib.Core.Bool.{Bool, true, false, cond, ◌&&◌, true≢false}
use native.Mathlib.Omega.{arith}
use native.Mathlib.Nat.{div-le_of_le-mul}
use lib.Dec.{leb, ltb}
use lib.IntN.{ℤ, pos, negsuc, neg_ℤ, nat_abs, ◌+ℤ◌}
use lib.Signed.{le_z, lt_z}
use lib.Ieee.{Float, nan, inf, fin, up, down, lt, neg, of_int, of_bits, to_signed, fits}
use borrow.Author.Tests.{le-leb, leb-true, ltb-false}
use Rattle.floats.proofs.Laws.{both}
use Rattle.floats.specs.Floats.{clamp_of, finite_f32_of}
use Rattle.integrator.specs.declared.IntegratorState.{IntegratorState}
use Rattle.transients.specs.declared.TransientState.{TransientState}
use Rattle.transients.specs.Transients.{finite_transients_of}
use Rattle.transients.proofs.Laws.{starting_finite}
use Rattle.control.specs.declared.State.{State}
use Rattle.control.specs.Registers.{displacement_of, displaced_of, effective_cutoff_of, starting_state, with_cutoff}
use Rattle.control.specs.Registers.{with_nibbles, with_transients, write_cutoff_low_of, write_cutoff_high_of, write_signal_routing_of, write_mode_and_volume_of}
use Rattle.control.specs.Block.{valid_registers_of, finite_floats_of, valid_of}

-- ---- the displacement

pub record Within (d : ℤ) : Type 0 where
  pub low : le_z (negsuc 56) d ≡ true
  pub high : le_z d (pos 57) ≡ true

small : (s : Bool) (q a b : ℕ) → q ≤ 57 → Within (cond s (neg_ℤ (pos (min q (57 + a)))) (pos (min q (57 + b))))
small true q a b h = go (min q (57 + a)) (omega arith)
  where
    go : (n : ℕ) → n ≤ 57 → Within (neg_ℤ (pos n))
    go zero l = record { low = refl; high = refl }
    go (suc n) l = record { low = le-leb n 56 (omega arith); high = refl }
small false q a b h = record { low = refl; high = le-leb (min q (57 + b)) 57 (omega arith) }

clamped : (x : Float) → Within (to_signed 15 (clamp_of x (fin true 57 (pos 0)) (fin false 57 (pos 0))))
unfolding lt to_signed
clamped nan = record { low = refl; high = refl }
clamped (inf true) = record { low = refl; high = refl }
clamped (inf false) = record { low = refl; high = refl }
clamped (fin s m e) = go s (lt (fin s m e) (fin true 57 (pos 0))) (lt (fin false 57 (pos 0)) (fin s m e)) refl refl
  where
    go : (t a b : Bool) → lt (fin t m e) (fin true 57 (pos 0)) ≡ a → lt (fin false 57 (pos 0)) (fin t m e) ≡ b
        → Within (to_signed 15 (cond a (fin true 57 (pos 0)) (cond b (fin false 57 (pos 0)) (fin t m e))))
    go t true b p q = record { low = refl; high = refl }
    go t false true p q = record { low = refl; high = refl }
    go true false false p q = small true (m * up e / down e) 32711 32710 (div-le_of_le-mul (down e) (omega (arith, ltb-false (57 * down e) (m * up e * 1) p)))
    go false false false p q = small false (m * up e / down e) 32711 32710 (div-le_of_le-mul (down e) (omega (arith, ltb-false (57 * down e) (m * up e * 1) q)))

-- The displacement's range, for every step.
pub displacement_within : (step : ℤ) → Within (displacement_of step)
unfolding displacement_of of_int neg
displacement_within step = clamped _

-- ---- a valid state, by its facts

pub four : (a b c d : Bool) → (a && b && c && d) ≡ true → (a ≡ true) × (b ≡ true) × (c ≡ true) × (d ≡ true)
four true true true d h = (refl, refl, refl, h)
four true true false d h = absurd (true≢false (sym h))
four true false c d h = absurd (true≢false (sym h))
four false b c d h = absurd (true≢false (sym h))

pub record Ranges (s : State) : Type 0 where
  pub cutoff : s.registers.cutoff ≤ 2047
  pub base : s.registers.cutoff_write_base ≤ 2047
  pub displacement : Within s.registers.cutoff_dac_displacement_codes
  pub resonance : s.registers.resonance ≤ 15
  pub routing : s.registers.routing ≤ 15
  pub mode : s.registers.mode ≤ 15
  pub volume : s.registers.volume ≤ 15
  pub floats : finite_floats_of s.integrator ≡ true
  pub transients : finite_transients_of s.transients ≡ true

pub valid_ranges : (s : State) → valid_of s ≡ true → Ranges s
unfolding valid_of valid_registers_of
valid_ranges s v =
    let r = s.registers in
    let d = r.cutoff_dac_displacement_codes in
    let codes = leb r.cutoff 2047 && leb r.cutoff_write_base 2047 && le_z (negsuc 56) d && le_z d (pos 57) in
    let nibbles = leb r.resonance 15 && leb r.routing 15 && leb r.mode 15 && leb r.volume 15 in
    let w = four true (codes && nibbles) (finite_floats_of s.integrator) (finite_transients_of s.transients) v in
    let h = both codes nibbles w.1 in
    let c = four (leb r.cutoff 2047) (leb r.cutoff_write_base 2047) (le_z (negsuc 56) d) (le_z d (pos 57)) h.0 in
    let n = four (leb r.resonance 15) (leb r.routing 15) (leb r.mode 15) (leb r.volume 15) h.1 in
    record {
      cutoff = leb-true r.cutoff 2047 c.0;
      base = leb-true r.cutoff_write_base 2047 c.1;
      displacement = record { low = c.2; high = c.3 };
      resonance = leb-true r.resonance 15 n.0;
      routing = leb-true r.routing 15 n.1;
      mode = leb-true r.mode 15 n.2;
      volume = leb-true r.volume 15 n.3;
      floats = w.2;
      transients = w.3;
    }

pub ranges_valid : (s : State) → Ranges s → valid_of s ≡ true
unfolding valid_of valid_registers_of
ranges_valid s k =
    rw (
      le-leb _ _ k.cutoff,
      le-leb _ _ k.base,
      k.displacement.low,
      k.displacement.high,
      le-leb _ _ k.resonance,
      le-leb _ _ k.routing,
      le-leb _ _ k.mode,
      le-leb _ _ k.volume,
      k.floats,
    ) k.transients

-- The starting value, which the reset gives.
pub starting_valid : valid_of starting_state ≡ true
unfolding valid_of valid_registers_of finite_floats_of finite_f32_of of_bits fits
starting_valid = starting_finite

-- A state stays valid with other transients, cutoff fields, nibbles or floats that are in range.
registers_valid : (s : State) → valid_of s ≡ true → valid_registers_of s.registers ≡ true
unfolding valid_of
registers_valid s h = (four true (valid_registers_of s.registers) (finite_floats_of s.integrator) (finite_transients_of s.transients) h).1

transients_valid : (s : State) → valid_of s ≡ true → (t : TransientState) → finite_transients_of t ≡ true → valid_of (with_transients s t) ≡ true
unfolding valid_of
transients_valid s h t f = rw (registers_valid s h, (valid_ranges s h).floats) f

module _ (s : State) (h : valid_of s ≡ true) where
  k : Ranges s
  k = valid_ranges s h

  cutoff_valid : (cutoff : ℕ) (displacement : ℤ) (base : ℕ) (pending : Bool) → cutoff ≤ 2047 → Within displacement → base ≤ 2047 → valid_of (with_cutoff s cutoff displacement base pending) ≡ true
  cutoff_valid cutoff displacement base pending c d b =
      ranges_valid (with_cutoff s cutoff displacement base pending)
      (record {
        cutoff = c;
        displacement = d;
        base = b;
        resonance = k.resonance;
        routing = k.routing;
        mode = k.mode;
        volume = k.volume;
        floats = k.floats;
        transients = k.transients;
      })

  nibbles_valid : (resonance routing mode volume : ℕ) → resonance ≤ 15 → routing ≤ 15 → mode ≤ 15 → volume ≤ 15 → valid_of (with_nibbles s resonance routing mode volume) ≡ true
  nibbles_valid resonance routing mode volume r f m v =
      ranges_valid (with_nibbles s resonance routing mode volume)
      (record {
        cutoff = k.cutoff;
        displacement = k.displacement;
        base = k.base;
        resonance = r;
        routing = f;
        mode = m;
        volume = v;
        floats = k.floats;
        transients = k.transients;
      })

  pub floats_valid : (i : IntegratorState) → finite_floats_of i ≡ true → valid_of (record { registers = s.registers; integrator = i; transients = s.transients }) ≡ true
  unfolding valid_of
  floats_valid i f = rw (registers_valid s h, f) k.transients

  -- ---- the writes, for every value
  module _ (v : ℕ) where
    pub low_valid : valid_of (write_cutoff_low_of s v) ≡ true
    low_valid = cutoff_valid _ _ _ _ (omega arith) k.displacement k.cutoff

    pub high_valid : valid_of (write_cutoff_high_of s v) ≡ true
    high_valid = cutoff_valid _ _ _ _ (omega arith) (displacement_within _) k.base

    pub routing_valid : valid_of (write_signal_routing_of s v) ≡ true
    routing_valid = nibbles_valid _ _ _ _ (omega arith) (omega arith) k.mode k.volume

    -- a mode's where it leaves finite charges
    pub mode_valid : finite_transients_of (write_mode_and_volume_of s v).transients ≡ true → valid_of (write_mode_and_volume_of s v) ≡ true
    mode_valid f =
        let nibbles = with_nibbles s s.registers.resonance s.registers.routing _ _ in
        transients_valid nibbles (nibbles_valid _ _ _ _ k.resonance k.routing (omega arith) (omega arith)) _ f

-- The effective cutoff is a code, of every state.
pub effective_within : (s : State) → effective_cutoff_of s ≤ 2047
unfolding displaced_of
effective_within s = go (pos s.registers.cutoff +ℤ s.registers.cutoff_dac_displacement_codes)
  where
    go : (y : ℤ) → cond (lt_z y (pos 0)) 0 (cond (lt_z (pos 2047) y) 2047 (nat_abs y)) ≤ 2047
    go (negsuc n) = omega arith
    go (pos n) = code (ltb n 0) (ltb 2047 n) refl
      where
        code : (a b : Bool) → ltb 2047 n ≡ b → cond a 0 (cond b 2047 n) ≤ 2047
        code true b e = omega arith
        code false true e = omega arith
        code false false e = ltb-false 2047 n e
