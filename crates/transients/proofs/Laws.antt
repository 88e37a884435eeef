-- The transients' bytes, and when their ten floats are finite. Assumes nothing.
use Prim.Native.Nat.{ℕ}
use mathlib.Core.Path.{◌≡◌, refl, sym}
use mathlib.Core.Bool.{Bool, true, false, ◌&&◌}
use mathlib.Core.List.{List, [], ◌∷◌, ◌++◌}
use native.Mathlib.Omega.{arith}
use lib.ListN.{length}
use lib.Ieee.{Float, binary32, to_bits, of_bits, fits, add, mul, div}
use lib.Ieee.Fits.{add-fits}
use lib.Ieee.Scale.{finite}
use mir.Val.{bool_byte}
use Rattle.floats.specs.Floats.{finite_f32_of}
use Rattle.floats.proofs.Laws.{both, finite_f32, f32_finite}
use Rattle.response.specs.Levels.{branch_sum_of, volume_dac_conductance_code_of}
use Rattle.wire.specs.Wire.{bytes_of, float_bytes, row_bytes, put_at}
use Rattle.wire.proofs.Laws.{put_at-join, put_at-whole}
use Rattle.transients.specs.declared.TransientState.{TransientState}
use Rattle.transients.specs.Transients.{starting_transients, at_volume_of, charge_of, finite_blends_of, finite_transients_of, finite_charges_of}
use Rattle.transients.specs.Block.{transient_bytes}
use Rattle.transients.proofs.Volumes.{conductance_finite}

-- ---- the bytes

pub transients_long : (t : TransientState) → length (transient_bytes t) ≡ 44
unfolding transient_bytes bytes_of
transients_long t = refl

-- the pending byte and the three zeros are one word
pub flag_word : (p : Bool) → bytes_of 4 (bool_byte p) ≡ bool_byte p ∷ 0 ∷ 0 ∷ 0 ∷ []
unfolding bytes_of
flag_word true = refl
flag_word false = refl

-- the writes of the parts, one after another, are one
pub transients_put : (s : List ℕ) (t : TransientState) → length s ≡ 44 →
    let bits : Float → ℕ = to_bits binary32 in
    let b = t.saw_mixer_blend in
    let one = put_at s 0 (row_bytes (bits t.volume_fast_charge) (bits t.volume_slow_charge) (bits t.bypass_attack_charge) (bits t.pulse_gate_fast_charge)) in
    let two = put_at one 16 (row_bytes (bits t.pulse_gate_slow_charge) (bits t.volume_conductance_code) (bits t.previous_bypass_activity) (bits b.one)) in
    put_at (put_at (put_at two 32 (float_bytes b.two)) 36 (float_bytes b.three)) 40 (bytes_of 4 (bool_byte t.pulse_gate_pending)) ≡ transient_bytes t
unfolding transient_bytes bytes_of
transients_put s t h =
    let bits : Float → ℕ = to_bits binary32 in
    let b = t.saw_mixer_blend in
    let A = row_bytes (bits t.volume_fast_charge) (bits t.volume_slow_charge) (bits t.bypass_attack_charge) (bits t.pulse_gate_fast_charge) in
    let B = row_bytes (bits t.pulse_gate_slow_charge) (bits t.volume_conductance_code) (bits t.previous_bypass_activity) (bits b.one) in
    let C = float_bytes b.two in
    let D = float_bytes b.three in
    let E = bool_byte t.pulse_gate_pending ∷ 0 ∷ 0 ∷ 0 ∷ [] in
    rw flag_word
    (rw (
      put_at-join s 0 A B 16 refl (omega arith),
      put_at-join s 0 (A ++ B) C 32 refl (omega arith),
      put_at-join s 0 (A ++ B ++ C) D 36 refl (omega arith),
      put_at-join s 0 (A ++ B ++ C ++ D) E 40 refl (omega arith),
    ) (put_at-whole s (A ++ B ++ C ++ D ++ E) (sym h)))

-- ---- ten finite floats, by their names

pub record Finite (t : TransientState) : Type 0 where
  pub fast : finite_f32_of t.volume_fast_charge ≡ true
  pub slow : finite_f32_of t.volume_slow_charge ≡ true
  pub attack : finite_f32_of t.bypass_attack_charge ≡ true
  pub pulse_fast : finite_f32_of t.pulse_gate_fast_charge ≡ true
  pub pulse_slow : finite_f32_of t.pulse_gate_slow_charge ≡ true
  pub code : finite_f32_of t.volume_conductance_code ≡ true
  pub activity : finite_f32_of t.previous_bypass_activity ≡ true
  pub first : finite_f32_of t.saw_mixer_blend.one ≡ true
  pub second : finite_f32_of t.saw_mixer_blend.two ≡ true
  pub third : finite_f32_of t.saw_mixer_blend.three ≡ true

pub finite_parts : (t : TransientState) → finite_transients_of t ≡ true → Finite t
unfolding finite_transients_of finite_blends_of
finite_parts t h =
    let f : Float → Bool = finite_f32_of in
    let b = t.saw_mixer_blend in
    let front = f t.volume_fast_charge && f t.volume_slow_charge && f t.bypass_attack_charge in
    let back = f t.pulse_gate_slow_charge && f t.volume_conductance_code && f t.previous_bypass_activity in
    let blends = f b.one && f b.two && f b.three in
    let w = both (front && f t.pulse_gate_fast_charge) (back && blends) h in
    let p = both front (f t.pulse_gate_fast_charge) w.0 in
    let q = both (f t.volume_fast_charge && f t.volume_slow_charge) (f t.bypass_attack_charge) p.0 in
    let r = both (f t.volume_fast_charge) (f t.volume_slow_charge) q.0 in
    let x = both back blends w.1 in
    let y = both (f t.pulse_gate_slow_charge && f t.volume_conductance_code) (f t.previous_bypass_activity) x.0 in
    let z = both (f t.pulse_gate_slow_charge) (f t.volume_conductance_code) y.0 in
    let u = both (f b.one && f b.two) (f b.three) x.1 in
    let v = both (f b.one) (f b.two) u.0 in
    record { fast = r.0; slow = r.1; attack = q.1; pulse_fast = p.1; pulse_slow = z.0; code = z.1; activity = y.1; first = v.0; second = v.1; third = u.1 }

pub parts_finite : (t : TransientState) → Finite t → finite_transients_of t ≡ true
unfolding finite_transients_of finite_blends_of
parts_finite t k = rw (k.fast, k.slow, k.attack, k.pulse_fast, k.pulse_slow, k.code, k.activity, k.first, k.second, k.third)

pub starting_finite : finite_transients_of starting_transients ≡ true
unfolding finite_transients_of finite_blends_of finite_f32_of of_bits fits
starting_finite = refl

-- ---- a volume's conductance

-- of the volume 0 it is +0, so that nothing is charged there is the starting value
pub at_volume_zero : at_volume_of 0 ≡ starting_transients
unfolding volume_dac_conductance_code_of branch_sum_of of_bits add mul div
at_volume_zero = refl

pub at_volume_finite : (volume : ℕ) → finite_transients_of (at_volume_of volume) ≡ true
at_volume_finite volume =
    let k = finite_parts starting_transients starting_finite in
    parts_finite (at_volume_of volume)
    (record { fast = k.fast; slow = k.slow; attack = k.attack; pulse_fast = k.pulse_fast; pulse_slow = k.pulse_slow; code = conductance_finite volume; activity = k.activity; first = k.first; second = k.second; third = k.third })

-- ---- a write

-- where all ten are finite, so are the charges that a write moves
pub all_charges : (t : TransientState) → finite_transients_of t ≡ true → finite_charges_of t ≡ true
unfolding finite_charges_of
all_charges t h =
    let k = finite_parts t h in
    rw (f32_finite t.volume_fast_charge k.fast, f32_finite t.volume_slow_charge k.slow)

-- What a sum gives fits binary32, so of the two charges that are moved only finite is asked, and of the others nothing.
module _ (t : TransientState) (volume : ℕ) where
  abbrev charged : TransientState
  charged = charge_of t volume

  charges_all : finite_transients_of t ≡ true → finite_charges_of charged ≡ true → finite_transients_of charged ≡ true
  unfolding finite_charges_of
  charges_all h f =
      let k = finite_parts t h in
      let moved = both (finite charged.volume_fast_charge) (finite charged.volume_slow_charge) f in
      parts_finite charged
      (record {
        fast = finite_f32 charged.volume_fast_charge (add-fits binary32 _ _) moved.0;
        slow = finite_f32 charged.volume_slow_charge (add-fits binary32 _ _) moved.1;
        attack = k.attack;
        pulse_fast = k.pulse_fast;
        pulse_slow = k.pulse_slow;
        code = conductance_finite volume;
        activity = k.activity;
        first = k.first;
        second = k.second;
        third = k.third;
      })

  pub charge_finite : finite_transients_of t ≡ true → finite_charges_of charged ≡ finite_transients_of charged
  charge_finite h = go (finite_charges_of charged) (finite_transients_of charged) (charges_all h) (all_charges charged)
    where
      go : (a b : Bool) → (a ≡ true → b ≡ true) → (b ≡ true → a ≡ true) → a ≡ b
      go true b f g = sym (f refl)
      go false true f g = g refl
      go false false f g = refl
