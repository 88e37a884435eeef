-- A valid state and its block: decoding what was encoded gives the state, and encoding what was decoded gives the bytes. So two
-- states are the same when their 68 bytes are.
use Prim.Native.Nat.{ℕ, zero, suc, ◌+◌, ◌^◌, ◌≤◌, ◌<◌}
use mathlib.Core.Path.{◌≡◌, refl, sym, ap, ◌∙◌}
use mathlib.Core.Bool.{Bool, true, false, cond, ◌&&◌}
use mathlib.Core.List.{List, [], ◌∷◌, ◌++◌}
use native.Mathlib.Omega.{arith}
use native.Mathlib.Nat.{mod-eq_of_lt}
use lib.Dec.{leb, eqb}
use lib.IntN.{ℤ, pos, negsuc}
use lib.ListN.{length, take, drop}
use lib.Seq.{drop-cons, take-add, take_all, drop-drop}
use lib.Ieee.{Float, binary32, of_bits, to_bits}
use lib.Ieee.Bits.{of_bits-to_bits, to_bits-lt}
use mir.Syntax.{w16}
use mir.Val.{of_z, SFits, bool_byte}
use mir.ValLaws.{to_z-of_z, of_z_fits}
use borrow.Author.Tests.{leb-true, eqb-true, eq-eqb}
use Rattle.floats.specs.Floats.{finite_f32_of}
use Rattle.floats.proofs.Laws.{both, f32_fits, f32_finite}
use Rattle.wire.specs.Wire.{Bytes, little, byte_at, number_at, u32_at, i16_at, f32_at, bytes_of, float_bytes}
use Rattle.wire.proofs.Laws.{little-bytes_of, bytes_of-number_at}
use Rattle.wire.proofs.Signed.{bytes_of-i16_at}
use Rattle.wire.proofs.Floats.{finite_bits_is, finite_no_nan, float_bytes-f32_at}
use Rattle.integrator.specs.declared.IntegratorState.{IntegratorState}
use Rattle.transients.specs.Transients.{finite_transients_of}
use Rattle.transients.specs.Block.{transient_bytes, transient_fields_of, tidy_transients_of}
use Rattle.transients.proofs.Laws.{finite_parts}
use Rattle.control.specs.declared.State.{State}
use Rattle.control.specs.Block.{finite_floats_of, valid_of, narrow_bytes, block_of, register_fields_of, integrator_fields_of, fields_of, tidy_of, decode_of, encode_of}
use Rattle.control.proofs.Block.{block_long}
use Rattle.control.proofs.Valid.{Within, Ranges, valid_ranges, four}
use Rattle.std.specs.Prelude.{Some, None}

-- ---- the floats of a valid state

module _ (i : IntegratorState) (h : finite_floats_of i ≡ true) where
  three : (true ≡ true) × (finite_f32_of i.band_state ≡ true) × (finite_f32_of i.low_state ≡ true) × (finite_f32_of i.filter_source_energy ≡ true)
  unfolding finite_floats_of
  three = four true (finite_f32_of i.band_state) (finite_f32_of i.low_state) (finite_f32_of i.filter_source_energy) h

-- ---- from a state to its bytes and back

within_fits : (d : ℤ) → Within d → SFits w16 d
within_fits (pos n) w = record { sfits = omega (arith, leb-true n 57 w.high) }
within_fits (negsuc n) w = record { sfits = omega (arith, leb-true n 56 w.low) }

flag : (p : Bool) → eqb (bool_byte p) 1 ≡ p
flag true = refl
flag false = refl

flag_le : (p : Bool) → leb (bool_byte p) 1 ≡ true
flag_le true = refl
flag_le false = refl

-- a number, and a float, that is read back from its bytes
number : (n v : ℕ) → v < 256 ^ n → little (bytes_of n v) ≡ v
number n v l = little-bytes_of n v ∙ mod-eq_of_lt l

float : (x : Float) → finite_f32_of x ≡ true → of_bits binary32 (little (float_bytes x)) ≡ x
float x h = let f = f32_fits x h in ap (of_bits binary32) (number 4 (to_bits binary32 x) (to_bits-lt binary32 x f)) ∙ of_bits-to_bits binary32 x f

-- each part of the state is read back from the block
module _ (s : State) (h : valid_of s ≡ true) where
  k : Ranges s
  k = valid_ranges s h

  registers_block : register_fields_of (block_of s) ≡ s.registers
  unfolding register_fields_of block_of narrow_bytes transient_bytes bytes_of number_at i16_at
  registers_block =
      let r = s.registers in
      let d = within_fits r.cutoff_dac_displacement_codes k.displacement in
      rw (
        number 2 r.cutoff (omega (arith, k.cutoff)),
        number 2 r.cutoff_write_base (omega (arith, k.base)),
        number 2 (of_z w16 r.cutoff_dac_displacement_codes) (of_z_fits w16 r.cutoff_dac_displacement_codes d).fits,
        to_z-of_z w16 r.cutoff_dac_displacement_codes d,
        flag r.cutoff_low_pending,
      )

  integrator_block : integrator_fields_of (block_of s) ≡ s.integrator
  unfolding integrator_fields_of block_of narrow_bytes transient_bytes bytes_of number_at
  integrator_block =
      let i = s.integrator in
      let f = three i k.floats in
      rw (float i.band_state f.1, float i.low_state f.2, float i.filter_source_energy f.3)

  transients_block : transient_fields_of (block_of s) ≡ s.transients
  unfolding transient_fields_of block_of narrow_bytes transient_bytes bytes_of number_at
  transients_block =
      let t = s.transients in
      let b = t.saw_mixer_blend in
      let f = finite_parts t k.transients in
      rw (
        float t.volume_fast_charge f.fast,
        float t.volume_slow_charge f.slow,
        float t.bypass_attack_charge f.attack,
        float t.pulse_gate_fast_charge f.pulse_fast,
        float t.pulse_gate_slow_charge f.pulse_slow,
        float t.volume_conductance_code f.code,
        float t.previous_bypass_activity f.activity,
        float b.one f.first,
        float b.two f.second,
        float b.three f.third,
        flag t.pulse_gate_pending,
      )

  pub fields_block : fields_of (block_of s) ≡ s
  unfolding fields_of
  fields_block = rw (registers_block, integrator_block, transients_block)

tidy_block : (s : State) → tidy_of (block_of s) ≡ true
unfolding tidy_of block_of narrow_bytes bytes_of
tidy_block s = rw (flag_le s.registers.cutoff_low_pending) refl

tidy_last : (s : State) → tidy_transients_of (block_of s) ≡ true
unfolding tidy_transients_of block_of narrow_bytes transient_bytes bytes_of
tidy_last s = rw (flag_le s.transients.pulse_gate_pending) refl

pub decode_block : (s : State) → valid_of s ≡ true → decode_of (block_of s) ≡ Some s
unfolding decode_of
decode_block s h = rw (block_long s, tidy_block s, tidy_last s, fields_block s h, h)

-- Decoding an encoded valid state gives the state.
pub decode_encoded : (s : State) (old : List ℕ) → valid_of s ≡ true → length old ≡ 68 → decode_of (encode_of s old) ≡ Some s
unfolding encode_of
decode_encoded s old h l = rw (eq-eqb (length old) 68 l) (decode_block s h)

-- ---- from bytes to their state and back

-- what is known of a block that decodes
pub record Decodes (b : List ℕ) (s : State) : Type 0 where
  pub long : length b ≡ 68
  pub tidy : tidy_of b ≡ true
  pub last : tidy_transients_of b ≡ true
  pub valid : valid_of s ≡ true
  pub fields : fields_of b ≡ s

pub decoded : (b : List ℕ) (s : State) → decode_of b ≡ Some s → Decodes b s
unfolding decode_of
decoded b s e = go (eqb (length b) 68 && tidy_of b && tidy_transients_of b && valid_of (fields_of b)) refl e
  where
    go : (t : Bool) → (eqb (length b) 68 && tidy_of b && tidy_transients_of b && valid_of (fields_of b)) ≡ t → cond t (Some (fields_of b)) None ≡ Some s → Decodes b s
    go true h e =
        let f = four (eqb (length b) 68) (tidy_of b) (tidy_transients_of b) (valid_of (fields_of b)) h in
        let same : fields_of b ≡ s = cc in
        record { long = eqb-true (length b) 68 f.0; tidy = f.1; last = f.2; valid = rw same at f.3; fields = same }
    go false h e = let z : ◌≡◌ {A = ℕ} 0 1 = cc in absurd (omega arith)

-- n elements from p on
elements : ℕ → List ℕ → ℕ → List ℕ
elements zero b p = []
elements (suc n) b p = byte_at b p ∷ elements n b (suc p)

elements_part : (n : ℕ) (b : List ℕ) (p : ℕ) → p + n ≤ length b → elements n b p ≡ take n (drop p b)
unfolding elements
elements_part zero b p h = refl
elements_part (suc n) b p h = rw (drop-cons b p 0 (omega arith), elements_part n b (suc p) (omega arith))

flag_back : (n : ℕ) → n ≤ 1 → bool_byte (eqb n 1) ≡ n
flag_back zero h = refl
flag_back (suc zero) h = refl
flag_back (suc (suc n)) h = absurd (omega arith)

-- the bytes that are no numbers
six_bytes : (b : List ℕ) → 12 ≤ length b → byte_at b 11 ≡ 0 → byte_at b 6 ∷ byte_at b 7 ∷ byte_at b 8 ∷ byte_at b 9 ∷ byte_at b 10 ∷ 0 ∷ [] ≡ take 6 (drop 6 b)
unfolding elements
six_bytes b l z = ap (λ (n : ℕ). byte_at b 6 ∷ byte_at b 7 ∷ byte_at b 8 ∷ byte_at b 9 ∷ byte_at b 10 ∷ n ∷ []) (sym z) ∙ elements_part 6 b 6 l

last_bytes : (b : List ℕ) → length b ≡ 68 → tidy_transients_of b ≡ true → bool_byte (eqb (byte_at b 64) 1) ∷ 0 ∷ 0 ∷ 0 ∷ [] ≡ take 4 (drop 64 b)
unfolding elements tidy_transients_of
last_bytes b l h =
    let f = four (leb (byte_at b 64) 1) (eqb (byte_at b 65) 0) (eqb (byte_at b 66) 0) (eqb (byte_at b 67) 0) h in
    let row : (x y z : ℕ) → List ℕ = λ x y z. byte_at b 64 ∷ x ∷ y ∷ z ∷ [] in
    let zeros : row 0 0 0 ≡ row (byte_at b 65) (byte_at b 66) (byte_at b 67) = rw (eqb-true (byte_at b 65) 0 f.1, eqb-true (byte_at b 66) 0 f.2, eqb-true (byte_at b 67) 0 f.3) refl in
    rw (flag_back (byte_at b 64) (leb-true (byte_at b 64) 1 f.0)) (zeros ∙ elements_part 4 b 64 (omega arith))

float_bytes_lem : (b : List ℕ) (p : ℕ) → Bytes b → p + 4 ≤ length b → finite_f32_of (f32_at b p) ≡ true → float_bytes (f32_at b p) ≡ take 4 (drop p b)
float_bytes_lem b p c l h = float_bytes-f32_at b p c (finite_no_nan (u32_at b p) (finite_bits_is (u32_at b p) ∙ f32_finite (f32_at b p) h)) l

-- the first 24 bytes, of a block of either length
pub narrow_fields : (b : List ℕ) → Bytes b → 24 ≤ length b → tidy_of b ≡ true → finite_floats_of (integrator_fields_of b) ≡ true → narrow_bytes (register_fields_of b) (integrator_fields_of b) ≡ take 24 b
unfolding narrow_bytes register_fields_of integrator_fields_of tidy_of
narrow_fields b c l tidy h =
    let f = three (integrator_fields_of b) h in
    let t = both (leb (byte_at b 6) 1) (eqb (byte_at b 11) 0) tidy in
    rw (
      bytes_of-number_at 2 b 0 (omega arith) c,
      bytes_of-i16_at b 2 c (omega arith),
      bytes_of-number_at 2 b 4 (omega arith) c,
      flag_back (byte_at b 6) (leb-true (byte_at b 6) 1 t.0),
      six_bytes b (omega arith) (eqb-true (byte_at b 11) 0 t.1),
      float_bytes_lem b 12 c (omega arith) f.1,
      float_bytes_lem b 16 c (omega arith) f.2,
      float_bytes_lem b 20 c (omega arith) f.3,
    )
    (rw (← take-add 2 2 b, ← take-add 4 2 b, ← take-add 6 6 b, ← take-add 12 4 b, ← take-add 16 4 b, ← take-add 20 4 b))

-- two parts side by side
part_add : (b : List ℕ) (p n m : ℕ) → take n (drop p b) ++ take m (drop (p + n) b) ≡ take (n + m) (drop p b)
part_add b p n m = rw (take-add n m (drop p b), drop-drop n p b)

-- the last 44
transient_fields : (b : List ℕ) → Bytes b → length b ≡ 68 → tidy_transients_of b ≡ true → finite_transients_of (transient_fields_of b) ≡ true → transient_bytes (transient_fields_of b) ≡ take 44 (drop 24 b)
unfolding transient_bytes transient_fields_of
transient_fields b c l tidy h =
    let f = finite_parts (transient_fields_of b) h in
    rw (
      float_bytes_lem b 24 c (omega arith) f.fast,
      float_bytes_lem b 28 c (omega arith) f.slow,
      float_bytes_lem b 32 c (omega arith) f.attack,
      float_bytes_lem b 36 c (omega arith) f.pulse_fast,
      float_bytes_lem b 40 c (omega arith) f.pulse_slow,
      float_bytes_lem b 44 c (omega arith) f.code,
      float_bytes_lem b 48 c (omega arith) f.activity,
      float_bytes_lem b 52 c (omega arith) f.first,
      float_bytes_lem b 56 c (omega arith) f.second,
      float_bytes_lem b 60 c (omega arith) f.third,
      last_bytes b l tidy,
    )
    (rw (
      part_add b 24 4 4,
      part_add b 24 8 4,
      part_add b 24 12 4,
      part_add b 24 16 4,
      part_add b 24 20 4,
      part_add b 24 24 4,
      part_add b 24 28 4,
      part_add b 24 32 4,
      part_add b 24 36 4,
      part_add b 24 40 4,
    ))

block_fields : (b : List ℕ) (s : State) → Bytes b → Decodes b s → block_of (fields_of b) ≡ b
unfolding block_of fields_of
block_fields b s c k =
    let l = k.long in
    let g = valid_ranges (fields_of b) (rw k.fields k.valid) in
    rw (narrow_fields b c (omega arith) k.tidy g.floats, transient_fields b c l k.last g.transients, ← take-add 24 44 b) (take_all 68 b (omega arith))

-- Encoding a decoded block gives its bytes.
pub encode_decoded : (b : List ℕ) (s : State) → Bytes b → decode_of b ≡ Some s → (block_of s ≡ b) × (encode_of s b ≡ b)
unfolding encode_of
encode_decoded b s c e =
    let k = decoded b s e in
    let same : block_of s ≡ b = rw (← k.fields) (block_fields b s c k) in
    (same, rw (eq-eqb (length b) 68 k.long) same)

-- Two valid states are the same where their 68 bytes are.
pub same_bytes : (s t : State) → valid_of s ≡ true → valid_of t ≡ true → block_of s ≡ block_of t → s ≡ t
same_bytes s t v w e = let d : Some s ≡ Some t = sym (decode_block s v) ∙ ap decode_of e ∙ decode_block t w in cc
