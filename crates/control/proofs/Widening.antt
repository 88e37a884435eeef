-- A 24-byte block that is widened: what `widen` asks, and what the wide block stands for. Assumes nothing.
use Prim.Native.Nat.{ℕ}
use mathlib.Core.Path.{◌≡◌, refl, sym, ◌∙◌}
use mathlib.Core.Bool.{Bool, true, false, ◌&&◌}
use mathlib.Core.List.{List}
use native.Mathlib.Omega.{arith}
use lib.Dec.{eqb}
use lib.ListN.{length, take, replicate}
use lib.Seq.{take_all, take_at}
use lib.Ieee.{of_bits, to_bits, fits}
use borrow.Author.Tests.{eqb-true, eq-eqb}
use Rattle.floats.specs.Floats.{finite_f32_of}
use Rattle.floats.proofs.Laws.{both}
use Rattle.wire.specs.Wire.{Bytes, number_at, i16_at, bytes_of}
use Rattle.integrator.specs.declared.IntegratorState.{IntegratorState}
use Rattle.transients.specs.declared.TransientState.{TransientState}
use Rattle.transients.specs.Transients.{at_volume_of}
use Rattle.transients.specs.Block.{transient_bytes}
use Rattle.transients.proofs.Laws.{at_volume_zero, at_volume_finite}
use Rattle.control.specs.declared.FilterRegisters.{FilterRegisters}
use Rattle.control.specs.declared.State.{State}
use Rattle.control.specs.Registers.{starting_state}
use Rattle.control.specs.Block.{valid_registers_of, finite_floats_of, valid_of, narrow_bytes, block_of, register_fields_of, integrator_fields_of, tidy_of, decode_of, encode_of}
use Rattle.control.specs.Widening.{narrow_valid_of, wide_of, widens_of, widened_of}
use Rattle.control.proofs.Block.{narrow_long}
use Rattle.control.proofs.Valid.{four}
use Rattle.control.proofs.RoundTrip.{decode_block, narrow_fields}
use Rattle.std.specs.Prelude.{Some}

-- ---- what is widened is valid where the block is

wide_valid_is : (b : List ℕ) → valid_of (wide_of b) ≡ (valid_registers_of (register_fields_of b) && finite_floats_of (integrator_fields_of b))
unfolding valid_of wide_of
wide_valid_is b = rw (at_volume_finite (register_fields_of b).volume) (go (valid_registers_of (register_fields_of b) && finite_floats_of (integrator_fields_of b)))
  where
    go : (a : Bool) → (a && true) ≡ a
    go true = refl
    go false = refl

-- ---- by what the code's calls gave, and by its test

pub wide_told : (b : List ℕ) {r : FilterRegisters} {i : IntegratorState} {t : TransientState} → r ≡ register_fields_of b → i ≡ integrator_fields_of b → t ≡ at_volume_of r.volume
    → ◌≡◌ {A = State} (record { registers = r; integrator = i; transients = t }) (wide_of b)
unfolding wide_of
wide_told b pr pi pt = rw (pt, pr, pi)

module _ (b wide : List ℕ) {s : State} {y v : Bool} (ps : s ≡ wide_of b) (py : y ≡ tidy_of b) (pv : v ≡ valid_of s) where
  told : (t : Bool) → (eqb (length b) 24 && y && v && eqb (length wide) 68) ≡ t → t ≡ widens_of b wide
  unfolding narrow_valid_of
  told t h = rw (← h, pv, py, ps, wide_valid_is b)

  pub widen_done : {new : List ℕ} → (eqb (length b) 24 && y && v && eqb (length wide) 68) ≡ true → new ≡ encode_of s wide → (true ≡ widens_of b wide) × (new ≡ widened_of b wide)
  unfolding widened_of encode_of
  widen_done h pn =
      let w = told true h in
      let e = both (narrow_valid_of b) (eqb (length wide) 68) (sym w) in
      (w, rw (pn, ps, e.0, e.1))

  pub widen_not : (eqb (length b) 24 && y && v && eqb (length wide) 68) ≡ false → (false ≡ widens_of b wide) × (wide ≡ widened_of b wide)
  unfolding widened_of
  widen_not h = let w = told false h in (w, rw (← w))

-- ---- the starting value

-- It is 68 zero bytes,
pub starting_zeros : block_of starting_state ≡ replicate 68 0
unfolding block_of narrow_bytes transient_bytes bytes_of of_bits to_bits
starting_zeros = refl

zeros_are : wide_of (replicate 24 0) ≡ starting_state
unfolding wide_of register_fields_of integrator_fields_of number_at i16_at of_bits
zeros_are = rw at_volume_zero refl

zeros_valid : narrow_valid_of (replicate 24 0) ≡ true
unfolding narrow_valid_of tidy_of register_fields_of integrator_fields_of valid_registers_of finite_floats_of finite_f32_of number_at i16_at of_bits fits
zeros_valid = refl

-- and what widening makes of 24.
pub widen_zeros : (old : List ℕ) → length old ≡ 68 → widened_of (replicate 24 0) old ≡ replicate 68 0
unfolding widened_of
widen_zeros old l = rw (zeros_valid, eq-eqb (length old) 68 l, zeros_are) starting_zeros

-- ---- any valid block

module _ (b old : List ℕ) (h : narrow_valid_of b ≡ true) (l : length old ≡ 68) where
  abbrev valid : Bool
  valid = valid_registers_of (register_fields_of b) && finite_floats_of (integrator_fields_of b)

  parts : (true ≡ true) × (eqb (length b) 24 ≡ true) × (tidy_of b ≡ true) × (valid ≡ true)
  unfolding narrow_valid_of
  parts = four true (eqb (length b) 24) (tidy_of b) valid h

  -- Widened, it decodes to its own fields, nothing charged and the conductance of its volume;
  pub widened_decodes : decode_of (widened_of b old) ≡ Some (wide_of b)
  unfolding widened_of
  widened_decodes = rw (h, eq-eqb (length old) 68 l) (decode_block (wide_of b) (wide_valid_is b ∙ parts.3))

  -- and its first 24 bytes are the block's.
  pub widened_keeps : Bytes b → take 24 (widened_of b old) ≡ b
  unfolding widened_of wide_of block_of
  widened_keeps c =
      let long = eqb-true (length b) 24 parts.1 in
      let floats = (both (valid_registers_of (register_fields_of b)) (finite_floats_of (integrator_fields_of b)) parts.3).1 in
      rw (h, eq-eqb (length old) 68 l)
      (take_at (narrow_bytes (register_fields_of b) (integrator_fields_of b)) _ 24 (narrow_long _ _) ∙ narrow_fields b c (omega arith) parts.2 floats ∙ take_all 24 b (omega arith))
