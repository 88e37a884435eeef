-- What `narrow`, `encode` and `decode` ask, over what their calls gave.
use Prim.Native.Nat.{ℕ}
use mathlib.Core.Path.{◌≡◌, refl, ◌∙◌}
use mathlib.Core.Bool.{Bool, cond, ◌&&◌}
use mathlib.Core.List.{List, [], ◌∷◌, ◌++◌}
use native.Mathlib.Omega.{arith}
use lib.ListN.{length, length-append}
use lib.Ieee.{binary32, to_bits}
use mir.Syntax.{w16}
use mir.Val.{of_z, bool_byte}
use borrow.Author.Tests.{eq-eqb, ne_eqb}
use Rattle.wire.specs.Wire.{bytes_of, put_at}
use Rattle.wire.proofs.Laws.{put_at-whole, put_at-join}
use Rattle.integrator.specs.declared.IntegratorState.{IntegratorState}
use Rattle.transients.specs.Block.{transient_bytes, tidy_transients_of}
use Rattle.transients.proofs.Laws.{transients_long}
use Rattle.control.specs.declared.FilterRegisters.{FilterRegisters}
use Rattle.control.specs.declared.State.{State}
use Rattle.control.specs.Block.{valid_of, narrow_bytes, block_of, fields_of, tidy_of, decode_of, encode_of}
use Rattle.std.specs.Prelude.{Some, None}

pub narrow_long : (r : FilterRegisters) (i : IntegratorState) → length (narrow_bytes r i) ≡ 24
unfolding narrow_bytes bytes_of
narrow_long r i = refl

pub block_long : (s : State) → length (block_of s) ≡ 68
unfolding block_of
block_long s = rw (length-append, narrow_long, transients_long) refl

-- the bytes, from the numbers that are worked out
pub narrow_told : (s : State) {d b l e : ℕ} → d ≡ of_z w16 s.registers.cutoff_dac_displacement_codes → b ≡ to_bits binary32 s.integrator.band_state
    → l ≡ to_bits binary32 s.integrator.low_state → e ≡ to_bits binary32 s.integrator.filter_source_energy →
    let r = s.registers in
    bytes_of 2 r.cutoff ++ bytes_of 2 d ++ bytes_of 2 r.cutoff_write_base
    ++ (bool_byte r.cutoff_low_pending ∷ r.resonance ∷ r.routing ∷ r.mode ∷ r.volume ∷ 0 ∷ []) ++ bytes_of 4 b ++ bytes_of 4 l ++ bytes_of 4 e ≡ narrow_bytes s.registers s.integrator
unfolding narrow_bytes
narrow_told s pd pb pl pe = rw (pd, pb, pl, pe)

module _ (s : State) (old : List ℕ) where
  pub encode_whole : {first last mid new : List ℕ} → first ≡ narrow_bytes s.registers s.integrator → last ≡ transient_bytes s.transients → length old ≡ 68
      → mid ≡ put_at old 0 first → new ≡ put_at mid 24 last → new ≡ encode_of s old
  unfolding encode_of block_of
  encode_whole e f h p q =
      let N = narrow_bytes s.registers s.integrator in
      let W = transient_bytes s.transients in
      let n = narrow_long s.registers s.integrator in
      let w = transients_long s.transients in
      rw (q, p, e, f, eq-eqb _ _ h) (put_at-join old 0 N W 24 (omega arith) (omega arith) ∙ put_at-whole old (N ++ W) (omega (arith, length-append N W)))

  pub encode_not : (length old ≡ 68 → ⊥) → old ≡ encode_of s old
  unfolding encode_of
  encode_not h = rw (ne_eqb _ _ h)

-- by the tests that the code made
pub decode_told : (b : List ℕ) → length b ≡ 68 → (t : Bool) {s : State} {x y v : Bool} → s ≡ fields_of b → x ≡ tidy_of b → y ≡ tidy_transients_of b → v ≡ valid_of s
    → (x && y && v) ≡ t → cond t (Some s) None ≡ decode_of b
unfolding decode_of
decode_told b long t ps px py pv h = rw (eq-eqb _ _ long, ← h, pv, px, py, ps)

pub decode_not : (b : List ℕ) → (length b ≡ 68 → ⊥) → None ≡ decode_of b
unfolding decode_of
decode_not b h = rw (ne_eqb _ _ h)
