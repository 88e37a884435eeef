-- The bytes of samples.
use Prim.Native.Nat.{ℕ, ◌*◌}
use native.Mathlib.Omega.{arith}
use mathlib.Core.Path.{◌≡◌, refl, sym}
use mathlib.Core.List.{List, [], ◌∷◌, ◌++◌, append_assoc}
use lib.ListN.{length, length-append}
use mathlib.Core.Bool.{true, not, true≢false}
use lib.Dec.{T}
use lib.Ieee.{Float, nan, inf, fin, binary32, to_bits, is_nan}
use lib.Ieee.Scale.{finite}
use Rattle.sample.specs.Sample.{outputs_finite}
use Rattle.control.proofs.Valid.{four}
use Rattle.wire.specs.Wire.{row_bytes}
use Rattle.wire.proofs.Laws.{length-bytes_of}
use Rattle.sample.specs.declared.Outputs.{Outputs}
use Rattle.run.specs.Run.{output_bytes, sample_bytes}

length_row : (a b c d : ℕ) → length (row_bytes a b c d) ≡ 16
length_row a b c d = simp (length-append, length-bytes_of)

pub length_output : (o : Outputs) → length (output_bytes o) ≡ 16
length_output o = length_row (to_bits binary32 o.high) (to_bits binary32 o.band) (to_bits binary32 o.low) (to_bits binary32 o.selected)

pub length_outputs : (os : List Outputs) → length (sample_bytes os) ≡ 16 * length os
unfolding sample_bytes
length_outputs [] = refl
length_outputs (o ∷ os) = omega (arith, length-append (output_bytes o) (sample_bytes os), length_output o, length_outputs os)

pub outputs_append : (os ps : List Outputs) → sample_bytes (os ++ ps) ≡ sample_bytes os ++ sample_bytes ps
unfolding sample_bytes
outputs_append [] ps = refl
outputs_append (o ∷ os) ps = rw (outputs_append os ps) (sym (append_assoc (output_bytes o) (sample_bytes os) (sample_bytes ps)))

-- ---- finite outputs are no NaNs

real : (x : Float) → finite x ≡ true → T (not (is_nan x))
unfolding is_nan
real nan h = absurd (true≢false (sym h))
real (inf s) h = tt
real (fin s m e) h = tt

pub no_nans : (o : Outputs) → outputs_finite o ≡ true → T (not (is_nan o.high)) × T (not (is_nan o.band)) × T (not (is_nan o.low)) × T (not (is_nan o.selected))
no_nans o h =
    let p = four (finite o.high) (finite o.band) (finite o.low) (finite o.selected) h in
    (real o.high p.0, real o.band p.1, real o.low p.2, real o.selected p.3)
