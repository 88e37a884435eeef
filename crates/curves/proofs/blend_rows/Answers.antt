-- The invariant: the first k entries stand at the front of the row.
use Prim.Native.Nat.{ℕ, ◌*◌}
use mathlib.Core.Path.{◌≡◌, refl, ap, ◌∙◌}
use mathlib.Core.List.{List}
use lib.Ieee.{Float}
use native.Mathlib.Omega.{arith}
use Rattle.wire.specs.Wire.{float_bytes, put_at, rows}
use Rattle.curves.specs.Inner.{row_length, blend_of, blend_rows_of}
use Rattle.wire.proofs.Laws.{front_none, front_more, front_all}
use Rattle.wire.proofs.Floats.{length-float_bytes}
use Rattle.curves.proofs.Building.{last_again}
use Rattle.curves.proofs.blend_rows.Invariants.{bytes}
use Rattle.curves.proofs.blend_rows.Goals as goal

pub loop-k-init : goal.loop-k-init
loop-k-init c =
    let a = c.args in
    let x = blend_of a.lower.now a.upper.now a.fraction a.curve in
    (refl, front_none (bytes a.lower.now a.upper.now a.fraction a.curve) 4 (λ k. length-float_bytes (x k)) a.row.now)

pub blend-requires : goal.blend-requires
blend-requires c = let p = c.requires in (omega arith, p.1, p.2)

pub loop-k-preserved : goal.loop-k-preserved
loop-k-preserved c =
    let a = c.args in
    let x = blend_of a.lower.now a.upper.now a.fraction a.curve in
    let k = c.loop-k.k in (
      c.put_f32.auto.s ∙ c.loop-k.invariant.0,
      c.put_f32.ensures
          ∙ ap (λ (y : Float). put_at c.loop-k.row (4 * k) (float_bytes y)) c.blend.ensures
          ∙ ap (λ (l : List ℕ). put_at l (4 * k) (float_bytes (x k))) c.loop-k.invariant.1
          ∙ front_more (bytes a.lower.now a.upper.now a.fraction a.curve) 4 (λ k. length-float_bytes (x k)) a.row.now k (omega (arith, c.requires.0)),
    )

pub blend-requires-2 : goal.blend-requires-2
blend-requires-2 c = let p = c.requires in (omega arith, p.1, p.2)

pub returns : goal.returns
unfolding blend_rows_of
returns c =
    let a = c.args in
    let x = blend_of a.lower.now a.upper.now a.fraction a.curve in
    let r = bytes a.lower.now a.upper.now a.fraction a.curve in
    let end : c.loop-k.k ≡ 2048 = omega arith in
    c.put_f32-2.ensures
    ∙ ap (λ (y : Float). put_at c.loop-k.row row_length (float_bytes y)) (c.blend-2.ensures ∙ last_again a.lower.now a.upper.now a.fraction a.curve)
    ∙ ap (λ (l : List ℕ). put_at l row_length (float_bytes (x 2048))) (c.loop-k.invariant.1 ∙ ap (λ (k : ℕ). put_at a.row.now 0 (rows r k)) end)
    ∙ front_more r 4 (λ k. length-float_bytes (x k)) a.row.now 2048 (omega (arith, c.requires.0))
    ∙ front_all r 4 (λ k. length-float_bytes (x k)) a.row.now 2049 c.requires.0
