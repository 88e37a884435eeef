-- The invariant: the curves so far stand at the front of the buffer.
use borrow.Rule.Slice.PartMut.{put_mid}
use Rattle.wire.proofs.Laws.{length_part, length-put_at, front_none, front_more, front_all}
use Rattle.curves.proofs.Building.{put_part, length_curve}
use Prim.Native.Nat.{ℕ, ◌+◌, ◌-◌, ◌*◌}
use mathlib.Core.Path.{◌≡◌, refl, ap, ◌∙◌}
use mathlib.Core.List.{List}
use native.Mathlib.Omega.{arith}
use lib.ListN.{length}
use Rattle.wire.specs.Wire.{put_at, rows}
use Rattle.curves.specs.Building.{curve_length, build_curve_of, build_curves_of}
use Rattle.curves.proofs.build_curves.Goals as goal

pub loop-curve-init : goal.loop-curve-init
loop-curve-init c = let a = c.args in (refl, front_none (build_curve_of a.bundle.now) curve_length (length_curve a.bundle.now) a.curves.now)

pub build_curve-requires : goal.build_curve-requires
build_curve-requires c =
    let from = curve_length * c.loop-curve.curve in
    let e : from + curve_length - from ≡ curve_length = omega arith in
    (c.requires.0, rw e (length_part curve_length c.loop-curve.curves from (omega (arith, c.requires.1))))

pub loop-curve-preserved : goal.loop-curve-preserved
loop-curve-preserved c =
    let a = c.args in
    let r = build_curve_of a.bundle.now in
    let k = c.loop-curve.curve in
    let from = curve_length * k in
    let told : put_mid from (from + curve_length - from) c.loop-curve.curves c.build_curve.new.row ≡ put_at a.curves.now 0 (rows r (k + 1)) =
    ap (put_mid from (from + curve_length - from) c.loop-curve.curves) c.build_curve.ensures
    ∙ put_part from curve_length c.loop-curve.curves (r k) (length_curve a.bundle.now k) (omega (arith, c.requires.1))
    ∙ ap (λ (l : List ℕ). put_at l from (r k)) c.loop-curve.invariant.1
    ∙ front_more r curve_length (length_curve a.bundle.now) a.curves.now k (omega (arith, c.requires.1)) in
    (ap length told ∙ length-put_at a.curves.now 0 (rows r (k + 1)), told)

pub returns : goal.returns
unfolding build_curves_of
returns c =
    let a = c.args in
    let r = build_curve_of a.bundle.now in
    let end : c.loop-curve.curve ≡ 31 = omega arith in
    c.loop-curve.invariant.1 ∙ ap (λ (k : ℕ). put_at a.curves.now 0 (rows r k)) end ∙ front_all r curve_length (length_curve a.bundle.now) a.curves.now 31 c.requires.1
