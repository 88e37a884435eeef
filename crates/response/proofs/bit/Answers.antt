use Rattle.std.specs.Prelude.{◌≡◌, refl, ◌<◌, ◌^◌, ◌/◌}
use native.Mathlib.Omega.{arith}
use Rattle.std.proofs.Math.Nat.{div-eq_of_lt}
use Rattle.std.proofs.Math.Pow.{pow_mono}
use Rattle.response.proofs.bit.Goals as goal

-- a byte has no bit 8
pub returns-then-i-ge8 : goal.returns-then-i-ge8
returns-then-i-ge8 c =
    let most = pow_mono c.if-i-ge8.true in
    let byte : c.args.n < 2 ^ 8 = c.ranges.n.fits in
    let none : c.args.n / 2 ^ c.args.i ≡ 0 = div-eq_of_lt (omega arith) in
    rw none refl
