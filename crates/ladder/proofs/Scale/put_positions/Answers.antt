-- The positions below code are written, and the rest is as it was.
use Rattle.std.proofs.Common.{ℕ, List, ◌≡◌, length, arith}
use Rattle.wire.specs.Wire.{float_bytes}
use Rattle.wire.proofs.Laws.{front_none, front_more, front_all}
use Rattle.wire.proofs.Floats.{length-float_bytes}
use Rattle.ladder.specs.Calls.{position_bytes_of}
use Rattle.ladder.specs.declared.Scale.{Scale}
use Rattle.ladder.specs.Ladder.{position_of}
use Rattle.ladder.proofs.Scale.put_positions.Goals as goal

abbrev bytes : Scale → ℕ → List ℕ
bytes s k = float_bytes (position_of s k)

length_bytes : (s : Scale) (k : ℕ) → length (bytes s k) ≡ 4
length_bytes s k = length-float_bytes (position_of s k)

pub loop-code-init : goal.loop-code-init
loop-code-init c = let s = c.args.self.now in front_none (bytes s) 4 (length_bytes s) _

pub loop-code-preserved : goal.loop-code-preserved
loop-code-preserved c =
    let s = c.args.self.now in
    rw (c.put_f32.ensures, c.position.ensures, c.loop-code.invariant) (front_more (bytes s) 4 (length_bytes s) _ c.loop-code.code (omega (arith, c.requires)))

pub returns : goal.returns
unfolding position_bytes_of
returns c =
    let e : c.loop-code.code ≡ 2048 = omega arith in
    let s = c.args.self.now in
    rw (e, front_all (bytes s) 4 (length_bytes s) c.args.out.now 2048 c.requires) at c.loop-code.invariant
