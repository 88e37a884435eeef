use mathlib.Core.Path.{◌≡◌, refl}
use native.Mathlib.Omega.{arith}
use native.Mathlib.Numerals.{add-one}
use borrow.Author.Tests.{le-leb, lt-leb}
use Rattle.wire.specs.First.{every, usable_entry}
use Rattle.wire.specs.Inner.{block_usable_of}
use Rattle.wire.proofs.block_usable.Goals as goal

pub returns-then-left-lt64 : goal.returns-then-left-lt64
unfolding block_usable_of
returns-then-left-lt64 c = rw (lt-leb _ _ c.if-left-lt64.true)

pub loop-j-init : goal.loop-j-init
unfolding every
loop-j-init c = refl

pub loop-j-preserved : goal.loop-j-preserved
unfolding every usable_entry
loop-j-preserved c = rw (add-one, c.loop-j.invariant, c.usable-all.ensures, c.word.ensures)

pub returns : goal.returns
unfolding block_usable_of
returns c = let e : c.loop-j.j ≡ 64 = omega arith in rw (le-leb _ _ c.if-left-lt64.false) (rw e at c.loop-j.invariant)
