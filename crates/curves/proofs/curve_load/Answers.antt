use borrow.Author.Tests.{lt-ltb, le-ltb}
use Rattle.curves.specs.Building.{curve_load_of}
use Rattle.curves.proofs.curve_load.Goals as goal

pub returns-then-curve-lt7 : goal.returns-then-curve-lt7
unfolding curve_load_of
returns-then-curve-lt7 c = simp (lt-ltb _ _ c.if-curve-lt7.true, c.of_u16.ensures)

pub returns-then-curve-lt15 : goal.returns-then-curve-lt15
unfolding curve_load_of
returns-then-curve-lt15 c = simp (le-ltb _ _ c.if-curve-lt7.false, lt-ltb _ _ c.if-curve-lt15.true, c.of_u16-then-curve-lt15.ensures)

pub returns : goal.returns
unfolding curve_load_of
returns c = simp (le-ltb _ _ c.if-curve-lt7.false, le-ltb _ _ c.if-curve-lt15.false, c.volume_dac_conductance_code.ensures)
