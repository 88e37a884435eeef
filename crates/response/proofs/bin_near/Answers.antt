use native.Mathlib.Omega.{arith}
use Rattle.response.proofs.Laws.{guess_told}
use Rattle.response.proofs.bin_near.Goals as goal

pub returns-then-of_usize-position : goal.returns-then-of_usize-position
returns-then-of_usize-position c =
    let a = c.args in
    guess_told a.position a.guess (omega arith) c.of_usize.ensures c.of_usize-then-guess-lt15.ensures c.if-of_usize-position.true
