use Rattle.std.proofs.Common.{rules}
use Rattle.std.specs.Float.Ieee.Scale.{finite}
use borrow.Author.Tests.{tests}
use Rattle.wire.proofs.Every.{all_below}
use Rattle.ladder.specs.Calls.{positions_finite_of}
use Rattle.ladder.specs.Ladder.{position_of}
use Rattle.ladder.proofs.Scale.positions_finite.Goals as goal

pub returns : goal.returns
unfolding positions_finite_of
returns c =
    let s = c.args.self.now in
    all_below _ (λ code. finite (position_of s code)) 2048 c.all.ensures.ran (λ x q k. search (rules, tests)) (λ x q k. search (rules, tests))
