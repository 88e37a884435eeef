use Rattle.std.proofs.Common.{rules}
use Rattle.std.proofs.lemmas.List.FromFn.{fill_by_all}
use Rattle.std.specs.Float.{nan}
use Rattle.ladder.specs.Ladder.{tabulated, driven_level_of}
use Rattle.ladder.proofs.driven_levels.Goals as goal

pub returns : goal.returns
unfolding tabulated
returns c =
    let made = c.from_fn.ensures.items in
    fill_by_all (driven_level_of c.args.source c.args.diagonal) c.from_fn.result 12 nan made.long (λ k h. let at = made.at k nan h in search rules)
