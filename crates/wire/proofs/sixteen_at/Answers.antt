use borrow.Author.Rules.{rules}
use Rattle.wire.proofs.Sixteens.{by_items}
use Rattle.wire.proofs.sixteen_at.Goals as goal

pub returns-else-holds : goal.returns-else-holds
returns-else-holds c =
    by_items c.args.s.now c.args.place c.from_fn.result c.from_fn.ensures.items.long
    (search rules) (search rules) (search rules) (search rules) (search rules) (search rules) (search rules) (search rules)
    (search rules) (search rules) (search rules) (search rules) (search rules) (search rules) (search rules) (search rules)
