use borrow.Author.Rules.{rules}
use Rattle.wire.proofs.Sixteens.{by_items}
use Rattle.wire.proofs.sixteen.Goals as goal

pub returns : goal.returns
returns c =
    by_items c.args.s.now c.args.p c.from_fn.result c.from_fn.ensures.items.long
    (search rules) (search rules) (search rules) (search rules) (search rules) (search rules) (search rules) (search rules)
    (search rules) (search rules) (search rules) (search rules) (search rules) (search rules) (search rules) (search rules)
