use mathlib.Core.Path.{◌∙◌}
use Rattle.mixing.proofs.Routing.{row_count}
use Rattle.mixing.proofs.filter_count.Goals as goal

pub returns : goal.returns
returns c = c.count.ensures.0 ∙ row_count c.args.routing c.filter_flags.ensures
