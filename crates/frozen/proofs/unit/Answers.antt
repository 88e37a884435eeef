use mathlib.Core.Path.{◌∙◌}
use Rattle.frozen.proofs.Laws.{from_bool_unit}
use Rattle.frozen.proofs.unit.Goals as goal

pub returns : goal.returns
returns c = c.from.ensures ∙ from_bool_unit c.args.on
