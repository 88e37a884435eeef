use mathlib.Core.Path.{◌∙◌}
use Rattle.refresh.proofs.Parts.{judged_by_registers}
use Rattle.refresh.proofs.judge_controls.Goals as goal

pub returns : goal.returns
returns c = c.judge_registers.ensures ∙ judged_by_registers _ _
