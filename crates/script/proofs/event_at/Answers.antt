use mathlib.Core.Path.{◌∙◌}
use native.Mathlib.Omega.{arith}
use Rattle.script.proofs.Laws.{event_part, event_past}
use Rattle.script.proofs.event_at.Goals as goal
use Rattle.script.proofs.event_at.Goals.{then-script-lt12-via-then-script-lt12, then-script-lt12-via-else-script-lt12+then-script-place}

pub returns-then-script-lt12 : goal.returns-then-script-lt12
returns-then-script-lt12 c =
    event_past c.args.script.now c.args.place
    (elim c.then-script-lt12.branch [ then-script-lt12-via-then-script-lt12 w ↦ omega arith | then-script-lt12-via-else-script-lt12+then-script-place w ↦ omega arith ])

pub returns : goal.returns
returns c = c.decode_event.ensures ∙ event_part c.args.script.now c.args.place
