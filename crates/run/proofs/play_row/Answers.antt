use mathlib.Core.Path.{sym, ◌∙◌}
use Rattle.run.proofs.Rows.{sofar_start, none_next}
use Rattle.run.proofs.play_row.Goals as goal

pub returns : goal.returns
returns c =
    let z = c.requires in
    let told = none_next _ _ _ _ _ _ _ _ _ _ _ _ _ _ _ (sofar_start _ _ _ _ _ _ _ _ _ _ _ z.ahead.within z.room.fewer z.ahead.readable z.room.room)
    (sym c.sample_next.ensures ∙ c.if-sample_next.false) in
    record { value = told.0; output_after = told.1 }
