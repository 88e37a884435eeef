use mathlib.Core.Path.{sym, ap, ◌∙◌}
use Rattle.filter.specs.Lent.{lent_all}
use Rattle.run.specs.Rows.{play_end}
use Rattle.run.specs.Parts.{play_put}
use Rattle.run.proofs.Whole.{start_stops, start_plays, start_ahead, start_room, start_from}
use Rattle.run.proofs.play_from.Goals as goal

pub returns-in-Err : goal.returns-in-Err
returns-in-Err c =
    let told = start_stops _ _ _ c.requires.0 _ (sym c.judge_controls.ensures ∙ c.in-Err.is) _ in
    record { value = told.0; output_after = told.1 }

pub play-requires : goal.play-requires
play-requires c =
    let z = c.requires in
    let a = c.args in
    let lent = lent_all a.bundle.now a.curves.now a.decays.now in
    let judged = sym c.judge_controls.ensures ∙ c.in-Ok.is in
    let count = c.u32_at-count.ensures in
    record {
      ahead = start_ahead lent _ _ z.0 judged count a.output.now z.1;
      room = start_room lent _ _ z.0 judged count a.output.now z.1;
      from = start_from lent _ _ z.0 judged count;
    }

pub returns : goal.returns
returns c =
    let p = c.play.ensures in
    let plays = start_plays _ _ _ c.requires.0 (sym c.judge_controls.ensures ∙ c.in-Ok.is) c.u32_at-count.ensures in
    record { value = p.value ∙ ap (play_end 0 0) plays; output_after = p.output_after ∙ ap (play_put c.args.output.now) plays }
