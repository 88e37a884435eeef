use mathlib.Core.Path.{refl, ap}
use Rattle.run.specs.declared.Ended.{Ended}
use lib.ListN.{replicate}
use Rattle.wire.proofs.Laws.{put_at-whole}
use Rattle.sid_filter.proofs.tried.Goals as goal

pub returns : goal.returns
returns c =
    let copied = put_at-whole (replicate 68 0) c.args.block.now c.requires in
    rw (ap (λ (e : Ended). e.answer) c.run.ensures.value, c.put.ensures, copied) refl
