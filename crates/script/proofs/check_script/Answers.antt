use Prim.Native.Nat.{◌+◌, ◌*◌}
use mathlib.Core.Path.{sym, ◌∙◌}
use mathlib.Core.Bool.{true, false}
use lib.Dec.{eqb}
use lib.ListN.{length}
use Rattle.answers.proofs.Laws.{handed_on, unless_done, unless_refused}
use Rattle.script.proofs.Laws.{count_few, check_told}
use Rattle.script.proofs.check_script.Goals as goal

pub returns-in_err-unless : goal.returns-in_err-unless
returns-in_err-unless c =
    let off = unless_refused _ _ (sym c.unless.ensures ∙ c.in_err-unless.was) in
    handed_on _ c.from_residual.ensures ∙ rw (← off.1) (check_told c.args.script.now false c.u32_at-count.ensures c.u32_at.ensures off.0)

pub tally-requires : goal.tally-requires
tally-requires c =
    count_few c.u32_at-count.result (eqb c.u32_at.result 8) (eqb (length c.args.script.now) (8 + 12 * c.u32_at-count.result))
    (unless_done _ _ (sym c.unless.ensures ∙ c.in_ok-unless.was))

pub returns : goal.returns
returns c =
    c.tally.ensures ∙ check_told c.args.script.now true c.u32_at-count.ensures c.u32_at.ensures (unless_done _ _ (sym c.unless.ensures ∙ c.in_ok-unless.was))
