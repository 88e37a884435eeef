use Rattle.std.proofs.Common.{◌≡◌, ◌-◌, ◌∙◌, refl, arith}
use Rattle.std.proofs.lemmas.List.FromFn.{fill_by_all}
use lib.ListN.{length-set}
use Rattle.ladder.specs.Ladder.{row_at, tabulated}
use Rattle.ladder.proofs.Laws.{stored, row_next}
use Rattle.ladder.proofs.Network.sweep.Goals as goal

pub loop-i-init : goal.loop-i-init
unfolding row_at
loop-i-init c = (refl, λ k h. let e : k ≡ 0 = omega arith in rw e c.first_row-rows.ensures)

pub loop-i-preserved : goal.loop-i-preserved
loop-i-preserved c =
    let n = c.args.self.now in
    let rows = c.loop-i.rows in
    let i = c.loop-i.i in
    let row : c.next_row.result ≡ row_at n i = rw (c.next_row.ensures, c.loop-i.invariant.1 (i - 1) (omega arith)) (row_next n i c.loop-i.auto.i) in
    (length-set rows i _ ∙ c.loop-i.invariant.0, λ k h. stored (row_at n) rows i k _ _ (omega arith) row (λ other. c.loop-i.invariant.1 k (omega arith)))

pub returns : goal.returns
unfolding tabulated
returns c = fill_by_all (row_at c.args.self.now) c.loop-i.rows 12 _ c.loop-i.invariant.0 (λ k h. c.loop-i.invariant.1 k (omega arith))
