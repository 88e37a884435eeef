use Rattle.std.proofs.Common.{◌≡◌, ◌-◌, ◌+◌, ℕ, ◌∙◌, refl, arith}
use Rattle.std.proofs.lemmas.List.FromFn.{fill_by_all}
use Rattle.std.specs.Float.{nan}
use lib.ListN.{length-set}
use Rattle.ladder.specs.Ladder.{result_from, tabulated}
use Rattle.ladder.proofs.Laws.{stored, result_row}
use Rattle.ladder.proofs.substitute.Goals as goal

pub loop-i-init : goal.loop-i-init
unfolding result_from
loop-i-init c = (refl, λ k h l. let e : k ≡ 11 = omega arith in rw e refl)

pub loop-i-preserved : goal.loop-i-preserved
loop-i-preserved c =
    let rows = c.args.rows.now in
    let result = c.loop-i.result in
    let i = c.loop-i.i - 1 in
    let below = c.loop-i.invariant.1 (i + 1) (omega arith) (omega arith) in (
      length-set result i _ ∙ c.loop-i.invariant.0,
      λ k h l. stored (λ (k : ℕ). result_from rows (11 - k) k) result i k _ _ (omega arith) (result_row rows i (omega arith) below) (λ other. c.loop-i.invariant.1 k (omega arith) l),
    )

pub returns : goal.returns
unfolding tabulated
returns c = fill_by_all (λ (k : ℕ). result_from c.args.rows.now (11 - k) k) c.loop-i.result 12 nan c.loop-i.invariant.0 (λ k h. c.loop-i.invariant.1 k (omega arith) h)
