use Rattle.std.proofs.Common.{◌*◌, ◌&&◌, length, refl, sym, rules}
use Rattle.std.specs.Prelude.{eqb}
use Rattle.std.proofs.Math.Bool.{and_assoc}
use borrow.Author.Tests.{tests}
use Rattle.wire.specs.First.{every}
use Rattle.wire.proofs.Every.{all_below}
use Rattle.transients.specs.Block.{factor_at, judge_decays_of}
use Rattle.transients.proofs.judge_decays.Goals as goal

pub returns : goal.returns
unfolding judge_decays_of every
returns c =
    let s = c.args.decays.now in
    let six = all_below _ (λ i. factor_at s (4 * i)) 6 c.all-factors.ensures.ran (λ x q k. search (rules, tests)) (λ x q k. search (rules, tests)) in
    rw (c.unless.ensures, six, sym (and_assoc (eqb (length s) 24) (factor_at s 0 && factor_at s 4 && factor_at s 8 && factor_at s 12 && factor_at s 16) (factor_at s 20))) refl
