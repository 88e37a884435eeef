use Rattle.std.proofs.Common.{◌*◌, ◌&&◌, refl, rules}
use Rattle.std.proofs.Math.Bool.{and_assoc}
use borrow.Author.Tests.{tests}
use Rattle.wire.specs.First.{every}
use Rattle.wire.specs.Wire.{finite_at}
use Rattle.wire.proofs.Every.{all_below}
use Rattle.signals.specs.Lent.{finite_three_at, finite_numbers_of}
use Rattle.signals.proofs.finite_numbers.Goals as goal

pub returns : goal.returns
unfolding finite_numbers_of finite_three_at every
returns c =
    let s = c.args.s.now in
    let first = finite_at s 0 && finite_at s 4 && finite_at s 8 in
    let six = all_below _ (λ i. finite_at s (4 * i)) 6 c.all.ensures.ran (λ x q k. search (rules, tests)) (λ x q k. search (rules, tests)) in
    rw (six, and_assoc first (finite_at s 12) (finite_at s 16), and_assoc first (finite_at s 12 && finite_at s 16) (finite_at s 20)) refl
