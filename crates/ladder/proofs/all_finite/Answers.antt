use Rattle.std.proofs.Common.{◌≡◌, refl, rules, true, false}
use Rattle.std.specs.Float.{nan}
use Rattle.std.specs.Float.Ieee.Scale.{finite}
use Rattle.std.proofs.lemmas.Iterator.{YieldsList-from_slice, cases_from_all}
use borrow.Author.Tests.{tests}
use Rattle.ladder.specs.Calls.{all_finite_of}
use Rattle.ladder.specs.Ladder.{at}
use Rattle.wire.proofs.Every.{all_told}
use Rattle.ladder.proofs.all_finite.Goals as goal

pub returns : goal.returns
unfolding all_finite_of
returns c =
    let xs = c.args.xs.now in
    all_told finite (λ i. finite (at xs i)) xs 12 nan _ (search rules) (λ k h. refl)
    (cases_from_all _ _ _ (λ x. finite x ≡ true) (λ x. finite x ≡ false) c.all.ensures.ran (YieldsList-from_slice xs (cc))
    (λ x q k. search (rules, tests)) (λ x q k. search (rules, tests)))
