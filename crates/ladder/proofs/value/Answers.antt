use Rattle.std.proofs.Common.{ℕ, rules, ◌∙◌}
use Rattle.std.specs.Prelude.{Float}
use Rattle.std.specs.Float.Ieee.{neg, of_bits}
use Rattle.std.proofs.lemmas.Iterator.{YieldsList-from_slice, YieldsList-from_map}
use Rattle.std.proofs.lemmas.Iterator.Adapters.{total_from_yields_List}
use Rattle.std.proofs.lemmas.Iterator.Consumers.{YieldsList-from_enumerate, YieldsList-at}
use borrow.Author.Tests.{tests}
use Rattle.ladder.specs.Arithmetic.{◌⊞◌, ◌⊠◌}
use Rattle.ladder.specs.Ladder.{level_at, value_of}
use Rattle.ladder.proofs.Laws.{enumerated_sum}
use Rattle.ladder.proofs.value.Goals as goal

pub returns : goal.returns
unfolding value_of neg of_bits
returns c =
    let xs = c.args.weights.now in
    let share = λ (p : ℕ × Float). level_at c.args.code c.args.leakage p.0 ⊠ p.1 in
    total_from_yields_List (λ a x. a ⊞ x) _ _ c.sum.ensures.ran
    (YieldsList-from_map _ share
    (YieldsList-at c.map.ensures.source (YieldsList-from_enumerate (YieldsList-at c.enumerate.ensures.source (YieldsList-from_slice xs (cc))) c.enumerate.ensures.count))
    c.map.ensures.closure (λ x r q k. search (rules, tests)))
    ∙ enumerated_sum share xs 12 (search rules)
