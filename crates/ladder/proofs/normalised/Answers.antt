use Rattle.std.proofs.Common.{◌≡◌, refl, rules, ◌∙◌}
use Rattle.std.proofs.lemmas.Iterator.{YieldsList-from_slice}
use Rattle.std.proofs.lemmas.Iterator.Adapters.{total_from_yields_List}
use Rattle.std.proofs.lemmas.List.FromFn.{fill_by_all}
use Rattle.std.specs.Float.{nan}
use Rattle.std.specs.Float.Ieee.{neg, of_bits}
use Rattle.ladder.specs.Arithmetic.{◌⊞◌, ◌⧄◌}
use Rattle.ladder.specs.Ladder.{at, tabulated, total_of}
use Rattle.ladder.proofs.Laws.{sum_told}
use Rattle.ladder.proofs.normalised.Goals as goal

pub returns : goal.returns
unfolding tabulated neg of_bits
returns c =
    let xs = c.args.xs in
    let sum : c.sum-sum.result ≡ total_of xs =
    total_from_yields_List (λ a x. a ⊞ x) _ _ c.sum-sum.ensures.ran (YieldsList-from_slice xs (cc)) ∙ sum_told (at xs) xs 12 (search rules) (λ k h. refl) in
    let made = c.map.ensures.items in
    fill_by_all (λ i. at xs i ⧄ total_of xs) c.map.result 12 nan made.long (λ k h. let at = made.at k nan nan h in rw (← sum) (search rules))
