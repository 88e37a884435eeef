use Rattle.std.proofs.Common.{ℕ, refl, ◌∙◌}
use Rattle.std.proofs.lemmas.List.FromFn.{fill_by_all}
use Rattle.std.specs.Float.{nan}
use Rattle.std.specs.Prelude.{replicate, cond, eqb}
use borrow.Author.Tests.{eq-eqb, ne_eqb}
use lib.ListN.{set, length-set, get_or-replicate}
use Rattle.ladder.specs.Arithmetic.{◌⊞◌, f64}
use Rattle.ladder.specs.Ladder.{tabulated}
use Rattle.ladder.proofs.Laws.{stored}
use Rattle.ladder.proofs.right_side.Goals as goal

pub returns : goal.returns
unfolding tabulated
returns c =
    let z = f64 0 in
    let v = z ⊞ c.args.source in
    let i = c.args.active in
    let zeros = replicate 12 z in
    let entry = λ (k : ℕ). cond (eqb k i) v z in
    fill_by_all entry (set zeros i v) 12 nan (length-set zeros i v)
    (λ k h. stored entry zeros i k v nan c.requires (rw (eq-eqb i i refl) refl) (λ n. get_or-replicate 12 k z nan h ∙ rw (ne_eqb k i n) refl))
