use mathlib.Core.Path.{sym}
use borrow.Author.Rules.{rules}
use borrow.Author.Tests.{ne_eqb}
use Rattle.response.proofs.Factors.{no_factors}
use Rattle.response.proofs.filter_mode_output_gain.Goals as goal

pub returns-in_default : goal.returns-in_default
returns-in_default c = sym (no_factors _ _ _ _ (search (rules, ne_eqb)) (search (rules, ne_eqb)) (search (rules, ne_eqb)) (search (rules, ne_eqb)))
