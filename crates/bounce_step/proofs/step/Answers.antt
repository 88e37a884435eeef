use borrow.Author.Rules.{rules}
use Rattle.bounce_step.proofs.Laws.{samples_count}
use Rattle.bounce_step.proofs.step.Goals as goal

pub returns-clause-prefix_len : goal.returns-clause-prefix_len
returns-clause-prefix_len c =
    let ran = c.run-ended.ensures in
    samples_count _ _ _ _ ran.value ran.output_after (search rules)
