use Rattle.sid_filter.proofs.sid_filter_collect.Goals as goal

pub returns : goal.returns
returns c = record { value = simp (c.run_answer.ensures, c.collect_lent.ensures.value); sums_after = c.collect_lent.ensures.sums_after }
