use Rattle.sid_filter.proofs.sid_filter_build_curves.Goals as goal

pub returns : goal.returns
returns c = record { value = simp (c.run_answer.ensures, c.build.ensures.value); curves_after = c.build.ensures.curves_after }
