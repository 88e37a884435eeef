use Rattle.sid_filter.proofs.run_answer.Goals as goal

pub returns : goal.returns
returns c = simp c.report-told.ensures
