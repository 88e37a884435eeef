use Rattle.sid_filter.proofs.sid_filter_widen_state.Goals as goal

pub returns : goal.returns
returns c = record { value = simp (c.run_answer.ensures, c.unless.ensures, c.widen-widened.ensures.value); wide_after = c.widen-widened.ensures.wide_after }
