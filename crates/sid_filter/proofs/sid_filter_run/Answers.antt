use Rattle.sid_filter.proofs.Most.{events_fit, samples_fit}
use Rattle.sid_filter.proofs.sid_filter_run.Goals as goal

pub overflow_cast-ended : goal.overflow_cast-ended
overflow_cast-ended c = record { fits = events_fit _ _ _ _ c.run-ended.ensures.value }

pub overflow_cast-ended-2 : goal.overflow_cast-ended-2
overflow_cast-ended-2 c = record { fits = samples_fit _ _ _ _ c.run-ended.ensures.value }

pub returns : goal.returns
returns c = record { value = simp (c.run_answer.ensures, c.run-ended.ensures.value); state_after = c.run-ended.ensures.state_after; output_after = c.run-ended.ensures.output_after }
