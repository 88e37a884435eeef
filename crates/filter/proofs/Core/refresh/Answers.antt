use mathlib.Core.Path.{sym, ◌∙◌}
use Rattle.answers.proofs.Laws.{handed_on, and_refused, and_done}
use Rattle.filter.specs.Core.{refreshed_of}
use Rattle.filter.proofs.Core.refresh.Goals as goal

pub returns-in_err-fresh : goal.returns-in_err-fresh
unfolding refreshed_of
returns-in_err-fresh c =
    let judged = and_refused _ _ (sym c.refresh.ensures ∙ c.in_err-fresh.was) in
    record { value = handed_on _ c.from_residual.ensures ∙ simp judged; core_after = simp judged }

pub returns : goal.returns
unfolding refreshed_of
returns c =
    let judged = and_done _ _ (sym c.refresh.ensures ∙ c.in_ok-fresh.was) in
    record { value = simp judged.0; core_after = simp (judged.0, judged.1) }
