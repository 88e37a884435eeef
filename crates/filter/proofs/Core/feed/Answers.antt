use mathlib.Core.Path.{sym, ◌∙◌}
use Rattle.answers.proofs.Laws.{handed_on}
use Rattle.filter.specs.Core.{feed_of}
use Rattle.filter.proofs.Laws.{decays_unread}
use Rattle.filter.proofs.Core.feed.Goals as goal

pub returns-in_err-first : goal.returns-in_err-first
unfolding feed_of
returns-in_err-first c =
    let judged = sym (simp (c.first-known.ensures, c.judge_lent.ensures, c.judge.ensures, c.judge_decays.ensures) at c.first.ensures) ∙ c.in_err-first.was in
    record { value = handed_on _ c.from_residual.ensures ∙ simp judged; core_after = simp judged }

pub returns : goal.returns
unfolding feed_of
returns c =
    let a = c.args in
    let judged = sym (simp (c.first-known.ensures, c.judge_lent.ensures, c.judge.ensures, c.judge_decays.ensures) at c.first.ensures) ∙ c.in_ok-first.was in
    let unread = decays_unread a.bundle.now a.curves.now a.decays.now a.self.now a.event in
    record { value = simp (judged, ← unread, c.feed_event.ensures.value); core_after = simp (judged, ← unread, c.feed_event.ensures.core_after) }
