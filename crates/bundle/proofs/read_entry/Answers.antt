use mathlib.Core.Path.{sym, ◌∙◌}
use Rattle.answers.proofs.Laws.{handed_on, unless_done, unless_refused}
use Rattle.bundle.specs.Opening.{judge_places_of}
use Rattle.bundle.specs.Reading.{read_of}
use Rattle.bundle.proofs.read_entry.Goals as goal

pub returns-in_err-unless : goal.returns-in_err-unless
unfolding judge_places_of read_of
returns-in_err-unless c =
    let off = unless_refused _ _ (sym c.unless.ensures ∙ c.in_err-unless.was) in
    handed_on _ c.from_residual.ensures ∙ simp (← c.u32_at-bits.ensures, ← c.usable.ensures, off.0, off.1)

pub returns : goal.returns
unfolding judge_places_of read_of
returns c =
    simp (← c.u32_at-bits.ensures, ← c.usable.ensures, unless_done _ _ (sym c.unless.ensures ∙ c.in_ok-unless.was), c.f32_of.ensures)
