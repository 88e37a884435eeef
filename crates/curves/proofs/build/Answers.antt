use mathlib.Core.Path.{sym, ◌∙◌}
use Rattle.answers.proofs.Laws.{done_is}
use Rattle.curves.specs.Building.{build_of}
use Rattle.curves.proofs.Building.{build_done}
use Rattle.curves.proofs.build.Goals as goal

pub build_curves-requires : goal.build_curves-requires
build_curves-requires c =
    let a = c.before.args in
    build_done a.bundle.now a.curves.now
    (sym c.judge_build-judged.ensures ∙ done_is c.judge_build-judged.result (sym c.is_ok.ensures.value ∙ c.if-is_ok.true))

pub returns-then-is_ok : goal.returns-then-is_ok
unfolding build_of
returns-then-is_ok c = record { value = c.judge_build-judged.ensures; curves_after = simp (← c.judge_build-judged.ensures, ← c.is_ok.ensures.value, c.if-is_ok.true, c.build_curves.ensures) }

pub returns-else-is_ok : goal.returns-else-is_ok
unfolding build_of
returns-else-is_ok c = record { value = c.judge_build-judged.ensures; curves_after = simp (← c.judge_build-judged.ensures, ← c.is_ok.ensures.value, c.if-is_ok.false) }
