use mathlib.Core.Path.{sym}
use Rattle.refresh.proofs.Words.{all_usable_lem}
use Rattle.refresh.proofs.judge_filter.Goals as goal

pub returns-then-usable : goal.returns-then-usable
returns-then-usable c =
    let a = c.args in
    sym
    (all_usable_lem a.bundle.now a.cutoff a.resonance
    (rw (
      ← c.integrator_gain_place.ensures,
      ← c.sixteen_usable.ensures,
      ← c.damping_place.ensures,
      ← c.usable_at.ensures,
      ← c.source_gain_modulation_place.ensures,
      ← c.usable_at-then-bundle-eq-BYTES.ensures,
    ) c.if-usable.true))

pub returns : goal.returns
returns c = c.judge_filter_places.ensures
