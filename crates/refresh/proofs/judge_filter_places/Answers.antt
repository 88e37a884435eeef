use Rattle.controls.specs.Judging.{judge_filter_of}
use Rattle.refresh.proofs.judge_filter_places.Goals as goal

pub returns : goal.returns
unfolding judge_filter_of
returns c =
    simp (
      c.judge_places.ensures,
      c.source_gain_modulation_place.ensures,
      c.damping_place.ensures,
      c.integrator_gain_place-16.ensures,
      c.integrator_gain_place-15.ensures,
      c.integrator_gain_place-14.ensures,
      c.integrator_gain_place-13.ensures,
      c.integrator_gain_place-12.ensures,
      c.integrator_gain_place-11.ensures,
      c.integrator_gain_place-10.ensures,
      c.integrator_gain_place-9.ensures,
      c.integrator_gain_place-8.ensures,
      c.integrator_gain_place-7.ensures,
      c.integrator_gain_place-6.ensures,
      c.integrator_gain_place-5.ensures,
      c.integrator_gain_place-4.ensures,
      c.integrator_gain_place-3.ensures,
      c.integrator_gain_place-2.ensures,
      c.integrator_gain_place.ensures,
    )
