-- The tick on parts is the tick on the controls that they are parts of, without the test of the state after. Assumes nothing.
use Prim.Native.Nat.{ℕ}
use mathlib.Core.Path.{◌≡◌, refl, ap}
use mathlib.Core.List.{List}
use Rattle.integrator.specs.declared.IntegratorState.{IntegratorState}
use Rattle.transients.specs.declared.TransientState.{TransientState}
use Rattle.signals.specs.declared.Voices.{Voices}
use Rattle.controls.specs.declared.ControlCache.{ControlCache}
use Rattle.refresh.specs.Refresh.{core_controls_of}
use Rattle.sample.specs.Sample.{filter_sample_of}
use Rattle.sample.specs.Parts.{cache_of, rest_of}
use Rattle.sample.proofs.Parts.{parts_are_sample}
use Rattle.clock.specs.declared.Settings.{Settings}
use Rattle.clock.specs.Clock.{tick_of, finite_after_of, clock_of, tick_from_parts_of}

module _ (bundle curves : List ℕ) (c : ControlCache) (s : Settings) (i : IntegratorState) (t : TransientState) (voices : Voices) where
  -- the parts of the controls
  abbrev parts : ControlCache
  parts = cache_of c.filter.integrator_gain c.filter.input_drive c.filter.feedback_drive (core_controls_of c.filter) c.mode_output_gain

  pub parts_are_tick : tick_from_parts_of curves parts (rest_of bundle s.topology) s i t voices
      ≡ tick_of curves (filter_sample_of bundle curves s.slots.summer s.topology c s.mode i) s t voices
  unfolding tick_from_parts_of tick_of
  parts_are_tick = rw (parts_are_sample bundle curves s.slots.summer s.topology c s.mode i) refl

  pub parts_are_clock : finite_after_of (tick_from_parts_of curves parts (rest_of bundle s.topology) s i t voices) ≡ clock_of bundle curves c s i t voices
  unfolding clock_of
  parts_are_clock = ap finite_after_of parts_are_tick
