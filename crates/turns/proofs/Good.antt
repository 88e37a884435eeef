-- What a tick leaves where it was taken: finite floats. Assumes nothing.
use Prim.Native.Nat.{ℕ}
use mathlib.Core.Path.{◌≡◌, refl}
use mathlib.Core.Bool.{Bool, true, false, ◌&&◌, cond}
use mathlib.Core.List.{List}
use lib.Ieee.{Float}
use lib.Ieee.Scale.{finite}
use Rattle.answers.specs.declared.Refusal.TheVariants.{Domain}
use Rattle.integrator.specs.declared.IntegratorState.{IntegratorState}
use Rattle.transients.specs.declared.TransientState.{TransientState}
use Rattle.transients.specs.Transients.{finite_transients_of}
use Rattle.signals.specs.declared.Voices.{Voices}
use Rattle.signals.specs.declared.RoutedSignals.{RoutedSignals}
use Rattle.signals.specs.Collecting.{finite_signals_of}
use Rattle.control.specs.Block.{finite_floats_of}
use Rattle.controls.specs.declared.ControlCache.{ControlCache}
use Rattle.sample.specs.declared.Sampled.{Sampled}
use Rattle.sample.proofs.Valid.{finite_taken, sample_valid}
use Rattle.clock.specs.declared.Settings.{Settings}
use Rattle.clock.specs.declared.Ticked.{Ticked}
use Rattle.activity.specs.Activity.{bypass_output_gain_of}
use Rattle.clock.specs.Transients.{combined_activity_of, node_charge_of, decayed_of}
use Rattle.clock.specs.Clock.{tracked_of, tick_signals_of, common_mode_displacement_of, stage_argument_of, charged_of, clocked_of, levelled_of, mixed_tick_of, after_core_of, tick_of, finite_after_of, clock_of}
use Rattle.std.specs.Prelude.{Err, Result, Float, Ok}
use Rattle.answers.specs.declared.Refusal.{Refusal}

-- ---- the tick before its state is judged: a finite integrator

unfoldable pub fair_tick : Result Ticked Refusal → Bool
fair_tick (Ok x) = finite_floats_of x.integrator
fair_tick (Err refusal) = true

fair_or_domain : (b : Bool) (x : Result Ticked Refusal) → fair_tick x ≡ true → fair_tick (cond b x (Err Domain)) ≡ true
unfolding fair_tick
fair_or_domain true x h = h
fair_or_domain false x h = refl

clocked_or_domain : (b : Bool) (x : Ticked) → finite_floats_of x.integrator ≡ true → fair_tick (cond b (Ok x) (Err Domain)) ≡ true
unfolding fair_tick
clocked_or_domain b x h = fair_or_domain b (Ok x) h

module _ (curves : List ℕ) (s : Settings) (voices : Voices) (signals : RoutedSignals) (t : TransientState) where
  clocked_fair : (i : IntegratorState) (filter mixer level : Float) → finite_floats_of i ≡ true → fair_tick (clocked_of s voices signals t i filter mixer level) ≡ true
  unfolding clocked_of
  clocked_fair i filter mixer level h =
      let held = charged_of s signals t in
      let displacement = common_mode_displacement_of s.output (combined_activity_of voices) signals held.bypass_attack_charge in
      let stage = stage_argument_of level displacement (bypass_output_gain_of s.topology.filter_output_count signals.bypass_envelope_activity) in
      let charge = node_charge_of held in
      clocked_or_domain (finite stage && finite charge && finite mixer)
      (record { outputs = record { stage = stage; charge = charge; mixer = mixer; filter = filter }; integrator = i; transients = decayed_of held s.factors }) h

  levelled_fair : (i : IntegratorState) (filter mixer : Float) (level : Result Float Refusal) → finite_floats_of i ≡ true → fair_tick (levelled_of s voices signals t i filter mixer level) ≡ true
  unfolding levelled_of fair_tick
  levelled_fair i filter mixer (Ok x) h = clocked_fair i filter mixer x h
  levelled_fair i filter mixer (Err refusal) h = refl

  mixed_fair : (i : IntegratorState) (filter : Float) (raw : Result Float Refusal) → finite_floats_of i ≡ true → fair_tick (mixed_tick_of curves s voices signals t i filter raw) ≡ true
  unfolding mixed_tick_of fair_tick
  mixed_fair i filter (Ok x) h = levelled_fair i filter _ _ h
  mixed_fair i filter (Err refusal) h = refl

  core_fair : (x : Result Sampled Refusal) → finite_taken x ≡ true → fair_tick (after_core_of curves s voices signals t x) ≡ true
  unfolding after_core_of finite_taken fair_tick
  core_fair (Ok x) f = mixed_fair x.state x.outputs.selected _ f
  core_fair (Err refusal) f = refl

tick_fair : (curves : List ℕ) (core : Float → Float → Result Sampled Refusal) (s : Settings) (t : TransientState) (voices : Voices)
    → ((sum energy : Float) → finite_taken (core sum energy) ≡ true) → fair_tick (tick_of curves core s t voices) ≡ true
unfolding tick_of
tick_fair curves core s t voices f =
    let tracked = tracked_of s voices t in
    let signals = tick_signals_of s voices tracked in
    let x = core signals.filter_input_sum signals.filter_source_energy in
    fair_or_domain (finite_signals_of signals) (after_core_of curves s voices signals tracked x) (core_fair curves s voices signals tracked x (f _ _))

-- ---- the whole tick

unfoldable pub good_tick : Result Ticked Refusal → Bool
good_tick (Ok x) = finite_floats_of x.integrator && finite_transients_of x.transients
good_tick (Err refusal) = true

after_good : (x : Result Ticked Refusal) → fair_tick x ≡ true → good_tick (finite_after_of x) ≡ true
unfolding fair_tick good_tick
after_good (Ok x) h = go (finite_transients_of x.transients) refl
  where
    go : (b : Bool) → finite_transients_of x.transients ≡ b → good_tick (cond b (Ok x) (Err Domain)) ≡ true
    go true e = rw (h, e) refl
    go false e = refl
after_good (Err refusal) h = refl

pub clock_good : (bundle curves : List ℕ) (c : ControlCache) (s : Settings) (i : IntegratorState) (t : TransientState) (voices : Voices) → finite_floats_of i ≡ true
    → good_tick (clock_of bundle curves c s i t voices) ≡ true
unfolding clock_of
clock_good bundle curves c s i t voices h =
    after_good _ (tick_fair curves _ s t voices (λ sum energy. sample_valid bundle curves s.slots.summer s.topology i sum energy c s.mode h))
