-- No sum is ever -0.0: each starts from 0.0, and what is added to it is an f32 (`lent-summed`). Assumes nothing.
use mathlib.Core.Bool.{Bool, true, false, cond}
use mathlib.Core.List.{List}
use Prim.Native.Nat.{ℕ, zero, suc}
use lib.Dec.{T, eqb}
use lib.ListN.{get_or}
use lib.Ieee.{Float, nan, inf, fin, binary32, eq, lt, fits}
use lib.Ieee.Bits.{of_bits-fits}
use lib.Ieee.Fits.{cond-fits, mul-fits, div-fits}
use Rattle.constants.specs.Values as K
use Rattle.floats.specs.Arithmetic.{◌⊕◌, ◌⊖◌, ◌⊗◌, ◌⊘◌, f32}
use Rattle.floats.specs.Floats.{abs_of}
use Rattle.floats.proofs.Signs.{Summed, zero_summed, add_summed}
use Rattle.mixing.specs.declared.MixingTopology.{MixingTopology}
use Rattle.mixing.specs.Topology.{topology_of}
use Rattle.response.specs.Levels.{analogue_span_of, normalise_voltage_of}
use Rattle.voice.specs.declared.VoiceSignal.{VoiceSignal}
use Rattle.voice.specs.Voice.{voice_at}
use Rattle.voice.specs.Levels.{filter_voice_signal_of, mixer_voice_signal_of, source_resting_of}
use Rattle.signals.specs.declared.RoutedSignals.{RoutedSignals}
use Rattle.signals.specs.declared.Contribution.{Contribution}
use Rattle.signals.specs.declared.Voices.{Voices}
use Rattle.transients.specs.declared.SawBlends.{SawBlends}
use Rattle.signals.specs.declared.ExternalInputState.{ExternalInputState}
use Rattle.signals.specs.Signals as S
use Rattle.signals.specs.Lent.{voices_of, external_of, blends_of}
use Rattle.signals.specs.Collecting.{signals_of}
use Rattle.signals.proofs.Masks.{masked_each}

-- ---- what is added

level_fits : (volts : Float) → T (fits binary32 (normalise_voltage_of volts))
unfolding normalise_voltage_of
level_fits volts =
    let x = (volts ⊖ K.sid_analogue_min_volts) ⊘ analogue_span_of in
    let hi = f32 0x3f80_0000 in
    cond-fits binary32 (lt x (f32 0)) (f32 0) (cond (lt hi x) hi x) (of_bits-fits binary32 0)
    (cond-fits binary32 (lt hi x) hi x (of_bits-fits binary32 0x3f80_0000) (div-fits binary32 _ _))

-- at envelope 0, and at any other
contribution : (v : VoiceSignal) (resting : Float) (P : Contribution → Type 0) → P (record { source = resting; energy = f32 0 })
    → (let d = filter_voice_signal_of v ⊖ resting in P (record { source = filter_voice_signal_of v; energy = d ⊗ d })) → P (S.filter_voice_contribution_of v resting)
unfolding S.filter_voice_contribution_of
contribution v resting P p q = go (eq v.envelope (f32 0))
  where
    go : (b : Bool) → let d = filter_voice_signal_of v ⊖ resting in P (cond b (record { source = resting; energy = f32 0 }) (record { source = filter_voice_signal_of v; energy = d ⊗ d }))
    go true = p
    go false = q

pub energy_fits : (v : VoiceSignal) (resting : Float) → T (fits binary32 (S.filter_voice_contribution_of v resting).energy)
energy_fits v resting = contribution v resting (λ (c : Contribution). T (fits binary32 c.energy)) (of_bits-fits binary32 0) (mul-fits binary32 _ _)

source_fits : (v : VoiceSignal) (resting : Float) → T (fits binary32 resting) → T (fits binary32 (S.filter_voice_contribution_of v resting).source)
unfolding filter_voice_signal_of
source_fits v resting r = contribution v resting (λ (c : Contribution). T (fits binary32 c.source)) r (level_fits _)

abs_fits : (x : Float) → T (fits binary32 x) → T (fits binary32 (abs_of x))
unfolding fits abs_of
abs_fits nan h = h
abs_fits (inf s) h = h
abs_fits (fin s zero e) h = h
abs_fits (fin s (suc m) e) h = h

-- ---- one after another

-- each of the eight is summed up from 0.0
pub record AllSummed (s : RoutedSignals) : Type 0 where
  pub filter_input : Summed binary32 s.filter_input_sum
  pub source_energy : Summed binary32 s.filter_source_energy
  pub filter_activity : Summed binary32 s.filter_input_activity
  pub bypass_input : Summed binary32 s.bypass_input_sum
  pub bypass_activity : Summed binary32 s.bypass_envelope_activity
  pub pure_activity : Summed binary32 s.pure_bypass_envelope_activity
  pub attack_drive : Summed binary32 s.pure_bypass_attack_drive
  pub pulse_activity : Summed binary32 s.pure_pulse_envelope_activity

silent_summed : AllSummed S.silent_of
silent_summed =
    let z = zero_summed binary32 in
    record { filter_input = z; source_energy = z; filter_activity = z; bypass_input = z; bypass_activity = z; pure_activity = z; attack_drive = z; pulse_activity = z }

if_summed : (b : Bool) {s t : RoutedSignals} → AllSummed s → AllSummed t → AllSummed (cond b s t)
if_summed true p q = p
if_summed false p q = q

filter_summed : {s : RoutedSignals} {input energy activity : Float} → AllSummed s → Summed binary32 input → Summed binary32 energy → Summed binary32 activity
    → AllSummed (S.with_filter s input energy activity)
filter_summed k i e a =
    record {
      filter_input = i;
      source_energy = e;
      filter_activity = a;
      bypass_input = k.bypass_input;
      bypass_activity = k.bypass_activity;
      pure_activity = k.pure_activity;
      attack_drive = k.attack_drive;
      pulse_activity = k.pulse_activity;
    }

bypass_summed : {s : RoutedSignals} {input activity : Float} → AllSummed s → Summed binary32 input → Summed binary32 activity → AllSummed (S.with_bypass s input activity)
bypass_summed k i a =
    record {
      filter_input = k.filter_input;
      source_energy = k.source_energy;
      filter_activity = k.filter_activity;
      bypass_input = i;
      bypass_activity = a;
      pure_activity = k.pure_activity;
      attack_drive = k.attack_drive;
      pulse_activity = k.pulse_activity;
    }

module _ (v : VoiceSignal) (resting : Float) (e : T (fits binary32 v.envelope)) (r : T (fits binary32 resting)) where
  filter_voice_summed : (s : RoutedSignals) → AllSummed s → AllSummed (S.add_filter_voice_of s v resting)
  unfolding S.add_filter_voice_of
  filter_voice_summed s k =
      filter_summed k (add_summed binary32 _ k.filter_input (source_fits v resting r)) (add_summed binary32 _ k.source_energy (energy_fits v resting)) (add_summed binary32 _ k.filter_activity e)

  pure_voice_summed : {s : RoutedSignals} → AllSummed s → AllSummed (S.add_pure_voice_of s v)
  unfolding S.add_pure_voice_of
  pure_voice_summed {s} k =
      record {
        filter_input = k.filter_input;
        source_energy = k.source_energy;
        filter_activity = k.filter_activity;
        bypass_input = k.bypass_input;
        bypass_activity = k.bypass_activity;
        pure_activity = add_summed binary32 _ k.pure_activity e;
        attack_drive = add_summed binary32 _ k.attack_drive (mul-fits binary32 _ _);
        pulse_activity = go (eqb v.waveform_selection 4);
      }
    where
      go : (b : Bool) → Summed binary32 (cond b (s.pure_pulse_envelope_activity ⊕ v.envelope) s.pure_pulse_envelope_activity)
      go true = add_summed binary32 _ k.pulse_activity e
      go false = k.pulse_activity

  bypass_voice_summed : (blend : Float) (s : RoutedSignals) → AllSummed s → AllSummed (S.add_bypass_voice_of s v blend resting)
  unfolding S.add_bypass_voice_of mixer_voice_signal_of
  bypass_voice_summed blend s k =
      let sounding = bypass_summed k (add_summed binary32 _ k.bypass_input (level_fits _)) (add_summed binary32 _ k.bypass_activity e) in
      if_summed (eq v.envelope (f32 0)) (bypass_summed k (add_summed binary32 _ k.bypass_input r) k.bypass_activity)
      (if_summed (S.is_pure_of v) (pure_voice_summed sounding) sounding)

module _ (x : ExternalInputState) where
  filter_external_summed : (resting : Float) → T (fits binary32 x.filter_signal) → {s : RoutedSignals} → AllSummed s → AllSummed (S.add_filter_external_of x resting s)
  filter_external_summed resting h k =
      filter_summed k (add_summed binary32 _ k.filter_input h) (add_summed binary32 _ k.source_energy (mul-fits binary32 _ _)) k.filter_activity

  bypass_external_summed : T (fits binary32 x.mixer_signal) → T (fits binary32 x.raw) → {s : RoutedSignals} → AllSummed s → AllSummed (S.add_bypass_external_of x s)
  bypass_external_summed h i k = bypass_summed k (add_summed binary32 _ k.bypass_input h) (add_summed binary32 _ k.bypass_activity (abs_fits x.raw i))

-- ---- all of them

-- every number that is added is an f32, as every float of the code is
pub record Envelopes (voices : Voices) : Type 0 where
  pub one : T (fits binary32 voices.one.envelope)
  pub two : T (fits binary32 voices.two.envelope)
  pub three : T (fits binary32 voices.three.envelope)

pub record ExternalLevels (x : ExternalInputState) : Type 0 where
  pub raw : T (fits binary32 x.raw)
  pub filter : T (fits binary32 x.filter_signal)
  pub mixer : T (fits binary32 x.mixer_signal)

pub collect_summed : (t : MixingTopology) (voices : Voices) (blends : SawBlends) (x : ExternalInputState) (resting : Float) → Envelopes voices → ExternalLevels x → T (fits binary32 resting)
    → AllSummed (S.collect_of t voices blends x resting)
unfolding S.collect_of S.add_voices_of S.add_external_of
collect_summed t voices blends x resting h l r =
    let filtered =
    masked_each AllSummed t.filter_internal_mask
    (filter_voice_summed voices.one resting h.one r)
    (filter_voice_summed voices.two resting h.two r)
    (filter_voice_summed voices.three resting h.three r)
    S.silent_of silent_summed
    in
    let voiced =
    masked_each AllSummed t.bypass_internal_mask
    (bypass_voice_summed voices.one resting h.one r blends.one)
    (bypass_voice_summed voices.two resting h.two r blends.two)
    (bypass_voice_summed voices.three resting h.three r blends.three)
    _ filtered
    in
    let routed = if_summed (get_or t.filter_membership 3 false) (filter_external_summed x resting l.filter voiced) voiced in
    if_summed (get_or t.bypass_membership 3 false) (bypass_external_summed x l.mixer l.raw routed) routed

-- ---- of any lent bytes

pub lent_envelopes : (s : List ℕ) → Envelopes (voices_of s)
unfolding voices_of voice_at
lent_envelopes s = let f32s = of_bits-fits binary32 in record { one = f32s _; two = f32s _; three = f32s _ }

lent_levels : (s : List ℕ) → ExternalLevels (external_of s)
unfolding external_of
lent_levels s = let f32s = of_bits-fits binary32 in record { raw = f32s _; filter = f32s _; mixer = f32s _ }

resting_fits : T (fits binary32 source_resting_of)
unfolding source_resting_of
resting_fits = level_fits _

pub lent_summed : (routing mode : ℕ) (voices numbers : List ℕ) → AllSummed (signals_of routing mode voices numbers)
unfolding signals_of
lent_summed routing mode voices numbers =
    collect_summed (topology_of routing mode) (voices_of voices) (blends_of numbers) (external_of numbers) source_resting_of (lent_envelopes voices) (lent_levels numbers) resting_fits
