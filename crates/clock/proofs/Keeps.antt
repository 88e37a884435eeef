-- A tick keeps the transients finite (`tick-keeps`): where its four numbers are finite, so are the ten floats that it leaves. So the test of the state after refuses nothing.
-- The factors are from 0 to 1, as the test of the lent numbers has it (`judged-tame`). Assumes nothing.
use Prim.Native.Nat.{ℕ}
use mathlib.Core.Path.{◌≡◌, refl}
use mathlib.Core.Bool.{Bool, true, false, ◌&&◌, cond}
use mathlib.Core.List.{List}
use lib.Dec.{eqb, ltb}
use lib.ListN.{length}
use lib.Ieee.{Float, binary32, le, lt, fits, of_bits}
use lib.Ieee.Fits.{add-fits, mul-fits}
use lib.Ieee.Scale.{finite}
use Rattle.constants.specs.Values as K
use Rattle.answers.specs.declared.Refusal.TheVariants.{Domain, Decays}
use Rattle.answers.proofs.Laws.{unless_done}
use Rattle.floats.specs.Arithmetic.{◌⊕◌, ◌⊖◌, ◌⊗◌, f32}
use Rattle.floats.specs.Floats.{finite_f32_of}
use Rattle.floats.proofs.Laws.{both, finite_f32, f32_fits, f32_finite}
use Rattle.floats.proofs.Shrinking.{add_parts, sub_parts, mul_parts, shrunk_finite, blend_zero_finite, blend_one_finite}
use Rattle.wire.specs.Wire.{f32_at}
use Rattle.integrator.specs.declared.IntegratorState.{IntegratorState}
use Rattle.voice.specs.declared.VoiceSignal.{VoiceSignal}
use Rattle.voice.specs.Levels.{source_resting_of}
use Rattle.transients.specs.declared.TransientState.{TransientState}
use Rattle.transients.specs.Transients.{finite_transients_of}
use Rattle.transients.specs.Block.{factor_at, judge_decays_of}
use Rattle.transients.proofs.Laws.{Finite, finite_parts, parts_finite}
use Rattle.signals.specs.declared.Voices.{Voices}
use Rattle.signals.specs.declared.RoutedSignals.{RoutedSignals}
use Rattle.signals.specs.Collecting.{finite_signals_of}
use Rattle.signals.proofs.Fits.{pure_fits}
use Rattle.controls.specs.declared.OutputControls.{OutputControls}
use Rattle.sample.specs.declared.Sampled.{Sampled}
use Rattle.activity.specs.Activity.{attack_charge_of, bypass_output_gain_of}
use Rattle.clock.specs.declared.Factors.{Factors}
use Rattle.clock.specs.declared.Settings.{Settings}
use Rattle.clock.specs.declared.Ticked.{Ticked}
use Rattle.clock.specs.Transients as R
use Rattle.clock.specs.Clock as C
use Rattle.answers.specs.Answers.{done}
use Rattle.std.specs.Prelude.{Err, Result, Float, Ok}
use Rattle.answers.specs.declared.Refusal.{Refusal}

-- ---- factors from 0 to 1

-- By value, so that -0.0 is one of them.
pub record UpToOne (d : Float) : Type 0 where
  pub low : le (f32 0) d ≡ true
  pub high : le d (f32 0x3f80_0000) ≡ true

-- The five decays and the saw tracking.
pub record Tame (f : Factors) : Type 0 where
  pub fast : UpToOne f.volume_fast_decay
  pub slow : UpToOne f.volume_slow_decay
  pub attack : UpToOne f.bypass_attack_decay
  pub pulse_fast : UpToOne f.pulse_gate_fast_decay
  pub pulse_slow : UpToOne f.pulse_gate_slow_decay
  pub tracking : UpToOne f.saw_mixer_tracking

-- One of the lent numbers, by its place.
factor_tame : (s : List ℕ) (p : ℕ) → factor_at s p ≡ true → UpToOne (f32_at s p)
unfolding factor_at
factor_tame s p h = let b = both (le (f32 0) (f32_at s p)) (le (f32_at s p) (f32 0x3f80_0000)) h in record { low = b.0; high = b.1 }

-- The numbers that the test of the decays lets through are tame.
pub judged_tame : (decays : List ℕ) → judge_decays_of decays ≡ done → Tame (R.factors_of decays)
unfolding judge_decays_of R.factors_of
judged_tame s h =
    let a : ℕ → Bool = factor_at s in
    let first = a 0 && a 4 && a 8 && a 12 in
    let all = both (eqb (length s) 24 && (first && a 16)) (a 20) (unless_done _ Decays h) in
    let p = both first (a 16) (both (eqb (length s) 24) (first && a 16) all.0).1 in
    let q = both (a 0 && a 4 && a 8) (a 12) p.0 in
    let r = both (a 0 && a 4) (a 8) q.0 in
    let u = both (a 0) (a 4) r.0 in
    record {
      fast = factor_tame s 0 u.0;
      slow = factor_tame s 4 u.1;
      attack = factor_tame s 8 r.1;
      pulse_fast = factor_tame s 12 q.1;
      pulse_slow = factor_tame s 16 p.1;
      tracking = factor_tame s 20 all.1;
    }

-- ---- one float

-- A charge that decays stays finite.
decayed_charge : (x d : Float) → finite_f32_of x ≡ true → UpToOne d → finite_f32_of (x ⊗ d) ≡ true
decayed_charge x d h u = finite_f32 (x ⊗ d) (mul-fits binary32 x d) (shrunk_finite x d (f32_fits x h) (f32_finite x h) u.low u.high)

-- So does a blend that settles towards 1 or 0.
tracked_blend : (d : Float) (v : VoiceSignal) (b : Float) → UpToOne d → finite_f32_of b ≡ true → finite_f32_of (R.tracked_blend_of d v b) ≡ true
tracked_blend d v b u h =
    finite_f32 (R.tracked_blend_of d v b) (add-fits binary32 _ _) (go (eqb v.waveform_selection 2 && lt (f32 0x3ca3_d70a) v.envelope))
  where
    go : (sounds : Bool) → finite (b ⊕ d ⊗ (cond sounds (f32 0x3f80_0000) (f32 0) ⊖ b)) ≡ true
    go true = blend_one_finite b d (f32_fits b h) (f32_finite b h) u.low u.high
    go false = blend_zero_finite b d (f32_fits b h) (f32_finite b h) u.low u.high

-- ---- what a finite number of the tick tells of its parts

-- The stage's argument, of the displacement.
stage_displacement : (level displacement gain : Float) → finite (C.stage_argument_of level displacement gain) ≡ true → finite displacement ≡ true
unfolding C.stage_argument_of
stage_displacement level displacement gain h =
    let moved = level ⊖ displacement in
    let p = mul_parts binary32 (moved ⊗ gain ⊗ K.filter_output_gain) K.sid_output_scale h in
    let q = mul_parts binary32 (moved ⊗ gain) K.filter_output_gain p.0 in
    (sub_parts binary32 level displacement (mul_parts binary32 moved gain q.0).0).1

-- The displacement, of the attack charge.
displacement_attack : (o : OutputControls) (combined : Float) (signals : RoutedSignals) (attack : Float)
    → finite (C.common_mode_displacement_of o combined signals attack) ≡ true → finite attack ≡ true
unfolding C.common_mode_displacement_of
displacement_attack o combined signals attack h = (mul_parts binary32 attack o.volume_fraction (add_parts binary32 _ _ h).1).0

-- The charge on the node, of the pulse's fast one.
node_pulse : (t : TransientState) → finite (R.node_charge_of t) ≡ true → finite t.pulse_gate_fast_charge ≡ true
unfolding R.node_charge_of
node_pulse t h = (add_parts binary32 (t.volume_fast_charge ⊕ t.volume_slow_charge) t.pulse_gate_fast_charge (sub_parts binary32 _ t.pulse_gate_slow_charge h).0).1

-- The sums, of the activity of the pure voices.
signals_pure : (s : RoutedSignals) → finite_signals_of s ≡ true → finite s.pure_bypass_envelope_activity ≡ true
unfolding finite_signals_of
signals_pure s h =
    let f : Float → Bool = finite in
    let front = f s.filter_input_sum && f s.filter_source_energy && f s.filter_input_activity && f s.bypass_input_sum in
    let pure = f s.bypass_envelope_activity && f s.pure_bypass_envelope_activity in
    let back = pure && f s.pure_bypass_attack_drive in
    let p = both front (back && f s.pure_pulse_envelope_activity) h in
    let q = both pure (f s.pure_bypass_attack_drive) (both back (f s.pure_pulse_envelope_activity) p.1).0 in
    (both (f s.bypass_envelope_activity) (f s.pure_bypass_envelope_activity) q.0).1

-- That is a finite f32 where the sums of a tick are finite.
pure_finite : (s : Settings) (voices : Voices) (t : TransientState) → finite_signals_of (C.tick_signals_of s voices t) ≡ true
    → finite_f32_of (C.tick_signals_of s voices t).pure_bypass_envelope_activity ≡ true
unfolding C.tick_signals_of
pure_finite s voices t h = finite_f32 _ (pure_fits s.topology voices t.saw_mixer_blend s.external source_resting_of) (signals_pure _ h)

-- ---- the transients, step by step

-- The blends settle.
tracked_finite : (s : Settings) (voices : Voices) (t : TransientState) → Tame s.factors → Finite t → Finite (C.tracked_of s voices t)
unfolding R.tracked_blends_of
tracked_finite s voices t f k =
    let b = t.saw_mixer_blend in
    let d = s.factors.saw_mixer_tracking in
    record {
      fast = k.fast;
      slow = k.slow;
      attack = k.attack;
      pulse_fast = k.pulse_fast;
      pulse_slow = k.pulse_slow;
      code = k.code;
      activity = k.activity;
      first = tracked_blend d voices.one b.one f.tracking k.first;
      second = tracked_blend d voices.two b.two f.tracking k.second;
      third = tracked_blend d voices.three b.three f.tracking k.third;
    }

-- Another attack charge and another previous activity, both finite.
with_attack_finite : (t : TransientState) (charge previous : Float) → Finite t → finite_f32_of charge ≡ true → finite_f32_of previous ≡ true → Finite (R.with_attack t charge previous)
with_attack_finite t charge previous k c p =
    record { fast = k.fast; slow = k.slow; attack = c; pulse_fast = k.pulse_fast; pulse_slow = k.pulse_slow; code = k.code; activity = p; first = k.first; second = k.second; third = k.third }

-- Another charge for both of the pulse's, finite.
with_pulse_finite : (t : TransientState) (charge : Float) → Finite t → finite_f32_of charge ≡ true → Finite (R.with_pulse t charge)
with_pulse_finite t charge k c =
    record { fast = k.fast; slow = k.slow; attack = k.attack; pulse_fast = c; pulse_slow = c; code = k.code; activity = k.activity; first = k.first; second = k.second; third = k.third }

-- The previous activity where no voice is beside the filter.
zero_finite : finite_f32_of (f32 0) ≡ true
unfolding finite_f32_of of_bits fits
zero_finite = refl

-- An attack that leaves a finite charge leaves all finite.
attacked_finite : (t : TransientState) (mask : ℕ) (s : RoutedSignals) → Finite t → finite_f32_of s.pure_bypass_envelope_activity ≡ true
    → finite (R.attacked_of t mask s).bypass_attack_charge ≡ true → Finite (R.attacked_of t mask s)
unfolding R.attacked_of attack_charge_of
attacked_finite t mask s k p = go (eqb mask 0) (lt t.previous_bypass_activity pure)
  where
    pure : Float
    pure = s.pure_bypass_envelope_activity

    go : (none rise : Bool)
        → let charge = cond rise (attack_charge_of s.pure_bypass_attack_drive pure) t.bypass_attack_charge in
        let a = cond none (R.with_attack t t.bypass_attack_charge (f32 0)) (R.with_attack t charge pure) in
        finite a.bypass_attack_charge ≡ true → Finite a
    go true rise h = with_attack_finite t _ _ k k.attack zero_finite
    go false true h = with_attack_finite t _ _ k (finite_f32 _ (mul-fits binary32 _ _) h) p
    go false false h = with_attack_finite t _ _ k k.attack p

module _ (t : TransientState) (volume : ℕ) (fraction pulse : Float) where
  abbrev gated : TransientState
  gated = R.pulsed_of t volume fraction pulse

  -- A pulse's gate leaves the attack charge,
  pulsed_attack : gated.bypass_attack_charge ≡ t.bypass_attack_charge
  unfolding R.pulsed_of
  pulsed_attack = go (t.pulse_gate_pending && lt (f32 0) pulse && ltb 0 volume)
    where
      go : (b : Bool) → (cond b (R.with_pulse t (K.pure_pulse_gate_relaxation_charge ⊗ fraction)) t).bypass_attack_charge ≡ t.bypass_attack_charge
      go true = refl
      go false = refl

  -- and all finite where its own charge is.
  pulsed_finite : Finite t → finite gated.pulse_gate_fast_charge ≡ true → Finite gated
  unfolding R.pulsed_of
  pulsed_finite k = go (t.pulse_gate_pending && lt (f32 0) pulse && ltb 0 volume)
    where
      go : (b : Bool) → let g = cond b (R.with_pulse t (K.pure_pulse_gate_relaxation_charge ⊗ fraction)) t in finite g.pulse_gate_fast_charge ≡ true → Finite g
      go true h = with_pulse_finite t _ k (finite_f32 _ (mul-fits binary32 _ _) h)
      go false h = k

-- The charges decay.
decayed_finite : (t : TransientState) (f : Factors) → Finite t → Tame f → Finite (R.decayed_of t f)
unfolding R.decayed_of
decayed_finite t f k d =
    record {
      fast = decayed_charge _ _ k.fast d.fast;
      slow = decayed_charge _ _ k.slow d.slow;
      attack = decayed_charge _ _ k.attack d.attack;
      pulse_fast = decayed_charge _ _ k.pulse_fast d.pulse_fast;
      pulse_slow = decayed_charge _ _ k.pulse_slow d.pulse_slow;
      code = k.code;
      activity = k.activity;
      first = k.first;
      second = k.second;
      third = k.third;
    }

-- ---- the tick

-- The test of the state after leaves a tick as it is.
abbrev Kept : Result Ticked Refusal → Type 0
Kept x = C.finite_after_of x ≡ x

-- A tick behind a test is kept where it is kept once the test held.
if_kept : (b : Bool) (x : Result Ticked Refusal) → (b ≡ true → Kept x) → Kept (cond b x (Err Domain))
if_kept true x h = h refl
if_kept false x h = refl

module _ (s : Settings) (voices : Voices) (signals : RoutedSignals) (t : TransientState) (f : Tame s.factors) (k : Finite t)
    (p : finite_f32_of signals.pure_bypass_envelope_activity ≡ true) where
  abbrev held : TransientState
  held = C.charged_of s signals t

  -- What the decay starts from is finite where its attack charge and the charge on the node are.
  held_finite : finite held.bypass_attack_charge ≡ true → finite (R.node_charge_of held) ≡ true → Finite held
  held_finite a n =
      let mask = s.topology.bypass_internal_mask in
      let struck = R.attacked_of t mask signals in
      pulsed_finite struck s.volume s.output.volume_fraction signals.pure_pulse_envelope_activity
      (attacked_finite t mask signals k p (rw pulsed_attack at a)) (node_pulse held n)

  -- Where the four numbers are finite, the two that tell of the charges are.
  clocked_kept : (i : IntegratorState) (filter mixer level : Float) → Kept (C.clocked_of s voices signals t i filter mixer level)
  unfolding C.clocked_of
  clocked_kept i filter mixer level = if_kept (finite stage && finite charge && finite mixer) _ go
    where
      displacement : Float
      displacement = C.common_mode_displacement_of s.output (R.combined_activity_of voices) signals held.bypass_attack_charge

      gain : Float
      gain = bypass_output_gain_of s.topology.filter_output_count signals.bypass_envelope_activity

      stage : Float
      stage = C.stage_argument_of level displacement gain

      charge : Float
      charge = R.node_charge_of held

      go : (finite stage && finite charge && finite mixer) ≡ true
          → Kept (Ok (record { outputs = (record { stage = stage; charge = charge; mixer = mixer; filter = filter }); integrator = i; transients = (R.decayed_of held s.factors) }))
      go h =
          let b = both (finite stage) (finite charge) (both (finite stage && finite charge) (finite mixer) h).0 in
          let a = displacement_attack s.output (R.combined_activity_of voices) signals held.bypass_attack_charge (stage_displacement level displacement gain b.0) in
          rw (parts_finite (R.decayed_of held s.factors) (decayed_finite held s.factors (held_finite a b.1) f)) refl

  -- What a curve's entries or the core refuse is refused before.
  levelled_kept : (i : IntegratorState) (filter mixer : Float) (r : Result Float Refusal) → Kept (C.levelled_of s voices signals t i filter mixer r)
  unfolding C.levelled_of
  levelled_kept i filter mixer (Ok level) = clocked_kept i filter mixer level
  levelled_kept i filter mixer (Err answer) = refl

  mixed_kept : (curves : List ℕ) (i : IntegratorState) (filter : Float) (r : Result Float Refusal) → Kept (C.mixed_tick_of curves s voices signals t i filter r)
  unfolding C.mixed_tick_of
  mixed_kept curves i filter (Ok raw) = levelled_kept i filter _ _
  mixed_kept curves i filter (Err answer) = refl

  after_core_kept : (curves : List ℕ) (c : Result Sampled Refusal) → Kept (C.after_core_of curves s voices signals t c)
  unfolding C.after_core_of
  after_core_kept curves (Ok x) = mixed_kept curves x.state x.outputs.selected _
  after_core_kept curves (Err answer) = refl

-- The state after a tick is finite, or the tick was refused before.
pub tick_keeps : (curves : List ℕ) (core : Float → Float → Result Sampled Refusal) (s : Settings) (t : TransientState) (voices : Voices)
    → finite_transients_of t ≡ true → Tame s.factors → C.finite_after_of (C.tick_of curves core s t voices) ≡ C.tick_of curves core s t voices
unfolding C.tick_of
tick_keeps curves core s t voices h f = if_kept (finite_signals_of signals) _ go
  where
    tracked : TransientState
    tracked = C.tracked_of s voices t

    signals : RoutedSignals
    signals = C.tick_signals_of s voices tracked

    go : finite_signals_of signals ≡ true → Kept (C.after_core_of curves s voices signals tracked (core signals.filter_input_sum signals.filter_source_energy))
    go e =
        after_core_kept s voices signals tracked f (tracked_finite s voices t f (finite_parts t h)) (pure_finite s voices tracked e) curves _
