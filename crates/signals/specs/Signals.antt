-- `RoutedSignals::collect` of mixing.rs and what it calls, operation by operation: the eight sums of what the sources give the filter and the mixer.
use Rattle.std.specs.Prelude.{ℕ, ◌/◌, ◌%◌, ◌^◌, Bool, false, not, ◌&&◌, ◌||◌, cond, ltb, eqb, get_or, Float}
use Rattle.std.specs.Float.{nan}
use Rattle.std.specs.Float.Ieee.{eq}
use Rattle.constants.specs.Values as K
use Rattle.floats.specs.Arithmetic.{◌⊕◌, ◌⊖◌, ◌⊗◌, f32}
use Rattle.floats.specs.Floats.{abs_of, clamp_of}
use Rattle.mixing.specs.declared.MixingTopology.{MixingTopology}
use Rattle.voice.specs.declared.VoiceSignal.{VoiceSignal}
use Rattle.voice.specs.Levels.{filter_voice_signal_of, mixer_voice_signal_of}
use Rattle.signals.specs.declared.RoutedSignals.{RoutedSignals}
use Rattle.signals.specs.declared.Contribution.{Contribution}
use Rattle.signals.specs.declared.Voices.{Voices}
use Rattle.transients.specs.declared.SawBlends.{SawBlends}
use Rattle.signals.specs.declared.ExternalInputState.{ExternalInputState}

-- ---- the sums

-- each starts from 0.0
abbrev pub silent_of : RoutedSignals
silent_of =
    record {
      filter_input_sum = f32 0;
      filter_source_energy = f32 0;
      filter_input_activity = f32 0;
      bypass_input_sum = f32 0;
      bypass_envelope_activity = f32 0;
      pure_bypass_envelope_activity = f32 0;
      pure_bypass_attack_drive = f32 0;
      pure_pulse_envelope_activity = f32 0;
    }

-- the sums with other ones for the filter: input, energy, activity
abbrev pub with_filter : RoutedSignals → Float → Float → Float → RoutedSignals
with_filter s input energy activity =
    record {
      filter_input_sum = input;
      filter_source_energy = energy;
      filter_input_activity = activity;
      bypass_input_sum = s.bypass_input_sum;
      bypass_envelope_activity = s.bypass_envelope_activity;
      pure_bypass_envelope_activity = s.pure_bypass_envelope_activity;
      pure_bypass_attack_drive = s.pure_bypass_attack_drive;
      pure_pulse_envelope_activity = s.pure_pulse_envelope_activity;
    }

-- the sums with another input and another activity of the mixer
abbrev pub with_bypass : RoutedSignals → Float → Float → RoutedSignals
with_bypass s input activity =
    record {
      filter_input_sum = s.filter_input_sum;
      filter_source_energy = s.filter_source_energy;
      filter_input_activity = s.filter_input_activity;
      bypass_input_sum = input;
      bypass_envelope_activity = activity;
      pure_bypass_envelope_activity = s.pure_bypass_envelope_activity;
      pure_bypass_attack_drive = s.pure_bypass_attack_drive;
      pure_pulse_envelope_activity = s.pure_pulse_envelope_activity;
    }

-- the sums with other ones for the pure voices: activity, attack drive, pulse activity
abbrev pub with_pure : RoutedSignals → Float → Float → Float → RoutedSignals
with_pure s activity drive pulse =
    record {
      filter_input_sum = s.filter_input_sum;
      filter_source_energy = s.filter_source_energy;
      filter_input_activity = s.filter_input_activity;
      bypass_input_sum = s.bypass_input_sum;
      bypass_envelope_activity = s.bypass_envelope_activity;
      pure_bypass_envelope_activity = activity;
      pure_bypass_attack_drive = drive;
      pure_pulse_envelope_activity = pulse;
    }

-- ---- a voice into the filter

-- `filter_voice_contribution`
unfoldable pub filter_voice_contribution_of : VoiceSignal → Float → Contribution
filter_voice_contribution_of v resting =
    let source = filter_voice_signal_of v in
    let deviation = source ⊖ resting in
    cond (eq v.envelope (f32 0)) (record { source = resting; energy = f32 0 }) (record { source = source; energy = deviation ⊗ deviation })

-- `add_filter_voice`
unfoldable pub add_filter_voice_of : RoutedSignals → VoiceSignal → Float → RoutedSignals
add_filter_voice_of s v resting =
    let c = filter_voice_contribution_of v resting in
    with_filter s (s.filter_input_sum ⊕ c.source) (s.filter_source_energy ⊕ c.energy) (s.filter_input_activity ⊕ v.envelope)

-- ---- a voice beside the filter

-- PURE_BYPASS_ATTACK_SCALE_BY_SELECTION at a selection: NaN past the table, where the Rust panics
unfoldable pub attack_scale_of : ℕ → Float
attack_scale_of selection = get_or K.pure_bypass_attack_scale_by_selection selection nan

-- (1.0 + PURE_BYPASS_ATTACK_WAVEFORM_STATE_COUPLING * waveform).clamp(0.5, 1.5), of the waveform as it is, not as the mixer hears it
unfoldable pub waveform_state_load_of : Float → Float
waveform_state_load_of waveform = clamp_of (f32 0x3f80_0000 ⊕ K.pure_bypass_attack_waveform_state_coupling ⊗ waveform) (f32 0x3f00_0000) (f32 0x3fc0_0000)

-- neither combined nor frozen
abbrev pub is_pure_of : VoiceSignal → Bool
is_pure_of v = not v.combined && not v.frozen

-- what a pure voice adds beside: its envelope, its drive, and its envelope again where it is a pulse, selection 4
unfoldable pub add_pure_voice_of : RoutedSignals → VoiceSignal → RoutedSignals
add_pure_voice_of s v =
    let pulse = s.pure_pulse_envelope_activity in
    with_pure s
    (s.pure_bypass_envelope_activity ⊕ v.envelope)
    (s.pure_bypass_attack_drive ⊕ v.envelope ⊗ attack_scale_of v.waveform_selection ⊗ waveform_state_load_of v.waveform)
    (cond (eqb v.waveform_selection 4) (pulse ⊕ v.envelope) pulse)

-- `add_bypass_voice`
unfoldable pub add_bypass_voice_of : RoutedSignals → VoiceSignal → Float → Float → RoutedSignals
add_bypass_voice_of s v blend resting =
    let sounding = with_bypass s (s.bypass_input_sum ⊕ mixer_voice_signal_of v blend) (s.bypass_envelope_activity ⊕ v.envelope) in
    cond (eq v.envelope (f32 0))
    (with_bypass s (s.bypass_input_sum ⊕ resting) s.bypass_envelope_activity)
    (cond (is_pure_of v) (add_pure_voice_of sounding v) sounding)

-- ---- all four sources

-- whether a voice, from 0 on, is in a mask of three; one above 7 is all three
abbrev pub is_masked_of : ℕ → ℕ → Bool
is_masked_of mask voice = ltb 7 mask || eqb (mask / 2 ^ voice % 2) 1

-- `match` on a mask of the three voices: those whose bit is set, in turn
unfoldable pub masked_of : (RoutedSignals → RoutedSignals) → (RoutedSignals → RoutedSignals) → (RoutedSignals → RoutedSignals) → ℕ → RoutedSignals → RoutedSignals
masked_of one two three mask s =
    cond (eqb mask 0) s
    (cond (eqb mask 1) (one s)
    (cond (eqb mask 2) (two s)
    (cond (eqb mask 3) (two (one s))
    (cond (eqb mask 4) (three s)
    (cond (eqb mask 5) (three (one s))
    (cond (eqb mask 6) (three (two s))
    (three (two (one s)))))))))

abbrev pub add_filter_voices_of : ℕ → Voices → Float → RoutedSignals → RoutedSignals
add_filter_voices_of mask voices resting s =
    masked_of
    (λ (s : RoutedSignals). add_filter_voice_of s voices.one resting)
    (λ (s : RoutedSignals). add_filter_voice_of s voices.two resting)
    (λ (s : RoutedSignals). add_filter_voice_of s voices.three resting)
    mask s

abbrev pub add_bypass_voices_of : ℕ → Voices → SawBlends → Float → RoutedSignals → RoutedSignals
add_bypass_voices_of mask voices blends resting s =
    masked_of
    (λ (s : RoutedSignals). add_bypass_voice_of s voices.one blends.one resting)
    (λ (s : RoutedSignals). add_bypass_voice_of s voices.two blends.two resting)
    (λ (s : RoutedSignals). add_bypass_voice_of s voices.three blends.three resting)
    mask s

-- the external input into the filter: nothing for the activity
abbrev pub add_filter_external_of : ExternalInputState → Float → RoutedSignals → RoutedSignals
add_filter_external_of x resting s =
    let deviation = x.filter_signal ⊖ resting in
    with_filter s (s.filter_input_sum ⊕ x.filter_signal) (s.filter_source_energy ⊕ deviation ⊗ deviation) s.filter_input_activity

-- and beside it
abbrev pub add_bypass_external_of : ExternalInputState → RoutedSignals → RoutedSignals
add_bypass_external_of x s = with_bypass s (s.bypass_input_sum ⊕ x.mixer_signal) (s.bypass_envelope_activity ⊕ abs_of x.raw)

-- the voices: first those that the filter takes, then those beside it
unfoldable pub add_voices_of : MixingTopology → Voices → SawBlends → Float → RoutedSignals → RoutedSignals
add_voices_of t voices blends resting s =
    add_bypass_voices_of t.bypass_internal_mask voices blends resting (add_filter_voices_of t.filter_internal_mask voices resting s)

-- the external input, by its flags
unfoldable pub add_external_of : MixingTopology → ExternalInputState → Float → RoutedSignals → RoutedSignals
add_external_of t x resting s =
    let filtered = cond (get_or t.filter_membership 3 false) (add_filter_external_of x resting s) s in
    cond (get_or t.bypass_membership 3 false) (add_bypass_external_of x filtered) filtered

-- `RoutedSignals::collect`
unfoldable pub collect_of : MixingTopology → Voices → SawBlends → ExternalInputState → Float → RoutedSignals
collect_of t voices blends x resting = add_external_of t x resting (add_voices_of t voices blends resting silent_of)
