-- The two levels of a voice (response.rs), operation by operation.
use Rattle.std.specs.Prelude.{cond, eqb, Float}
use Rattle.constants.specs.Values as K
use Rattle.floats.specs.Arithmetic.{◌⊕◌, ◌⊖◌, ◌⊗◌}
use Rattle.response.specs.Levels.{normalise_voltage_of}
use Rattle.voice.specs.declared.VoiceSignal.{VoiceSignal}

-- `source_resting` of `Filter::clock`: the level of a voice at rest
unfoldable pub source_resting_of : Float
source_resting_of = normalise_voltage_of K.sid_voice_base_volts

-- `filter_voice_signal`
unfoldable pub filter_voice_signal_of : VoiceSignal → Float
filter_voice_signal_of v =
    normalise_voltage_of
    (K.sid_voice_base_volts ⊕ v.waveform ⊗ v.envelope ⊗ K.sid_voice_ac_volts ⊕ v.envelope ⊗ K.sid_voice_envelope_bias_volts)

-- the waveform in `mixer_voice_signal`: selection 2, the saw, is bent as far as its blend goes, a combined or frozen voice too
unfoldable pub mixer_waveform_of : VoiceSignal → Float → Float
mixer_waveform_of v blend =
    let w = v.waveform in
    let settled = K.pure_saw_mixer_linear ⊗ w ⊕ K.pure_saw_mixer_quadratic ⊗ w ⊗ w in
    cond (eqb v.waveform_selection 2) (w ⊕ blend ⊗ (settled ⊖ w)) w

-- `mixer_voice_signal`
unfoldable pub mixer_voice_signal_of : VoiceSignal → Float → Float
mixer_voice_signal_of v blend =
    normalise_voltage_of
    (K.sid_voice_base_volts
    ⊕ mixer_waveform_of v blend ⊗ v.envelope ⊗ K.sid_voice_ac_volts ⊗ K.sid_mixer_voice_ac_gain
    ⊕ v.envelope ⊗ K.sid_voice_envelope_bias_volts)
