-- The bits of each constant of src/lib.rt, in its order. Made by tools/constants, which rounds each literal exactly.
use Rattle.std.specs.Prelude.{List, [], ◌∷◌, ℕ, ℤ, pos, Float}
use Rattle.std.specs.Float.{binary32, binary64}
use Rattle.std.specs.Float.Ieee.{of_bits}

-- The cutoff DAC's ladder: the ratio of its 2R to its R resistors, and the level of a bit that is off.
abbrev pub sid_filter_dac_two_r_over_r : Float
sid_filter_dac_two_r_over_r = of_bits binary64 0x3ffe10624dd2f1aa

abbrev pub sid_dac_leakage : Float
sid_dac_leakage = of_bits binary64 0x3f7d0563b9853ebb

-- The analogue operating window, in volts.
abbrev pub sid_analogue_min_volts : Float
sid_analogue_min_volts = of_bits binary32 0x3f52a16c

abbrev pub sid_analogue_max_volts : Float
sid_analogue_max_volts = of_bits binary32 0x41269898

-- A voice at the filter's summer and at the mixer, in volts: its resting level, its swing and what its envelope adds; and the mixer's gain on the swing.
abbrev pub sid_voice_base_volts : Float
sid_voice_base_volts = of_bits binary32 0x40a4ad9f

abbrev pub sid_voice_ac_volts : Float
sid_voice_ac_volts = of_bits binary32 0x3fb84de9

abbrev pub sid_voice_envelope_bias_volts : Float
sid_voice_envelope_bias_volts = of_bits binary32 0x3e52fdf1

abbrev pub sid_mixer_voice_ac_gain : Float
sid_mixer_voice_ac_gain = of_bits binary32 0x3f85ee28

-- The mixer's load for each input, and its gains when two or three voices sound.
abbrev pub sid_mixer_conductance_per_input : Float
sid_mixer_conductance_per_input = of_bits binary32 0x3f8b851f

abbrev pub sid_mixer_two_voice_activity_load : Float
sid_mixer_two_voice_activity_load = of_bits binary32 0x00000000

abbrev pub sid_mixer_two_voice_volume_gain_at_code_9 : Float
sid_mixer_two_voice_volume_gain_at_code_9 = of_bits binary32 0x3f80d1bd

abbrev pub sid_mixer_two_voice_volume_gain_per_code : Float
sid_mixer_two_voice_volume_gain_per_code = of_bits binary32 0x00000000

abbrev pub sid_mixer_three_voice_activity_lift : Float
sid_mixer_three_voice_activity_lift = of_bits binary32 0x3dc2560e

-- The volume DAC: four branches of conductance, not quite powers of two, that load their common node.
abbrev pub sid_volume_conductance_divisor : Float
sid_volume_conductance_divisor = of_bits binary32 0x41447b47

abbrev pub sid_volume_dac_branch_weights : List Float
sid_volume_dac_branch_weights =
    of_bits binary32 0x3f800000 ∷ of_bits binary32 0x40029aca ∷ of_bits binary32 0x4085bfea ∷ of_bits binary32 0x410d615c ∷ []

abbrev pub sid_volume_dac_conductance_scale : Float
sid_volume_dac_conductance_scale = of_bits binary32 0x3f89bd10

abbrev pub sid_volume_dac_common_compression : Float
sid_volume_dac_common_compression = of_bits binary32 0x3c01b5e4

-- From the chip's levels to the output stage's units.
abbrev pub sid_output_scale : Float
sid_output_scale = of_bits binary32 0x48834d17

-- The volume stage's output: its centre, its gain and the bias of the full code.
abbrev pub sid_volume_output_centre : Float
sid_volume_output_centre = of_bits binary32 0x3f000000

abbrev pub sid_volume_output_gain : Float
sid_volume_output_gain = of_bits binary32 0x3f800000

abbrev pub sid_volume_dac_bias_full : Float
sid_volume_dac_bias_full = of_bits binary32 0xbd417591

-- The two charges that a step of the volume register displaces, at full scale, in the output stage's units.
abbrev pub sid_volume_transition_fast_charge_full_scale : Float
sid_volume_transition_fast_charge_full_scale = of_bits binary32 0x454500ff

abbrev pub sid_volume_transition_slow_charge_full_scale : Float
sid_volume_transition_slow_charge_full_scale = of_bits binary32 0x452d9b8e

-- The level of three stopped oscillators: a row for each term in the mode bits, each a polynomial in the volume.
abbrev pub sid_frozen_dac_polynomial : List (List Float)
sid_frozen_dac_polynomial =
    (of_bits binary32 0x3daa5e26 ∷ of_bits binary32 0x3d9cddae ∷ of_bits binary32 0xbbcd3ca1 ∷ []) ∷
    (of_bits binary32 0xbdc106c2 ∷ of_bits binary32 0xbdb1fad9 ∷ of_bits binary32 0x3becb39b ∷ []) ∷
    (of_bits binary32 0x3c37d837 ∷ of_bits binary32 0x3c305996 ∷ of_bits binary32 0xba1a8bc3 ∷ []) ∷
    (of_bits binary32 0xbc3609a1 ∷ of_bits binary32 0xbc287ba1 ∷ of_bits binary32 0x3a4099b0 ∷ []) ∷
    (of_bits binary32 0xbd814ef1 ∷ of_bits binary32 0xbd6ec541 ∷ of_bits binary32 0x3b97bc01 ∷ []) ∷
    (of_bits binary32 0x3b945d38 ∷ of_bits binary32 0x3b70010d ∷ of_bits binary32 0xba3e35ca ∷ []) ∷
    (of_bits binary32 0x3c2a3cc9 ∷ of_bits binary32 0x3c1cffda ∷ of_bits binary32 0xba4df030 ∷ []) ∷
    (of_bits binary32 0x3bcca177 ∷ of_bits binary32 0x3bf83e82 ∷ of_bits binary32 0x3a8d58b2 ∷ []) ∷
    (of_bits binary32 0xbb04f584 ∷ of_bits binary32 0xbaf5d026 ∷ of_bits binary32 0x3929fc9c ∷ []) ∷
    (of_bits binary32 0x3bb83177 ∷ of_bits binary32 0x3b956eff ∷ of_bits binary32 0xba705cec ∷ []) ∷
    (of_bits binary32 0x3bc782b0 ∷ of_bits binary32 0x3bb835a2 ∷ of_bits binary32 0xb9db90e8 ∷ []) ∷ []

-- The loaded amplifier's surface: its steps of load, its largest load, and its resting level in volts.
abbrev pub sid_analogue_load_bins : ℕ
sid_analogue_load_bins = 145

abbrev pub sid_analogue_max_conductance : Float
sid_analogue_max_conductance = of_bits binary32 0x41100000

abbrev pub sid_analogue_quiescent_volts : Float
sid_analogue_quiescent_volts = of_bits binary32 0x408dd5e6

-- How much strong resonance lifts the filter's output.
abbrev pub sid_resonance_output_lift : Float
sid_resonance_output_lift = of_bits binary32 0x3df5c28f

-- The filter core: substeps a sample, operating bins, gain into it, gain of the whole output, and the sign of low, band and high.
abbrev pub filter_substeps : ℕ
filter_substeps = 4

abbrev pub filter_operating_bins : ℕ
filter_operating_bins = 16

abbrev pub filter_input_gain : Float
filter_input_gain = of_bits binary32 0x3f800000

abbrev pub filter_output_gain : Float
filter_output_gain = of_bits binary32 0x3f6147ae

abbrev pub filter_mode_polarity : List Float
filter_mode_polarity =
    of_bits binary32 0x3f800000 ∷ of_bits binary32 0xbf800000 ∷ of_bits binary32 0x3f800000 ∷ []

-- The low-pass output's gain over resonance.
abbrev pub filter_lowpass_gain_at_mid_resonance : Float
filter_lowpass_gain_at_mid_resonance = of_bits binary32 0x3f970a3d

abbrev pub filter_lowpass_gain_resonance_drop : Float
filter_lowpass_gain_resonance_drop = of_bits binary32 0x3e3851ec

abbrev pub filter_lowpass_output_trim : Float
filter_lowpass_output_trim = of_bits binary32 0x3f692ef4

-- The band-pass output's gain over cutoff and resonance.
abbrev pub filter_bandpass_gain_zero_cutoff : Float
filter_bandpass_gain_zero_cutoff = of_bits binary32 0x400ada2a

abbrev pub filter_bandpass_gain_cutoff_slope : Float
filter_bandpass_gain_cutoff_slope = of_bits binary32 0x3f7d088e

abbrev pub filter_bandpass_gain_resonance_drop : Float
filter_bandpass_gain_resonance_drop = of_bits binary32 0x3f1cde21

abbrev pub filter_bandpass_gain_trim_zero : Float
filter_bandpass_gain_trim_zero = of_bits binary32 0x3f6b851f

abbrev pub filter_bandpass_gain_trim_cutoff_slope : Float
filter_bandpass_gain_trim_cutoff_slope = of_bits binary32 0x3e23d70a

abbrev pub filter_bandpass_output_trim : Float
filter_bandpass_output_trim = of_bits binary32 0x3f589be4

-- The load on the output of a mode that is on alone, a row each for low, band and high: over the cutoff, and over the resonance.
abbrev pub filter_single_mode_cutoff_gain : List (List Float)
filter_single_mode_cutoff_gain =
    (of_bits binary32 0x3f800000 ∷ of_bits binary32 0x3f800000 ∷ of_bits binary32 0x3f9de484 ∷ of_bits binary32 0x3f6621a1 ∷
    of_bits binary32 0x3f5e0e93 ∷ of_bits binary32 0x3f5af2c0 ∷ of_bits binary32 0x3f58e14b ∷ of_bits binary32 0x3f594d9c ∷
    of_bits binary32 0x3f5cbe2c ∷ of_bits binary32 0x3f607069 ∷ of_bits binary32 0x3f62d5e8 ∷ of_bits binary32 0x3f64de88 ∷
    of_bits binary32 0x3f670f5d ∷ of_bits binary32 0x3f6a3297 ∷ of_bits binary32 0x3f6dd7ad ∷ of_bits binary32 0x3f710b45 ∷
    of_bits binary32 0x3f74cb00 ∷ of_bits binary32 0x3f796921 ∷ of_bits binary32 0x3f7e1f09 ∷ of_bits binary32 0x3f818c88 ∷
    of_bits binary32 0x3f83c1b9 ∷ of_bits binary32 0x3f851b6b ∷ of_bits binary32 0x3f85af55 ∷ of_bits binary32 0x3f859c75 ∷
    of_bits binary32 0x3f8544f1 ∷ of_bits binary32 0x3f84aa55 ∷ of_bits binary32 0x3f83c481 ∷ of_bits binary32 0x3f830330 ∷
    of_bits binary32 0x3f86c755 ∷ of_bits binary32 0x3f800000 ∷ of_bits binary32 0x3f800000 ∷ of_bits binary32 0x3f800000 ∷ []) ∷
    (of_bits binary32 0x3f641468 ∷ of_bits binary32 0x3f9173a3 ∷ of_bits binary32 0x3f7a6633 ∷ of_bits binary32 0x3f5c428f ∷
    of_bits binary32 0x3f6b61f3 ∷ of_bits binary32 0x3f768ea2 ∷ of_bits binary32 0x3f805011 ∷ of_bits binary32 0x3f852873 ∷
    of_bits binary32 0x3f889dc8 ∷ of_bits binary32 0x3f88658d ∷ of_bits binary32 0x3f86fba8 ∷ of_bits binary32 0x3f87c88c ∷
    of_bits binary32 0x3f8a76f0 ∷ of_bits binary32 0x3f8c5660 ∷ of_bits binary32 0x3f8c8075 ∷ of_bits binary32 0x3f8f12a2 ∷
    of_bits binary32 0x3f95fece ∷ of_bits binary32 0x3f9da195 ∷ of_bits binary32 0x3fa3c00c ∷ of_bits binary32 0x3fa6b4d3 ∷
    of_bits binary32 0x3fa68ddb ∷ of_bits binary32 0x3fa5bf34 ∷ of_bits binary32 0x3fa2d5b5 ∷ of_bits binary32 0x3f9cdcdd ∷
    of_bits binary32 0x3f969505 ∷ of_bits binary32 0x3f92316a ∷ of_bits binary32 0x3f8d9ff0 ∷ of_bits binary32 0x3f81d899 ∷
    of_bits binary32 0x3f8d36c0 ∷ of_bits binary32 0x3fd755cf ∷ of_bits binary32 0x3fafd894 ∷ of_bits binary32 0x3efd1dd8 ∷ []) ∷
    (of_bits binary32 0x3fa89b0e ∷ of_bits binary32 0x3f930933 ∷ of_bits binary32 0x3f8772c0 ∷ of_bits binary32 0x3f841627 ∷
    of_bits binary32 0x3f807757 ∷ of_bits binary32 0x3f7a7b55 ∷ of_bits binary32 0x3f75ffe0 ∷ of_bits binary32 0x3f7379d7 ∷
    of_bits binary32 0x3f729a88 ∷ of_bits binary32 0x3f7392b2 ∷ of_bits binary32 0x3f7753bf ∷ of_bits binary32 0x3f8005de ∷
    of_bits binary32 0x3f850057 ∷ of_bits binary32 0x3f890fdc ∷ of_bits binary32 0x3f911009 ∷ of_bits binary32 0x3fa0d127 ∷
    of_bits binary32 0x3fb5a585 ∷ of_bits binary32 0x3fc7c143 ∷ of_bits binary32 0x3fd24a1a ∷ of_bits binary32 0x3fd75d39 ∷
    of_bits binary32 0x3fd8e307 ∷ of_bits binary32 0x3fda0f6d ∷ of_bits binary32 0x3fdd0c73 ∷ of_bits binary32 0x3fded946 ∷
    of_bits binary32 0x3fe297a0 ∷ of_bits binary32 0x3fec21fa ∷ of_bits binary32 0x3ff3f1fc ∷ of_bits binary32 0x3fed8e94 ∷
    of_bits binary32 0x3fd5bd7c ∷ of_bits binary32 0x4023cde9 ∷ of_bits binary32 0x40212762 ∷ of_bits binary32 0x3f06e866 ∷ []) ∷ []

abbrev pub filter_single_mode_resonance_gain : List (List Float)
filter_single_mode_resonance_gain =
    (of_bits binary32 0x3f80ce8e ∷ of_bits binary32 0x3f80180c ∷ of_bits binary32 0x3f7efbf7 ∷ of_bits binary32 0x3f7d27f9 ∷
    of_bits binary32 0x3f7fcff1 ∷ of_bits binary32 0x3f7d837f ∷ of_bits binary32 0x3f7d96ec ∷ of_bits binary32 0x3f7af93a ∷
    of_bits binary32 0x3f7f70bc ∷ of_bits binary32 0x3f81f7bb ∷ of_bits binary32 0x3f83c747 ∷ of_bits binary32 0x3f841f73 ∷
    of_bits binary32 0x3f856f5d ∷ of_bits binary32 0x3f84b47d ∷ of_bits binary32 0x3f836324 ∷ of_bits binary32 0x3f7f63e6 ∷ []) ∷
    (of_bits binary32 0x3f877c7d ∷ of_bits binary32 0x3f84a160 ∷ of_bits binary32 0x3f82ed5a ∷ of_bits binary32 0x3f80f825 ∷
    of_bits binary32 0x3f7cc7c2 ∷ of_bits binary32 0x3f77306a ∷ of_bits binary32 0x3f721875 ∷ of_bits binary32 0x3f6cb008 ∷
    of_bits binary32 0x3f6c590a ∷ of_bits binary32 0x3f72c70d ∷ of_bits binary32 0x3f78afce ∷ of_bits binary32 0x3f80697b ∷
    of_bits binary32 0x3f8374af ∷ of_bits binary32 0x3f837bd1 ∷ of_bits binary32 0x3f863a61 ∷ of_bits binary32 0x3f86141b ∷ []) ∷
    (of_bits binary32 0x3f7e1f42 ∷ of_bits binary32 0x3f787701 ∷ of_bits binary32 0x3f76db41 ∷ of_bits binary32 0x3f776402 ∷
    of_bits binary32 0x3f78fcb5 ∷ of_bits binary32 0x3f7bdaaa ∷ of_bits binary32 0x3f7d2658 ∷ of_bits binary32 0x3f7f05f7 ∷
    of_bits binary32 0x3f81a838 ∷ of_bits binary32 0x3f81cce6 ∷ of_bits binary32 0x3f81c953 ∷ of_bits binary32 0x3f80df27 ∷
    of_bits binary32 0x3f80ae5f ∷ of_bits binary32 0x3f7fd12a ∷ of_bits binary32 0x3f80dad0 ∷ of_bits binary32 0x3f8525b5 ∷ []) ∷ []

-- The same rows for a moving cutoff: the part of the gain that does not depend on the step's direction. (The other part is in the bundle.)
abbrev pub filter_symmetric_loading_gain : List (List Float)
filter_symmetric_loading_gain =
    (of_bits binary32 0x3f800000 ∷ of_bits binary32 0x3f800000 ∷ of_bits binary32 0x3f800000 ∷ of_bits binary32 0x3f800000 ∷
    of_bits binary32 0x3f800000 ∷ of_bits binary32 0x3f800000 ∷ of_bits binary32 0x3f800000 ∷ of_bits binary32 0x3f800000 ∷
    of_bits binary32 0x3f800000 ∷ of_bits binary32 0x3f800000 ∷ of_bits binary32 0x3f800000 ∷ of_bits binary32 0x3f800000 ∷
    of_bits binary32 0x3f800000 ∷ of_bits binary32 0x3f800000 ∷ of_bits binary32 0x3f800000 ∷ of_bits binary32 0x3f800000 ∷
    of_bits binary32 0x3f800000 ∷ of_bits binary32 0x3f800000 ∷ of_bits binary32 0x3f800000 ∷ of_bits binary32 0x3f800000 ∷
    of_bits binary32 0x3f800000 ∷ of_bits binary32 0x3f800000 ∷ of_bits binary32 0x3f800000 ∷ of_bits binary32 0x3f800000 ∷
    of_bits binary32 0x3f800000 ∷ of_bits binary32 0x3f800000 ∷ of_bits binary32 0x3f800000 ∷ of_bits binary32 0x3f800000 ∷
    of_bits binary32 0x3f800000 ∷ of_bits binary32 0x3f800000 ∷ of_bits binary32 0x3f800000 ∷ of_bits binary32 0x3f800000 ∷ []) ∷
    (of_bits binary32 0x3f8bf181 ∷ of_bits binary32 0x3f52a550 ∷ of_bits binary32 0x3f548086 ∷ of_bits binary32 0x3f6b3933 ∷
    of_bits binary32 0x3f7d16f3 ∷ of_bits binary32 0x3f7fd1ef ∷ of_bits binary32 0x3f83c76c ∷ of_bits binary32 0x3f84de8a ∷
    of_bits binary32 0x3f822f07 ∷ of_bits binary32 0x3f817ead ∷ of_bits binary32 0x3f8210b2 ∷ of_bits binary32 0x3f83b8a7 ∷
    of_bits binary32 0x3f84ff1e ∷ of_bits binary32 0x3f8227cc ∷ of_bits binary32 0x3f7d5ae5 ∷ of_bits binary32 0x3f7b5489 ∷
    of_bits binary32 0x3f7d46d2 ∷ of_bits binary32 0x3f8382cd ∷ of_bits binary32 0x3f84f9c8 ∷ of_bits binary32 0x3f85a4bd ∷
    of_bits binary32 0x3f865aef ∷ of_bits binary32 0x3f8435b7 ∷ of_bits binary32 0x3f81f53d ∷ of_bits binary32 0x3f7d89fc ∷
    of_bits binary32 0x3f833d5d ∷ of_bits binary32 0x3f829033 ∷ of_bits binary32 0x3f854065 ∷ of_bits binary32 0x3f7eca5a ∷
    of_bits binary32 0x3f55d416 ∷ of_bits binary32 0x3f4fbad0 ∷ of_bits binary32 0x3f87164c ∷ of_bits binary32 0x3fd13ebd ∷ []) ∷
    (of_bits binary32 0x3f697ef8 ∷ of_bits binary32 0x3f7147e8 ∷ of_bits binary32 0x3f7fb710 ∷ of_bits binary32 0x3f82af3e ∷
    of_bits binary32 0x3f81c5a7 ∷ of_bits binary32 0x3f81b6bb ∷ of_bits binary32 0x3f811144 ∷ of_bits binary32 0x3f80c30b ∷
    of_bits binary32 0x3f80e0d6 ∷ of_bits binary32 0x3f805cfa ∷ of_bits binary32 0x3f80a261 ∷ of_bits binary32 0x3f822b02 ∷
    of_bits binary32 0x3f835d3a ∷ of_bits binary32 0x3f7e2758 ∷ of_bits binary32 0x3f78d170 ∷ of_bits binary32 0x3f7c6706 ∷
    of_bits binary32 0x3f7dc462 ∷ of_bits binary32 0x3f852e6c ∷ of_bits binary32 0x3f85f9a8 ∷ of_bits binary32 0x3f85e99a ∷
    of_bits binary32 0x3f8609f8 ∷ of_bits binary32 0x3f842161 ∷ of_bits binary32 0x3f82c34c ∷ of_bits binary32 0x3f7daf33 ∷
    of_bits binary32 0x3f843404 ∷ of_bits binary32 0x3f8429da ∷ of_bits binary32 0x3f852a88 ∷ of_bits binary32 0x3f8ac98e ∷
    of_bits binary32 0x3f719c3d ∷ of_bits binary32 0x3f6f0e6f ∷ of_bits binary32 0x3fb1f30f ∷ of_bits binary32 0x4023c990 ∷ []) ∷ []

-- The gain of low and band together, over cutoff and resonance.
abbrev pub filter_low_band_gain_zero_cutoff : Float
filter_low_band_gain_zero_cutoff = of_bits binary32 0x3fb0624e

abbrev pub filter_low_band_gain_cutoff_slope : Float
filter_low_band_gain_cutoff_slope = of_bits binary32 0x3ed0624e

abbrev pub filter_low_band_gain_resonance_drop : Float
filter_low_band_gain_resonance_drop = of_bits binary32 0x3e5b22d1

abbrev pub filter_low_band_low_resonance_lift : Float
filter_low_band_low_resonance_lift = of_bits binary32 0x3e4ccccd

-- The output's gain over the voices that pass the filter by, with no mode on.
abbrev pub filter_bypass_activity_linear_gain : Float
filter_bypass_activity_linear_gain = of_bits binary32 0x3e8d1b71

abbrev pub filter_bypass_activity_quadratic_gain : Float
filter_bypass_activity_quadratic_gain = of_bits binary32 0x3d42f838

-- How much of the low-pass output leaks into band and high; the knee and the decay are cutoff codes.
abbrev pub filter_bandpass_low_coupling_max : Float
filter_bandpass_low_coupling_max = of_bits binary32 0x3e851eb8

abbrev pub filter_bandpass_low_coupling_knee : Float
filter_bandpass_low_coupling_knee = of_bits binary32 0x44160000

abbrev pub filter_highpass_low_coupling_zero : Float
filter_highpass_low_coupling_zero = of_bits binary32 0x3d8f5c29

abbrev pub filter_highpass_low_coupling_decay : Float
filter_highpass_low_coupling_decay = of_bits binary32 0x442f0000

-- The high-pass output's gain over cutoff and resonance, and its trim, a cubic in the resonance.
abbrev pub filter_highpass_gain_zero : Float
filter_highpass_gain_zero = of_bits binary32 0x3f2cff06

abbrev pub filter_highpass_gain_cutoff_slope : Float
filter_highpass_gain_cutoff_slope = of_bits binary32 0xbf2698b3

abbrev pub filter_highpass_gain_resonance_drop : Float
filter_highpass_gain_resonance_drop = of_bits binary32 0x3cd90a07

abbrev pub filter_highpass_gain_cutoff_resonance_drop : Float
filter_highpass_gain_cutoff_resonance_drop = of_bits binary32 0x3f5552dc

abbrev pub filter_highpass_resonance_trim_c0 : Float
filter_highpass_resonance_trim_c0 = of_bits binary32 0xbdf2e4fd

abbrev pub filter_highpass_resonance_trim_c1 : Float
filter_highpass_resonance_trim_c1 = of_bits binary32 0xbf7651e0

abbrev pub filter_highpass_resonance_trim_c2 : Float
filter_highpass_resonance_trim_c2 = of_bits binary32 0x3fbf0f98

abbrev pub filter_highpass_resonance_trim_c3 : Float
filter_highpass_resonance_trim_c3 = of_bits binary32 0x40357e6d

-- The source energy that shifts the cutoff: how fast it is followed, its knee, and its share at no resonance.
abbrev pub filter_source_energy_tracking : Float
filter_source_energy_tracking = of_bits binary32 0x3a83126f

abbrev pub filter_source_energy_knee : Float
filter_source_energy_knee = of_bits binary32 0x3ba3d70a

abbrev pub filter_source_resonance_floor : Float
filter_source_resonance_floor = of_bits binary32 0x3e4ccccd

-- The displacement of the cutoff DAC by a step of its code: codes for each code of the step, and its limit in codes.
abbrev pub filter_cutoff_step_charge_gain : Float
filter_cutoff_step_charge_gain = of_bits binary32 0x3f5bf488

abbrev pub filter_cutoff_step_charge_limit_codes : ℤ
filter_cutoff_step_charge_limit_codes = pos 57

-- The shift of the output's operating point by combined waveforms and by voices that pass the filter by.
abbrev pub combined_output_common_mode : Float
combined_output_common_mode = of_bits binary32 0x3c663a3c

abbrev pub pure_bypass_output_common_mode : Float
pure_bypass_output_common_mode = of_bits binary32 0x3c949c4f

-- The same for each filter mode, at the lowest and the highest cutoff, and for a voice that enters the filter.
abbrev pub filter_lowpass_common_mode_fc_0 : Float
filter_lowpass_common_mode_fc_0 = of_bits binary32 0xbd0ee0d1

abbrev pub filter_lowpass_common_mode_fc_2047 : Float
filter_lowpass_common_mode_fc_2047 = of_bits binary32 0xbd169fbc

abbrev pub filter_bandpass_common_mode_fc_0 : Float
filter_bandpass_common_mode_fc_0 = of_bits binary32 0xbba87123

abbrev pub filter_bandpass_common_mode_fc_2047 : Float
filter_bandpass_common_mode_fc_2047 = of_bits binary32 0xbbaafcc3

abbrev pub filter_highpass_common_mode_fc_0 : Float
filter_highpass_common_mode_fc_0 = of_bits binary32 0xbba76d2c

abbrev pub filter_highpass_common_mode_fc_2047 : Float
filter_highpass_common_mode_fc_2047 = of_bits binary32 0xbc3c3fb7

abbrev pub filter_input_common_mode_one_voice : Float
filter_input_common_mode_one_voice = of_bits binary32 0x3c583a3e

-- The charge that a rising envelope brings to the mixer past the filter: by voices sounding, by waveform selection, and by the waveform's level.
abbrev pub pure_bypass_attack_common_mode_one_voice : Float
pure_bypass_attack_common_mode_one_voice = of_bits binary32 0x3e660568

abbrev pub pure_bypass_attack_common_mode_two_voice_delta : Float
pure_bypass_attack_common_mode_two_voice_delta = of_bits binary32 0xbddf40a3

abbrev pub pure_bypass_attack_common_mode_three_voice_delta : Float
pure_bypass_attack_common_mode_three_voice_delta = of_bits binary32 0xbe09d1f6

abbrev pub pure_bypass_attack_common_mode_scale : Float
pure_bypass_attack_common_mode_scale = of_bits binary32 0x3f370a3d

abbrev pub pure_bypass_attack_scale_by_selection : List Float
pure_bypass_attack_scale_by_selection =
    of_bits binary32 0x3f800000 ∷ of_bits binary32 0x3fbeb852 ∷ of_bits binary32 0x00000000 ∷ of_bits binary32 0x3f800000 ∷
    of_bits binary32 0x3f5d70a4 ∷ of_bits binary32 0x3f800000 ∷ of_bits binary32 0x3f800000 ∷ of_bits binary32 0x3f800000 ∷
    of_bits binary32 0x3f800000 ∷ of_bits binary32 0x3f800000 ∷ of_bits binary32 0x3f800000 ∷ of_bits binary32 0x3f800000 ∷
    of_bits binary32 0x3f800000 ∷ of_bits binary32 0x3f800000 ∷ of_bits binary32 0x3f800000 ∷ of_bits binary32 0x3f800000 ∷ []

abbrev pub pure_bypass_attack_waveform_state_coupling : Float
pure_bypass_attack_waveform_state_coupling = of_bits binary32 0x3d851eb8

-- The charge of a pulse voice's gate, at full volume, in the output stage's units.
abbrev pub pure_pulse_gate_relaxation_charge : Float
pure_pulse_gate_relaxation_charge = of_bits binary32 0x44a1733b

-- The mixer's transfer of a settled saw, a quadratic in its level.
abbrev pub pure_saw_mixer_linear : Float
pure_saw_mixer_linear = of_bits binary32 0x3f4ff4dc

abbrev pub pure_saw_mixer_quadratic : Float
pure_saw_mixer_quadratic = of_bits binary32 0x3ea617c2

-- Every f32 above that stands alone, in order.
abbrev pub scalars_of : List Float
scalars_of =
    sid_analogue_min_volts ∷
    sid_analogue_max_volts ∷
    sid_voice_base_volts ∷
    sid_voice_ac_volts ∷
    sid_voice_envelope_bias_volts ∷
    sid_mixer_voice_ac_gain ∷
    sid_mixer_conductance_per_input ∷
    sid_mixer_two_voice_activity_load ∷
    sid_mixer_two_voice_volume_gain_at_code_9 ∷
    sid_mixer_two_voice_volume_gain_per_code ∷
    sid_mixer_three_voice_activity_lift ∷
    sid_volume_conductance_divisor ∷
    sid_volume_dac_conductance_scale ∷
    sid_volume_dac_common_compression ∷
    sid_output_scale ∷
    sid_volume_output_centre ∷
    sid_volume_output_gain ∷
    sid_volume_dac_bias_full ∷
    sid_volume_transition_fast_charge_full_scale ∷
    sid_volume_transition_slow_charge_full_scale ∷
    sid_analogue_max_conductance ∷
    sid_analogue_quiescent_volts ∷
    sid_resonance_output_lift ∷
    filter_input_gain ∷
    filter_output_gain ∷
    filter_lowpass_gain_at_mid_resonance ∷
    filter_lowpass_gain_resonance_drop ∷
    filter_lowpass_output_trim ∷
    filter_bandpass_gain_zero_cutoff ∷
    filter_bandpass_gain_cutoff_slope ∷
    filter_bandpass_gain_resonance_drop ∷
    filter_bandpass_gain_trim_zero ∷
    filter_bandpass_gain_trim_cutoff_slope ∷
    filter_bandpass_output_trim ∷
    filter_low_band_gain_zero_cutoff ∷
    filter_low_band_gain_cutoff_slope ∷
    filter_low_band_gain_resonance_drop ∷
    filter_low_band_low_resonance_lift ∷
    filter_bypass_activity_linear_gain ∷
    filter_bypass_activity_quadratic_gain ∷
    filter_bandpass_low_coupling_max ∷
    filter_bandpass_low_coupling_knee ∷
    filter_highpass_low_coupling_zero ∷
    filter_highpass_low_coupling_decay ∷
    filter_highpass_gain_zero ∷
    filter_highpass_gain_cutoff_slope ∷
    filter_highpass_gain_resonance_drop ∷
    filter_highpass_gain_cutoff_resonance_drop ∷
    filter_highpass_resonance_trim_c0 ∷
    filter_highpass_resonance_trim_c1 ∷
    filter_highpass_resonance_trim_c2 ∷
    filter_highpass_resonance_trim_c3 ∷
    filter_source_energy_tracking ∷
    filter_source_energy_knee ∷
    filter_source_resonance_floor ∷
    filter_cutoff_step_charge_gain ∷
    combined_output_common_mode ∷
    pure_bypass_output_common_mode ∷
    filter_lowpass_common_mode_fc_0 ∷
    filter_lowpass_common_mode_fc_2047 ∷
    filter_bandpass_common_mode_fc_0 ∷
    filter_bandpass_common_mode_fc_2047 ∷
    filter_highpass_common_mode_fc_0 ∷
    filter_highpass_common_mode_fc_2047 ∷
    filter_input_common_mode_one_voice ∷
    pure_bypass_attack_common_mode_one_voice ∷
    pure_bypass_attack_common_mode_two_voice_delta ∷
    pure_bypass_attack_common_mode_three_voice_delta ∷
    pure_bypass_attack_common_mode_scale ∷
    pure_bypass_attack_waveform_state_coupling ∷
    pure_pulse_gate_relaxation_charge ∷
    pure_saw_mixer_linear ∷
    pure_saw_mixer_quadratic ∷ []

-- Every f64 above that stands alone, in order.
abbrev pub doubles_of : List Float
doubles_of =
    sid_filter_dac_two_r_over_r ∷
    sid_dac_leakage ∷ []

-- Every usize above that stands alone, in order.
abbrev pub sizes_of : List ℕ
sizes_of =
    sid_analogue_load_bins ∷
    filter_substeps ∷
    filter_operating_bins ∷ []
