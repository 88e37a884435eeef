-- Levels and conductances of response.rs, operation by operation.
use Rattle.std.specs.Prelude.{ℕ, Bool, cond, pos, get_or, Float}
use Rattle.std.specs.Float.{nan, binary32}
use Rattle.std.specs.Float.Ieee.{of_int}
use Rattle.constants.specs.Values as K
use Rattle.floats.specs.Arithmetic.{◌⊕◌, ◌⊖◌, ◌⊗◌, ◌⊘◌, f32}
use Rattle.floats.specs.Floats.{clamp_of}
use Rattle.response.specs.Bits.{bit}

-- `analogue_span`
abbrev pub analogue_span_of : Float
analogue_span_of = K.sid_analogue_max_volts ⊖ K.sid_analogue_min_volts

-- `normalise_voltage`
unfoldable pub normalise_voltage_of : Float → Float
normalise_voltage_of voltage = clamp_of ((voltage ⊖ K.sid_analogue_min_volts) ⊘ analogue_span_of) (f32 0) (f32 0x3f80_0000)

-- `filter_mode_quiescent_level`
unfoldable pub filter_mode_quiescent_level_of : Float
filter_mode_quiescent_level_of = normalise_voltage_of K.sid_analogue_quiescent_volts

-- sum += x where the bit is set
abbrev pub add_if : Bool → Float → Float → Float
add_if on sum x = cond on (sum ⊕ x) sum

-- `volume_dac_conductance_code`: the sum of the branches that are on, which load their common node
unfoldable pub branch_sum_of : ℕ → Float
branch_sum_of volume =
    let weight : ℕ → Float = λ i. get_or K.sid_volume_dac_branch_weights i nan in
    add_if (bit volume 3) (add_if (bit volume 2) (add_if (bit volume 1) (add_if (bit volume 0) (f32 0) (weight 0)) (weight 1)) (weight 2)) (weight 3)

abbrev pub loaded_of : Float → Float
loaded_of sum = K.sid_volume_dac_conductance_scale ⊗ sum ⊘ (f32 0x3f80_0000 ⊕ K.sid_volume_dac_common_compression ⊗ sum)

unfoldable pub volume_dac_conductance_code_of : ℕ → Float
volume_dac_conductance_code_of volume = loaded_of (branch_sum_of volume)

-- between two values, by a fraction
abbrev pub interpolate_of : Float → Float → Float → Float
interpolate_of lower upper fraction = lower ⊕ (upper ⊖ lower) ⊗ fraction

-- cutoff as f32 / 2047.0
abbrev pub cutoff_position_of : ℕ → Float
cutoff_position_of cutoff = of_int binary32 (pos cutoff) ⊘ f32 0x44ff_e000

-- `filter_output_common_mode`: each selected output adds its own level
unfoldable pub filter_output_common_mode_of : ℕ → ℕ → Float
filter_output_common_mode_of mode cutoff =
    let position = cutoff_position_of cutoff in
    add_if (bit mode 2)
    (add_if (bit mode 1)
    (add_if (bit mode 0) (f32 0)
    (interpolate_of K.filter_lowpass_common_mode_fc_0 K.filter_lowpass_common_mode_fc_2047 position))
    (interpolate_of K.filter_bandpass_common_mode_fc_0 K.filter_bandpass_common_mode_fc_2047 position))
    (interpolate_of K.filter_highpass_common_mode_fc_0 K.filter_highpass_common_mode_fc_2047 position)
