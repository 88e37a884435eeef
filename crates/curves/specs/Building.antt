-- The 31 curves of `Filter::new`, operation by operation, and what building them answers.
use Rattle.std.specs.Prelude.{ℕ, ◌+◌, ◌-◌, min, cond, List, eqb, ltb, pos, length, Float, is_ok}
use Rattle.std.specs.Float.{binary32}
use Rattle.std.specs.Float.Ieee.{of_int}
use Rattle.answers.specs.declared.Refusal.TheVariants.{CurvesLength}
use Rattle.answers.specs.Answers.{first_of, unless_of, Answer}
use Rattle.constants.specs.Values as K
use Rattle.floats.specs.Arithmetic.{◌⊕◌, ◌⊖◌, ◌⊗◌, ◌⊘◌, f32}
use Rattle.wire.specs.Wire.{float_bytes, rows}
use Rattle.response.specs.Levels.{interpolate_of, volume_dac_conductance_code_of}
use Rattle.bundle.specs.Layout.{analogue_surface}
use Rattle.bundle.specs.Opening.{check_of, judge_section_of}
use Rattle.curves.specs.declared.AnalogueLoadPosition.{AnalogueLoadPosition}
use Rattle.curves.specs.Sampling.{last_input, load_position_of, table_at}

-- `build_load_curve`: entry k lies between the two loads' entries at k, and entry 2,048 repeats entry 2,047
unfoldable pub load_curve_of : List ℕ → AnalogueLoadPosition → ℕ → Float
load_curve_of bundle load k =
    let code = min k last_input in
    interpolate_of (table_at bundle (load.lower_base + code)) (table_at bundle (load.upper_base + code)) load.fraction

-- The conductance that a curve is built for. Curves 0 to 6 are the summer's, by the count of inputs, 7 to 14 the mixer's, and 15 to 30 the volume's.
unfoldable pub curve_load_of : ℕ → Float
curve_load_of curve =
    cond (ltb curve 7) (of_int binary32 (pos curve))
    (cond (ltb curve 15) (of_int binary32 (pos (curve - 7)) ⊗ K.sid_mixer_conductance_per_input)
    (volume_dac_conductance_code_of (curve - 15) ⊘ K.sid_volume_conductance_divisor))

-- An entry of a volume curve, centred and moved by the DAC's bias, which grows with the volume.
unfoldable pub volume_entry_of : ℕ → Float → Float
volume_entry_of volume entry =
    let bias = K.sid_volume_dac_bias_full ⊗ (of_int binary32 (pos volume) ⊘ f32 0x4170_0000) in
    (entry ⊖ K.sid_volume_output_centre ⊕ bias) ⊗ K.sid_volume_output_gain

-- An entry as its curve holds it.
unfoldable pub finished_of : ℕ → Float → Float
finished_of curve entry = cond (ltb curve 15) entry (volume_entry_of (curve - 15) entry)

-- Entry k of a curve.
unfoldable pub curve_entry_of : List ℕ → ℕ → ℕ → Float
curve_entry_of bundle curve k = finished_of curve (load_curve_of bundle (load_position_of (curve_load_of curve)) k)

-- The bytes of a curve, of four for each of its 2,049 entries, and of all 31.
abbrev pub curve_length : ℕ
curve_length = 8196

abbrev pub curves_length : ℕ
curves_length = 254076

unfoldable pub build_curve_of : List ℕ → ℕ → List ℕ
build_curve_of bundle curve = rows (λ k. float_bytes (curve_entry_of bundle curve k)) 2049

unfoldable pub build_curves_of : List ℕ → List ℕ
build_curves_of bundle = rows (build_curve_of bundle) 31

-- ---- building them into a buffer of any length

-- What every call that takes a buffer of curves asks of its length.
abbrev pub judge_length_of : List ℕ → Answer
judge_length_of curves = unless_of (eqb (length curves) curves_length) CurvesLength

-- The bundle's length and header, the buffer's length, then every entry of the surface.
unfoldable pub judge_build_of : List ℕ → List ℕ → Answer
judge_build_of bundle curves = first_of (first_of (check_of bundle) (judge_length_of curves)) (judge_section_of bundle analogue_surface)

-- The buffer at the end: the curves, or as it was where the build is refused.
unfoldable pub build_of : List ℕ → List ℕ → List ℕ
build_of bundle curves = cond (is_ok (judge_build_of bundle curves)) (build_curves_of bundle) curves
