-- `mixer_transfer` and `volume_transfer` of filter.rs, operation by operation, and the entries that each reads.
-- Of the 31 curves the mixer's are 7 to 14 and the volume's 15 to 30.
use Rattle.std.specs.Prelude.{ℕ, ◌+◌, min, cond, List, eqb, leb, Float, Err, Result}
use Rattle.answers.specs.declared.Refusal.TheVariants.{Argument}
use Rattle.answers.specs.declared.Buffer.TheVariants.{Curves}
use Rattle.floats.specs.Arithmetic.{◌⊗◌, f32}
use Rattle.response.specs.Levels.{filter_mode_quiescent_level_of}
use Rattle.mixing.specs.declared.MixingTopology.{MixingTopology}
use Rattle.bundle.specs.Opening.{judge_places_of}
use Rattle.bundle.specs.Reading.{read_of}
use Rattle.curves.specs.declared.CurvePoint.{CurvePoint}
use Rattle.curves.specs.Sampling.{sample_curve_of, sample_curve_places_of, curve_point_of, no_point}
use Rattle.answers.specs.Answers.{Answer}
use Rattle.answers.specs.declared.Refusal.{Refusal}

-- ---- `mixer_transfer`

-- curves.mixer[input_count], by its slot in a buffer of all 31 curves. There is one for 0 to 7 inputs; no curve has the slot 31.
abbrev pub mixer_slot_of : ℕ → ℕ
mixer_slot_of count = cond (leb count 7) (7 + count) 31

-- the quiescent level where there is no input, else input_sum * mixer_input_reciprocal
abbrev pub mixer_average_of : MixingTopology → Float → Float
mixer_average_of t sum = cond (eqb t.mixer_input_count 0) filter_mode_quiescent_level_of (sum ⊗ t.mixer_input_reciprocal)

-- A count above 7, at which the Rust panics, reads nothing: its value is 0,
unfoldable pub mixer_transfer_of : List ℕ → ℕ → MixingTopology → Float → Float
mixer_transfer_of curves slot t sum = cond (leb t.mixer_input_count 7) (sample_curve_of curves slot (mixer_average_of t sum)) (f32 0)

-- it stands on no curve,
unfoldable pub mixer_point_of : List ℕ → ℕ → MixingTopology → Float → CurvePoint
mixer_point_of curves slot t sum = cond (leb t.mixer_input_count 7) (curve_point_of curves slot (mixer_average_of t sum)) no_point

-- and it is a 10.
unfoldable pub judge_mixer_of : List ℕ → ℕ → MixingTopology → Float → Answer
judge_mixer_of curves slot t sum = cond (leb t.mixer_input_count 7) (judge_places_of Curves curves (sample_curve_places_of slot (mixer_average_of t sum))) (Err Argument)

-- The output, or the first refusal of these.
unfoldable pub read_mixer_of : List ℕ → ℕ → MixingTopology → Float → Result Float Refusal
read_mixer_of curves slot t sum = read_of (judge_mixer_of curves slot t sum) (mixer_transfer_of curves slot t sum)

-- ---- `volume_transfer`

-- curves.volume[volume], by its slot in a buffer of all 31 curves. A volume above 15, which no register has, counts as 15.
abbrev pub volume_slot_of : ℕ → ℕ
volume_slot_of volume = 15 + min volume 15

unfoldable pub volume_transfer_of : List ℕ → ℕ → Float → Float
volume_transfer_of curves slot value = sample_curve_of curves slot value

unfoldable pub volume_point_of : List ℕ → ℕ → Float → CurvePoint
volume_point_of curves slot value = curve_point_of curves slot value

unfoldable pub judge_volume_of : List ℕ → ℕ → Float → Answer
judge_volume_of curves slot value = judge_places_of Curves curves (sample_curve_places_of slot value)

unfoldable pub read_volume_of : List ℕ → ℕ → Float → Result Float Refusal
read_volume_of curves slot value = read_of (judge_volume_of curves slot value) (volume_transfer_of curves slot value)
