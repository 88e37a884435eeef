-- Where on its curve an amplifier stands: the transfers of crates/direct by nibbles, and the summer for a sample of a state.
use Rattle.std.specs.Prelude.{ℕ, ◌&&◌, cond, List, ◌++◌, leb, Float, Err, is_ok, Option, Some, None}
use Rattle.std.specs.Float.{binary32}
use Rattle.std.specs.Float.Ieee.{to_bits}
use Rattle.answers.specs.declared.Refusal.TheVariants.{Argument}
use Rattle.answers.specs.Answers.{first_of, unless_of, Answer}
use Rattle.wire.specs.Wire.{float_bytes, row_bytes}
use Rattle.mixing.specs.Topology.{topology_of}
use Rattle.control.specs.declared.State.{State}
use Rattle.control.specs.Block.{decode_of}
use Rattle.curves.specs.declared.CurvePoint.{CurvePoint}
use Rattle.curves.specs.Sampling.{no_point}
use Rattle.curves.specs.Building.{judge_length_of}
use Rattle.controls.specs.Judging.{judge_controls_of}
use Rattle.sample.specs.Sample.{summer_slot_of, summer_point_of, is_idle_of, judge_input_of}
use Rattle.std.specs.Prelude.{Result, Ok, Err}
use Rattle.std.specs.Result.{result_and}
use Rattle.answers.specs.declared.Refusal.{Refusal}
use Rattle.direct.specs.Calls.{summer_transfer_call_of, mixer_transfer_call_of}
use Rattle.filter.specs.Lent.{Lent, judge_lent_of}
use Rattle.filter.specs.Core.{fresh_topology_of}
use Rattle.filter.specs.Plain.{plain_sample}

-- ---- by nibbles, which are at most 15 (10)

-- the summer: 1, 2, 4, 10, 5, 3, 6. No mode has a part in what it is fed.
unfoldable pub summer_call_of : Lent → ℕ → Float → Result CurvePoint Refusal
summer_call_of l routing sum =
    result_and (first_of (judge_lent_of l) (unless_of (leb routing 15) Argument)) (summer_transfer_call_of l.bundle l.curves (topology_of routing 0) sum)

-- the mixer: 4, 10, 3, 6
unfoldable pub mixer_call_of : List ℕ → ℕ → ℕ → Float → Result CurvePoint Refusal
mixer_call_of curves routing mode sum =
    result_and (first_of (judge_length_of curves) (unless_of (leb routing 15 && leb mode 15) Argument)) (mixer_transfer_call_of curves (topology_of routing mode) sum)

-- ---- of a sample

-- the summer at the topology of a state; where the sample is idle it reads no curve
unfoldable pub state_point_of : Lent → State → Float → CurvePoint
state_point_of l s sum =
    let t = fresh_topology_of s in
    cond (is_idle_of t.filter_input_count s.integrator) no_point (summer_point_of l.bundle l.curves (summer_slot_of t) t sum)

-- 5, then the controls' 3 and 6, as at the plain machine's start, and then as its sample
unfoldable pub sample_refusal_of : Lent → State → Float → Float → Answer
sample_refusal_of l s sum energy = first_of (judge_input_of sum energy) (first_of (judge_controls_of l.bundle s) (plain_sample l s sum energy).answer)

abbrev pub pointed_of : Lent → Option State → Float → Float → Result CurvePoint Refusal
pointed_of l None sum energy = result_and (judge_lent_of l) (Err Argument)
pointed_of l (Some s) sum energy = result_and (first_of (judge_lent_of l) (sample_refusal_of l s sum energy)) (Ok (state_point_of l s sum))

-- `sid_filter_sample_point`: 1, 2, 4, 10 of the block, 5, 3, 6
unfoldable pub sample_point_call_of : Lent → List ℕ → Float → Float → Result CurvePoint Refusal
sample_point_call_of l block sum energy = pointed_of l (decode_of block) sum energy

-- A script of one sample: a count of 1 and the offset 8; kind 4, with 0 for what it does not use, and the two floats.
unfoldable pub sample_script_of : Float → Float → List ℕ
sample_script_of sum energy = row_bytes 1 8 4 (to_bits binary32 sum) ++ float_bytes energy
