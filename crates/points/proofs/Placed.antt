-- Every point that the library hands out, whatever it is lent and asked: index 0 to 2,047, fraction 0 or more and below 1. (A curve's and the volume's by number: crates/direct,
-- `sample-curve-placed` and `volume-placed`.) Assumes nothing.
use Prim.Native.Nat.{ℕ, zero, suc, ◌+◌, ◌≤◌}
use mathlib.Core.Path.{◌≡◌, refl}
use mathlib.Core.Bool.{Bool, true, false, cond, ◌&&◌}
use mathlib.Core.List.{List}
use native.Mathlib.Omega.{arith}
use lib.Dec.{T, leb}
use lib.Ieee.{Float, binary32, of_bits, of_int, lt, sub, mul, div}
use lib.Ieee.Positive.{positive}
use lib.Ieee.Scale.{finite}
use Rattle.answers.specs.declared.Refusal.TheVariants.{Argument, InputNotFinite}
use Rattle.answers.specs.Answers.{first_of, unless_of, Answer, done}
use Rattle.answers.proofs.Laws.{done_is, first_done, unless_done}
use Rattle.floats.specs.Arithmetic.{◌⊕◌, ◌⊗◌, f32}
use Rattle.floats.proofs.Laws.{both}
use Rattle.floats.proofs.Numbers.{Number, add_number, mul_number}
use Rattle.response.specs.Levels.{filter_mode_quiescent_level_of, normalise_voltage_of}
use Rattle.mixing.specs.Topology.{topology_of, filter_count_of, reciprocal_of}
use Rattle.mixing.proofs.Facts.{filter_most}
use Rattle.control.specs.declared.State.{State}
use Rattle.control.specs.Block.{decode_of}
use Rattle.curves.specs.Sampling.{no_point}
use Rattle.curves.specs.Building.{judge_length_of}
use Rattle.curves.proofs.Point.{Placed, none_placed, number_placed}
use Rattle.sample.specs.Sample.{summer_slot_of, average_of, summer_point_of, is_idle_of, judge_input_of}
use Rattle.direct.proofs.Placed.{summer_placed, mixer_placed}
use Rattle.filter.specs.Lent.{Lent, judge_lent_of}
use Rattle.filter.specs.Core.{fresh_topology_of}
use Rattle.points.specs.Points.{summer_call_of, mixer_call_of, state_point_of, sample_refusal_of, pointed_of, sample_point_call_of}
use Rattle.std.specs.Prelude.{Ok, Err, Result, IfOk, Option, Some, None}
use Rattle.std.specs.Result.{result_and}
use Rattle.answers.specs.declared.Refusal.{Refusal}
use Rattle.curves.specs.declared.CurvePoint.{CurvePoint}

-- ---- by nibbles

guarded_placed : (judged : Answer) (r : Result CurvePoint Refusal) → IfOk r Placed → IfOk (result_and judged r) Placed
guarded_placed (Ok _) r placed = placed
guarded_placed (Err refusal) r placed = tt

pub summer_told : (l : Lent) (routing : ℕ) (sum : Float) → IfOk (summer_call_of l routing sum) Placed
unfolding summer_call_of
summer_told l routing sum = guarded_placed (first_of (judge_lent_of l) (unless_of (leb routing 15) Argument)) _ (summer_placed l.curves (topology_of routing 0) sum l.bundle)

pub mixer_told : (curves : List ℕ) (routing mode : ℕ) (sum : Float) → IfOk (mixer_call_of curves routing mode sum) Placed
unfolding mixer_call_of
mixer_told curves routing mode sum =
    guarded_placed (first_of (judge_length_of curves) (unless_of (leb routing 15 && leb mode 15) Argument)) _ (mixer_placed curves (topology_of routing mode) sum)

-- ---- of a sample, whose sum is finite: the average is a number

reciprocal_positive : (n : ℕ) → n ≤ 4 → T (positive (reciprocal_of (2 + n)))
unfolding reciprocal_of of_int div of_bits
reciprocal_positive zero h = tt
reciprocal_positive (suc zero) h = tt
reciprocal_positive (suc (suc zero)) h = tt
reciprocal_positive (suc (suc (suc zero))) h = tt
reciprocal_positive (suc (suc (suc (suc zero)))) h = tt
reciprocal_positive (suc (suc (suc (suc (suc n))))) h = absurd (omega (arith, h))

rest_finite : finite (f32 0x4000_0000 ⊗ filter_mode_quiescent_level_of) ≡ true
unfolding filter_mode_quiescent_level_of normalise_voltage_of of_bits lt sub mul div
rest_finite = refl

module _ (s : State) (sum : Float) (known : finite sum ≡ true) where
  average_number : Number (average_of (fresh_topology_of s) sum)
  unfolding topology_of
  average_number =
      let count = filter_count_of s.registers.routing in
      mul_number binary32 (sum ⊕ f32 0x4000_0000 ⊗ filter_mode_quiescent_level_of) (reciprocal_of (2 + count)) (add_number binary32 sum _ known rest_finite)
      (reciprocal_positive count (filter_most s.registers.routing))

  state_placed : (l : Lent) → Placed (state_point_of l s sum)
  unfolding state_point_of summer_point_of
  state_placed l = go (is_idle_of (fresh_topology_of s).filter_input_count s.integrator)
    where
      go : (idle : Bool) → Placed (cond idle no_point (summer_point_of l.bundle l.curves (summer_slot_of (fresh_topology_of s)) (fresh_topology_of s) sum))
      go true = none_placed
      go false = number_placed l.curves (summer_slot_of (fresh_topology_of s)) (average_of (fresh_topology_of s) sum) average_number.real

pub sample_told : (l : Lent) (block : List ℕ) (sum energy : Float) → IfOk (sample_point_call_of l block sum energy) Placed
unfolding sample_point_call_of sample_refusal_of
sample_told l block sum energy = go (decode_of block)
  where
    known : (s : State) → first_of (judge_lent_of l) (sample_refusal_of l s sum energy) ≡ done → finite sum ≡ true
    known s h =
        let asked = (first_done (judge_lent_of l) (sample_refusal_of l s sum energy) h).1 in
        let input = (first_done (judge_input_of sum energy) _ asked).0 in
        (both (finite sum) (finite energy) (unless_done (finite sum && finite energy) InputNotFinite input)).0

    settled : (s : State) (judged : Answer) → first_of (judge_lent_of l) (sample_refusal_of l s sum energy) ≡ judged → IfOk (result_and judged (Ok (state_point_of l s sum))) Placed
    settled s (Ok _) h = state_placed s sum (known s h) l
    settled s (Err refusal) h = tt

    none : (judged : Answer) → IfOk {T = CurvePoint} (result_and judged (Err Argument)) Placed
    none (Ok _) = tt
    none (Err refusal) = tt

    go : (d : Option State) → IfOk (pointed_of l d sum energy) Placed
    go None = none (judge_lent_of l)
    go (Some s) = settled s (first_of (judge_lent_of l) (sample_refusal_of l s sum energy)) refl
