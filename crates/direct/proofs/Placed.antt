-- Every point that a direct call hands out, whatever it is lent and asked: index 0 to 2,047, fraction 0 or more and below 1. Assumes nothing.
use Prim.Native.Nat.{ℕ}
use mathlib.Core.Path.{◌≡◌, refl}
use mathlib.Core.Bool.{Bool, true, false, cond}
use mathlib.Core.List.{List}
use lib.Dec.{leb}
use lib.Ieee.{Float, binary32}
use lib.Ieee.Scale.{finite}
use Rattle.floats.proofs.Numbers.{finite_number, minuend_number}
use Rattle.mixing.specs.declared.MixingTopology.{MixingTopology}
use Rattle.curves.specs.declared.CurvePoint.{CurvePoint}
use Rattle.curves.specs.Sampling.{sample_curve_of, curve_point_of, summer_resting_output_of, no_point}
use Rattle.curves.proofs.Point.{Placed, none_placed, curve_placed}
use Rattle.transfers.specs.Transfers.{mixer_slot_of, mixer_average_of, mixer_point_of, volume_slot_of, volume_point_of}
use Rattle.sample.specs.Sample.{summer_slot_of, summer_inputs_of, average_of, summer_transfer_of, summer_point_of}
use Rattle.direct.specs.Calls.{finite_point_of, judged_point_of, sample_curve_answer_of, sample_curve_call_of, summer_answer_of, summer_transfer_call_of, mixer_answer_of, mixer_transfer_call_of, volume_answer_of, volume_transfer_call_of}
use Rattle.answers.specs.declared.Refusal.TheVariants.{Domain}
use Rattle.answers.specs.Answers.{Answer, unless_of}
use Rattle.std.specs.Prelude.{Ok, Err, IfOk}
use Rattle.std.specs.Result.{result_and}

-- A point is handed out where its value is finite.
judged_placed : (judged : Answer) (p : CurvePoint) → (finite p.value ≡ true → Placed p) → IfOk (judged_point_of judged p) Placed
unfolding finite_point_of
judged_placed (Ok _) p placed = go (finite p.value) refl
  where
    go : (v : Bool) → finite p.value ≡ v → IfOk (result_and (unless_of v Domain) (Ok p)) Placed
    go true i = placed i
    go false i = tt
judged_placed (Err refusal) p placed = tt

module _ (curves : List ℕ) where
  read_placed : (slot : ℕ) (input : Float) → finite (curve_point_of curves slot input).value ≡ true → Placed (curve_point_of curves slot input)
  unfolding curve_point_of
  read_placed slot input told = curve_placed curves slot input (finite_number _ told)

  pub sample_curve_placed : (curve : ℕ) (input : Float) → IfOk (sample_curve_call_of curves curve input) Placed
  unfolding sample_curve_call_of
  sample_curve_placed curve input = judged_placed (sample_curve_answer_of curves curve input) (curve_point_of curves curve input) (read_placed curve input)

  pub volume_placed : (volume : ℕ) (value : Float) → IfOk (volume_transfer_call_of curves volume value) Placed
  unfolding volume_transfer_call_of volume_point_of
  volume_placed volume value = judged_placed (volume_answer_of curves volume value) (curve_point_of curves (volume_slot_of volume) value) (read_placed (volume_slot_of volume) value)

  -- where a curve is read at all
  few_placed : (few : Bool) (slot : ℕ) (input : Float) → let p = cond few (curve_point_of curves slot input) no_point in finite p.value ≡ true → Placed p
  few_placed true slot input told = read_placed slot input told
  few_placed false slot input told = none_placed

  module _ (t : MixingTopology) (sum : Float) where
    pub mixer_placed : IfOk (mixer_transfer_call_of curves t sum) Placed
    unfolding mixer_transfer_call_of mixer_point_of
    mixer_placed =
        let slot = mixer_slot_of t.mixer_input_count in
        judged_placed (mixer_answer_of curves t sum) (mixer_point_of curves slot t sum) (few_placed (leb t.mixer_input_count 7) slot (mixer_average_of t sum))

    pub summer_placed : (bundle : List ℕ) → IfOk (summer_transfer_call_of bundle curves t sum) Placed
    unfolding summer_transfer_call_of summer_point_of summer_transfer_of
    summer_placed bundle = judged_placed (summer_answer_of bundle curves t sum) (summer_point_of bundle curves (summer_slot_of t) t sum) told_placed
      where
        told_placed : finite (summer_transfer_of bundle curves (summer_slot_of t) t sum) ≡ true → Placed (summer_point_of bundle curves (summer_slot_of t) t sum)
        told_placed told =
            let rest = summer_resting_output_of bundle (summer_inputs_of t.filter_input_count) in
            let read = sample_curve_of curves (summer_slot_of t) (average_of t sum) in
            curve_placed curves (summer_slot_of t) (average_of t sum) (minuend_number binary32 read rest told)
