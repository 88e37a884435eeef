-- Every point that C is handed, whatever is lent and asked: index 0 to 2,047, fraction 0 or more and below 1, also beside a refusal. Assumes nothing.
use Rattle.std.specs.Prelude.{ℕ, List, Float, Result, Ok, Err, IfOk}
use Rattle.answers.specs.declared.Refusal.{Refusal}
use Rattle.curves.specs.declared.CurvePoint.{CurvePoint}
use Rattle.curves.proofs.Point.{Placed, none_placed}
use Rattle.filter.specs.Lent.{Lent}
use Rattle.direct.specs.Calls.{sample_curve_call_of, volume_transfer_call_of}
use Rattle.direct.proofs.Placed.{sample_curve_placed, volume_placed}
use Rattle.points.specs.Points.{summer_call_of, mixer_call_of, sample_point_call_of}
use Rattle.points.proofs.Placed.{summer_told, mixer_told, sample_told}
use Rattle.sid_filter.specs.Calls.{point_answer_of}

-- What is told of a point that is handed out holds of what C has of it.
answered : (pointed : Result CurvePoint Refusal) → IfOk pointed Placed → Placed (point_answer_of pointed).point
answered (Ok p) placed = placed
answered (Err refusal) placed = none_placed

pub sample_curve_answered : (curves : List ℕ) (curve : ℕ) (input : Float) → Placed (point_answer_of (sample_curve_call_of curves curve input)).point
sample_curve_answered curves curve input = answered _ (sample_curve_placed curves curve input)

pub summer_answered : (l : Lent) (routing : ℕ) (sum : Float) → Placed (point_answer_of (summer_call_of l routing sum)).point
summer_answered l routing sum = answered _ (summer_told l routing sum)

pub mixer_answered : (curves : List ℕ) (routing mode : ℕ) (sum : Float) → Placed (point_answer_of (mixer_call_of curves routing mode sum)).point
mixer_answered curves routing mode sum = answered _ (mixer_told curves routing mode sum)

pub volume_answered : (curves : List ℕ) (volume : ℕ) (value : Float) → Placed (point_answer_of (volume_transfer_call_of curves volume value)).point
volume_answered curves volume value = answered _ (volume_placed curves volume value)

pub sample_point_answered : (l : Lent) (block : List ℕ) (sum energy : Float) → Placed (point_answer_of (sample_point_call_of l block sum energy)).point
sample_point_answered l block sum energy = answered _ (sample_told l block sum energy)
