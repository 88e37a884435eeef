-- A number above 30 is no curve's: a 10 of the direct call, whatever the input is. Assumes nothing.
use Prim.Native.Nat.{ℕ, ◌<◌}
use mathlib.Core.Path.{◌≡◌, refl}
use mathlib.Core.List.{List}
use lib.Ieee.{Float}
use borrow.Author.Tests.{lt-leb}
use Rattle.std.specs.Prelude.{Ok, Err}
use Rattle.answers.specs.declared.Refusal.TheVariants.{Argument}
use Rattle.answers.specs.Answers.{Answer, first_of}
use Rattle.curves.specs.declared.CurvePoint.{CurvePoint}
use Rattle.answers.specs.declared.Buffer.TheVariants.{Curves}
use Rattle.bundle.specs.Opening.{judge_places_of}
use Rattle.curves.specs.Sampling.{curve_point_of, no_point, sample_curve_places_of}
use Rattle.curves.specs.Building.{judge_length_of}
use Rattle.direct.specs.Calls.{judged_point_of, sample_curve_answer_of, sample_curve_call_of}

-- A refused call hands out no point, whatever it would be, and whatever was judged before.
none_handed : (before later : Answer) (p q : CurvePoint) → judged_point_of (first_of before (Err Argument)) p ≡ judged_point_of (first_of before (first_of (Err Argument) later)) q
none_handed (Ok _) later p q = refl
none_handed (Err refusal) later p q = refl

pub curve_above : (curves : List ℕ) (curve : ℕ) (input : Float) → 30 < curve → judged_point_of (first_of (judge_length_of curves) (Err Argument)) no_point ≡ sample_curve_call_of curves curve input
unfolding sample_curve_call_of sample_curve_answer_of
curve_above curves curve input above = rw (lt-leb curve 30 above) (none_handed (judge_length_of curves) (judge_places_of Curves curves (sample_curve_places_of curve input)) no_point (curve_point_of curves curve input))
