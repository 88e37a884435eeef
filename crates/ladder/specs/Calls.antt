-- The four calls that a user reaches, by the table of refusals: an argument that is not finite or past its table gives 10, a result that is not
-- finite 6. A refusal hands out no value, and leaves a lent buffer as it was.
use Rattle.std.specs.Prelude.{ℕ, Bool, cond, ◌&&◌, List, ltb, eqb, length, Float, Result, Ok, is_ok}
use Rattle.std.specs.Float.Ieee.Scale.{finite}
use Rattle.std.specs.Result.{result_and}
use Rattle.answers.specs.declared.Refusal.{Refusal}
use Rattle.answers.specs.declared.Refusal.TheVariants.{Domain, Argument}
use Rattle.answers.specs.Answers.{Answer, first_of, unless_of}
use Rattle.wire.specs.First.{every}
use Rattle.wire.specs.Wire.{float_bytes, rows}
use Rattle.ladder.specs.Ladder.{at, solve_of, weights_of, value_of, position_of, cutoff_scale_of}
use Rattle.ladder.specs.declared.Scale.{Scale}

-- The answer to a call, by whether its arguments and then its results are good.
abbrev pub judge_of : Bool → Bool → Answer
judge_of arguments results = first_of (unless_of arguments Argument) (unless_of results Domain)

-- Each of twelve is finite.
unfoldable pub all_finite_of : List Float → Bool
all_finite_of xs = every (λ i. finite (at xs i)) 12

-- The value where both are good, else the answer's refusal.
abbrev pub judged_result_of : {T : Type 0} → Bool → Bool → T → Result T Refusal
judged_result_of arguments results value = result_and (judge_of arguments results) (Ok value)

abbrev pub settle_nodes_of : Bool → List Float → Result (List Float) Refusal
settle_nodes_of arguments values = judged_result_of arguments (all_finite_of values) values

unfoldable pub solve_tridiagonal_of : List Float → List Float → List Float → List Float → Result (List Float) Refusal
solve_tridiagonal_of lower diagonal upper rhs =
    settle_nodes_of (all_finite_of lower && all_finite_of diagonal && all_finite_of upper && all_finite_of rhs)
    (solve_of (record { lower = lower; diagonal = diagonal; upper = upper; rhs = rhs }))

unfoldable pub ladder_weights_of : Float → Bool → Result (List Float) Refusal
ladder_weights_of two_r_over_r terminated = settle_nodes_of (finite two_r_over_r) (weights_of two_r_over_r terminated)

abbrev pub settle_level_of : Bool → Float → Result Float Refusal
settle_level_of arguments value = judged_result_of arguments (finite value) value

-- A code has a bit for each of the twelve weights.
unfoldable pub ladder_value_of : ℕ → List Float → Float → Result Float Refusal
ladder_value_of code weights leakage =
    settle_level_of (ltb code 4096 && all_finite_of weights && finite leakage) (value_of code weights leakage)

-- The 2,048 positions, as little-endian f32.
unfoldable pub positions_finite_of : Scale → Bool
positions_finite_of s = every (λ code. finite (position_of s code)) 2048

unfoldable pub position_bytes_of : Scale → List ℕ
position_bytes_of s = rows (λ code. float_bytes (position_of s code)) 2048

-- The answer, and the lent bytes after the call.
unfoldable pub build_cutoff_control_positions_of : List ℕ → Answer × List ℕ
build_cutoff_control_positions_of lent =
    let answer = judge_of (eqb (length lent) 8192) (positions_finite_of cutoff_scale_of) in
    (answer, cond (is_ok answer) (position_bytes_of cutoff_scale_of) lent)
