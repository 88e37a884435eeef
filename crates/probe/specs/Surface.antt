-- What the comparison asks of the surface and of a curve.
use Rattle.std.specs.Prelude.{Result}
use Rattle.std.specs.Result.{result_unwrap_or}
use Rattle.answers.specs.declared.Refusal.{Refusal}
use Rattle.answers.specs.Answers.{answer_of, number_of}
use Rattle.floats.specs.Arithmetic.{f32}
use Rattle.curves.specs.declared.AnalogueLoadPosition.{AnalogueLoadPosition}
use Rattle.probe.specs.declared.surface.Load.{Load}

-- the number and the position, and zeros beside a refusal
abbrev pub load_of : Result AnalogueLoadPosition Refusal → Load
load_of handed =
    let position = result_unwrap_or handed (record { lower_base = 0; upper_base = 0; fraction = f32 0 }) in
    record { number = number_of (answer_of handed); lower_base = position.lower_base; upper_base = position.upper_base; fraction = position.fraction }
