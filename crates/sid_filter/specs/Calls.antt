-- What the C interface answers.
use Rattle.std.specs.Prelude.{ℕ, Result, Ok, Err}
use Rattle.answers.specs.Answers.{number_of, buffer_of, place_of, Answer, done}
use Rattle.run.specs.Run.{Run}
use Rattle.answers.specs.declared.Refusal.{Refusal}
use Rattle.curves.specs.declared.CurvePoint.{CurvePoint}
use Rattle.curves.specs.Sampling.{no_point}
use Rattle.sid_filter.specs.declared.RunAnswer.{RunAnswer}
use Rattle.sid_filter.specs.declared.PointAnswer.{PointAnswer}

-- An answer as C has it, with the events done and the samples written.
abbrev pub run_answer_of : Answer → ℕ → ℕ → RunAnswer
run_answer_of answer events samples = record { number = number_of answer; events = events; samples = samples; buffer = buffer_of answer; place = place_of answer }

abbrev pub ran_answer_of : Run → RunAnswer
ran_answer_of r = run_answer_of r.answer r.events r.samples

-- A point as C has it; zeros beside a refusal.
abbrev pub point_answer_of : Result CurvePoint Refusal → PointAnswer
point_answer_of (Ok p) = record { answer = run_answer_of done 0 0; point = p }
point_answer_of (Err refusal) = record { answer = run_answer_of (Err refusal) 0 0; point = no_point }
