-- What the refusing calls reply to C.
use Rattle.std.specs.Prelude.{Result, Float}
use Rattle.std.specs.Result.{result_unwrap_or}
use Rattle.answers.specs.declared.Refusal.{Refusal}
use Rattle.answers.specs.Answers.{Answer, answer_of, number_of, buffer_of, place_of}
use Rattle.floats.specs.Arithmetic.{f32}
use Rattle.probe.specs.declared.replies.Told.{Told}
use Rattle.probe.specs.declared.replies.Reply.{Reply}

-- an answer by its numbers
abbrev pub told_numbers_of : Answer → Told
told_numbers_of answer = record { number = number_of answer; buffer = buffer_of answer; place = place_of answer }

-- and what is handed out beside it, or the other value beside a refusal
abbrev pub parted_of : {T : Type 0} → Result T Refusal → T → Told × T
parted_of handed none = (told_numbers_of (answer_of handed), result_unwrap_or handed none)

-- a number, and 0 beside a refusal
abbrev pub reply_of : Result Float Refusal → Reply
reply_of handed = record { told = told_numbers_of (answer_of handed); value = result_unwrap_or handed (f32 0) }
