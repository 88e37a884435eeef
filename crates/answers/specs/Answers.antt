-- The table of refusals (docs/FORMATS.md): the number, the buffer and the place of each, 0 where the table names none.
use Rattle.std.specs.Prelude.{Bool, cond, ℕ, Result, Ok, Err}
use Rattle.std.specs.Result.{result_and}
use Rattle.answers.specs.declared.Buffer.{Buffer}
use Rattle.answers.specs.declared.Buffer.TheVariants.{Bundle, Curves}
use Rattle.answers.specs.declared.Refusal.{Refusal}
use Rattle.answers.specs.declared.Refusal.TheVariants.{BundleLength, Header, Entry, CurvesLength, InputNotFinite, Domain, Script, OutputLength, Argument, Sources, Decays}
use Rattle.answers.specs.declared.Reported.{Reported}

-- Done, or a refusal.
abbrev pub Answer : Type 0
Answer = Result (Unit {0}) Refusal

abbrev pub done : Answer
done = Ok tt

-- A number alone.
abbrev pub alone_of : ℕ → Reported
alone_of n = record { number = n; buffer = 0; place = 0 }

abbrev pub buffer_number_of : Buffer → ℕ
buffer_number_of Bundle = 0
buffer_number_of Curves = 1

-- The rows of the table. 9 is unused for good.
abbrev pub reported_of : Refusal → Reported
reported_of BundleLength = alone_of 1
reported_of (Header place) = record { number = 2; buffer = 0; place = place }
reported_of (Entry buffer place) = record { number = 3; buffer = buffer_number_of buffer; place = place }
reported_of CurvesLength = alone_of 4
reported_of InputNotFinite = alone_of 5
reported_of Domain = alone_of 6
reported_of Script = alone_of 7
reported_of OutputLength = alone_of 8
reported_of Argument = alone_of 10
reported_of Sources = alone_of 11
reported_of Decays = alone_of 12

-- Done is number 0.
abbrev pub report_of : Answer → Reported
report_of (Ok _) = alone_of 0
report_of (Err refusal) = reported_of refusal

-- The number alone.
abbrev pub number_of : Answer → ℕ
number_of a = (report_of a).number

-- The answer of a call that hands something out.
abbrev pub answer_of : {T : Type 0} → Result T Refusal → Answer
answer_of (Ok _) = done
answer_of (Err refusal) = Err refusal

-- The first of two if it refuses, else the second.
abbrev pub first_of : Answer → Answer → Answer
first_of a b = result_and a b

-- Done if the test held, else its refusal.
abbrev pub unless_of : Bool → Refusal → Answer
unless_of ok refusal = cond ok done (Err refusal)

-- The columns of the table.
abbrev pub buffer_of : Answer → ℕ
buffer_of a = (report_of a).buffer

abbrev pub place_of : Answer → ℕ
place_of a = (report_of a).place
