-- What a call gives that judges each entry as it reads it.
use Rattle.std.specs.Prelude.{Float, Result, Ok}
use Rattle.std.specs.Result.{result_and}
use Rattle.answers.specs.declared.Refusal.{Refusal}
use Rattle.answers.specs.Answers.{Answer}

-- The value where the entries are judged usable, else the refusal of the first that is not.
unfoldable pub read_of : Answer → Float → Result Float Refusal
read_of judged value = result_and judged (Ok value)
