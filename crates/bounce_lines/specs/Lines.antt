-- What `bounce` says: each answer in words, the line of a refused file, and the line of a script.
use Rattle.std.specs.Prelude.{ℕ, cond, List, ◌++◌, Ok, Err, is_ok}
use Rattle.answers.specs.declared.Buffer.TheVariants.{Bundle, Curves}
use Rattle.answers.specs.declared.Refusal.TheVariants.{BundleLength, Header, Entry, CurvesLength, InputNotFinite, Domain, Script, OutputLength, Argument, Sources, Decays}
use Rattle.answers.specs.Answers.{Answer, number_of}
use Rattle.wire.specs.Text.{ascii}
use Rattle.text.specs.Text.{decimal_of}

-- Words, and the place of which they speak.
unfoldable pub placed_of : List ℕ → ℕ → List ℕ
placed_of words place = words ++ ascii ", at byte " ++ decimal_of place

-- The causes of the table of refusals (docs/FORMATS.md), with the buffer and the place where it names them.
unfoldable pub words_of : Answer → List ℕ
words_of (Ok _) = ascii "nothing is refused"
words_of (Err BundleLength) = ascii "the bundle is not 6,127,736 bytes long"
words_of (Err (Header place)) = placed_of (ascii "the bundle's header differs") place
words_of (Err (Entry Bundle place)) = placed_of (ascii "an entry of the bundle is unusable") place
words_of (Err (Entry Curves place)) = placed_of (ascii "an entry of the curves is unusable") place
words_of (Err CurvesLength) = ascii "the curve buffer is not 254,076 bytes long"
words_of (Err InputNotFinite) = ascii "the input sum or the source energy is not finite"
words_of (Err Domain) = ascii "a number would be outside the finite domain"
words_of (Err Script) = ascii "the script's length is not 8 + 12 x count, or its offset, its count, an event's kind or its zero bytes are wrong"
words_of (Err OutputLength) = ascii "the output is shorter than 16 bytes a sample event"
words_of (Err Argument) = ascii "the state block is invalid"
words_of (Err Sources) = ascii "a voice, or a number lent beside the voices, is invalid"
words_of (Err Decays) = ascii "the decays are not six numbers from 0 to 1"

-- The events done and the samples written.
unfoldable pub counts_of : ℕ → ℕ → List ℕ
counts_of events samples = decimal_of events ++ ascii " events, " ++ decimal_of samples ++ ascii " samples"

-- A refusal's number and its words.
unfoldable pub refusal_of : Answer → List ℕ
refusal_of answer = decimal_of (number_of answer) ++ ascii ", " ++ words_of answer

-- `state.bin: refused: 10, the state block is invalid`, and a line end.
unfoldable pub refused_line_of : List ℕ → Answer → List ℕ
refused_line_of name answer = name ++ ascii ": refused: " ++ refusal_of answer ++ ascii "\n"

-- `song.scr: done, 5460 events, 5000 samples`, or
-- `song.scr: stopped after 17 events, 12 samples: 5, the input sum or the source energy is not finite`, and a line end.
unfoldable pub script_line_of : List ℕ → Answer → ℕ → ℕ → List ℕ
script_line_of name answer events samples =
    cond (is_ok answer)
    (name ++ ascii ": done, " ++ counts_of events samples ++ ascii "\n")
    (name ++ ascii ": stopped after " ++ counts_of events samples ++ ascii ": " ++ refusal_of answer ++ ascii "\n")
