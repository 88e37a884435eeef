-- A song run in pieces: each piece is a script of its own and goes on from the block that the last one left, and after a stop no later piece is run.
use Rattle.std.specs.Prelude.{ℕ, ◌+◌, ◌*◌, ◌≤◌, ◌≡◌, true, cond, List, [], ◌∷◌, ◌++◌, length, take, is_ok}
use Rattle.control.specs.declared.State.{State}
use Rattle.control.specs.Block.{block_of}
use Rattle.script.specs.declared.Event.{Event}
use Rattle.script.specs.Script.{well_formed, events_of, samples_of}
use Rattle.filter.specs.Lent.{Lent}
use Rattle.filter.specs.Plain.{plain_start}
use Rattle.run.specs.Run.{Ran, stopped, play_of, sample_bytes, Run, run_of}
use Rattle.answers.specs.Answers.{Answer}

-- A piece: its script, and the output that is lent to its run.
pub record Piece : Type 0 where
  pub script : List ℕ
  pub output : List ℕ

-- the events of one piece after another
abbrev pub events_of_all : Piece → List Piece → List Event
events_of_all p [] = events_of p.script
events_of_all p (q ∷ rest) = events_of p.script ++ events_of_all q rest

-- the table has no 7 for it, and its output has room for its samples: no 8
abbrev pub Ready : Piece → Type 0
Ready p = (well_formed p.script ≡ true) × (16 * samples_of (events_of p.script) ≤ length p.output)

abbrev pub AllReady : Piece → List Piece → Type 0
AllReady p [] = Ready p
AllReady p (q ∷ rest) = Ready p × AllReady q rest

-- What a run tells: events done and samples written, the samples' bytes, the block that it left, and how it ended.
pub record Told : Type 0 where
  pub answer : Answer
  pub events : ℕ
  pub samples : ℕ
  pub bytes : List ℕ
  pub block : List ℕ

abbrev pub told : Run → Told
told r = record { answer = r.answer; events = r.events; samples = r.samples; bytes = take (16 * r.samples) r.output; block = r.state }

-- of the events that were done
abbrev pub told_ran : Ran → Told
told_ran r = record { answer = r.answer; events = r.events; samples = length r.samples; bytes = sample_bytes r.samples; block = block_of r.state }

-- pieces add events and samples up and join the bytes; the rest is the last run piece's
abbrev pub join_told : Told → Told → Told
join_told a b = record { answer = b.answer; events = a.events + b.events; samples = a.samples + b.samples; bytes = a.bytes ++ b.bytes; block = b.block }

unfoldable pub pieces_of : Lent → List ℕ → Piece → List Piece → Told
pieces_of lent block p [] = told (run_of lent block p.script p.output)
pieces_of lent block p (q ∷ rest) =
    let r = run_of lent block p.script p.output in
    cond (is_ok r.answer) (join_told (told r) (pieces_of lent r.state q rest)) (told r)

-- The plain machine beside a run: a refused start is a stop before the first event.
unfoldable pub plain_told : Lent → State → List Event → Told
plain_told lent s es =
    let started = plain_start lent s in
    told_ran (cond (is_ok started) (play_of lent s es) (stopped started s))
