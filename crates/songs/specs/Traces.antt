-- What a list of events gives up to its first refusal, as a run has it.
use Rattle.std.specs.Prelude.{cond, List, [], ◌∷◌, is_ok}
use Rattle.control.specs.declared.State.{State}
use Rattle.script.specs.declared.Event.{Event}
use Rattle.filter.specs.Lent.{Lent}
use Rattle.filter.specs.Plain.{Plain}
use Rattle.filter.specs.Core.{core_start_of}
use Rattle.filter.specs.Lists.{core_trace, shown_all}
use Rattle.run.specs.Run.{Ran, stopped, went}
use Rattle.answers.specs.Answers.{done}

unfoldable pub up_to_refusal : State → List Plain → Ran
up_to_refusal s [] = stopped done s
up_to_refusal s (p ∷ ps) = cond (is_ok p.answer) (went p (up_to_refusal p.state ps)) (stopped p.answer s)

-- the core's list from its start on
abbrev pub core_ran : Lent → State → List Event → Ran
core_ran lent s es =
    let started = core_start_of lent s in
    cond (is_ok started.answer) (up_to_refusal s (shown_all es (core_trace lent started.core es))) (stopped started.answer s)
