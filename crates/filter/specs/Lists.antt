-- A list of events through the core's calls, each given the core that the last one handed back.
use Rattle.std.specs.Prelude.{◌≡◌, Bool, true, false, cond, ◌&&◌, List, [], ◌∷◌, is_ok}
use Rattle.std.specs.Prelude.{Result, Ok, Option, Some, None}
use Rattle.std.specs.Result.{result_and}
use Rattle.answers.specs.declared.Refusal.{Refusal}
use Rattle.sample.specs.declared.Outputs.{Outputs}
use Rattle.script.specs.declared.Event.{Event}
use Rattle.script.specs.declared.Event.TheVariants.{CutoffLow, CutoffHigh, Routing, Mode, Sample, Reset}
use Rattle.filter.specs.declared.Core.{Core}
use Rattle.filter.specs.Lent.{Lent}
use Rattle.filter.specs.Core.{Fed, core_of, feed_of}
use Rattle.filter.specs.Plain.{Plain}

-- What the calls answer, from the first to the last: `feed_of` is what `Core::feed` is proved to give.
unfoldable pub core_trace : Lent → Core → List Event → List Fed
core_trace l k [] = []
core_trace l k (e ∷ es) = feed_of l k e ∷ core_trace l (feed_of l k e).core es

-- Its outcome without what is kept: the answer, the sample if one was taken, the state.
abbrev pub is_sample : Event → Bool
is_sample (CutoffLow value) = false
is_sample (CutoffHigh value) = false
is_sample (Routing value) = false
is_sample (Mode value) = false
is_sample (Sample sum energy) = true
is_sample Reset = false

-- What `Core::feed` answers, beside the core after it: the outputs of a sample.
abbrev pub told_of : Event → Fed → Result (Option Outputs) Refusal
told_of e r = result_and r.answer (Ok (cond (is_sample e) (Some r.outputs) None))

abbrev pub shown : Event → Fed → Plain
shown e r = record { answer = r.answer; sample = cond (is_sample e && is_ok r.answer) (r.outputs ∷ []) []; state = r.core.state }

unfoldable pub shown_all : List Event → List Fed → List Plain
shown_all [] rs = []
shown_all (e ∷ es) [] = []
shown_all (e ∷ es) (r ∷ rs) = shown e r ∷ shown_all es rs

-- All that is kept is as worked out afresh from the state.
abbrev pub Fresh : Lent → Core → Type 0
Fresh l k = k ≡ core_of l k.state

abbrev pub AllFresh : Lent → List Fed → Type 0
AllFresh l [] = Unit {0}
AllFresh l (r ∷ rs) = Fresh l r.core × AllFresh l rs
