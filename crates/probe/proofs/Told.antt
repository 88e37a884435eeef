-- What `Core::feed` answers is the whole of an event's answer and outputs: zeros stand for any that it does not name.
use Rattle.std.specs.Prelude.{◌≡◌, refl, Bool, true, false, cond, Result, Ok, Err, Option, Some, None}
use Rattle.std.specs.Option.{unwrap_or}
use Rattle.std.specs.Result.{result_and, result_unwrap_or}
use Rattle.answers.specs.declared.Refusal.{Refusal}
use Rattle.answers.specs.Answers.{Answer, answer_of}
use Rattle.sample.specs.declared.Outputs.{Outputs}
use Rattle.sample.specs.declared.Sampled.{Sampled}
use Rattle.sample.specs.Sample.{summer_slot_of, filter_sample_of}
use Rattle.script.specs.declared.Event.{Event}
use Rattle.script.specs.declared.Event.TheVariants.{CutoffLow, CutoffHigh, Routing, Mode, Sample, Reset}
use Rattle.filter.specs.declared.Core.{Core}
use Rattle.filter.specs.Core.{Fed, no_outputs, after_of, take_of, feed_event_of, feed_of, judge_feed_of}
use Rattle.filter.specs.Lent.{Lent}
use Rattle.filter.specs.Lists.{is_sample, told_of}
use Rattle.probe.specs.Cores.{given_of, given_with, fed_at_of, told_at_of}

-- the answer
answer_told : (e : Event) (f : Fed) → answer_of (told_of e f) ≡ f.answer
answer_told e f = go f.answer (cond (is_sample e) (Some f.outputs) None)
  where
    go : (a : Answer) (told : Option Outputs) → answer_of (result_and a (Ok told)) ≡ a
    go (Ok _) told = refl
    go (Err refusal) told = refl

-- the outputs
abbrev Shown : Event → Fed → Type 0
Shown e f = unwrap_or (result_unwrap_or (told_of e f) None) no_outputs ≡ f.outputs

quiet : (b : Bool) (a : Answer) → unwrap_or (result_unwrap_or (result_and a (Ok (cond b (Some no_outputs) None))) None) no_outputs ≡ no_outputs
quiet true (Ok _) = refl
quiet false (Ok _) = refl
quiet b (Err refusal) = refl

sampled : (k : Core) (s : Result Sampled Refusal) → unwrap_or (result_unwrap_or (result_and (after_of k s).answer (Ok (Some (after_of k s).outputs))) None) no_outputs ≡ (after_of k s).outputs
sampled k (Ok s) = refl
sampled k (Err refusal) = refl

event_shown : (l : Lent) (k : Core) (e : Event) → Shown e (feed_event_of l k e)
unfolding take_of
event_shown l k (CutoffLow value) = quiet false _
event_shown l k (CutoffHigh value) = quiet false _
event_shown l k (Routing value) = quiet false _
event_shown l k (Mode value) = quiet false _
event_shown l k (Sample sum energy) = sampled k (filter_sample_of l.bundle l.curves (summer_slot_of k.topology) k.topology k.controls k.state.registers.mode k.state.integrator sum energy)
event_shown l k Reset = quiet false _

either : (e : Event) (b : Bool) (x y : Fed) → Shown e x → Shown e y → Shown e (cond b x y)
either e true x y shown other = shown
either e false x y shown other = other

shown : (l : Lent) (k : Core) (e : Event) → Shown e (feed_of l k e)
unfolding feed_of
shown l k e = either e _ _ _ (event_shown l k e) (quiet (is_sample e) (judge_feed_of l k))

-- both, with the core
pub given_fed : (l : Lent) (k : Core) (d : Option Event) → given_with (told_at_of l k d) (fed_at_of l k d).core ≡ given_of (fed_at_of l k d)
given_fed l k None = refl
given_fed l k (Some e) = simp (answer_told e (feed_of l k e), shown l k e)
