-- No state has more than seven mixer inputs, and neither has any core of a list; a core that is handed in with more is refused with 10. Assumes nothing.
use Prim.Native.Nat.{ℕ, ◌<◌, ◌≤◌}
use mathlib.Core.Path.{◌≡◌, refl, sym, ap, subst}
use mathlib.Core.Bool.{and-false}
use mathlib.Core.List.{List, [], ◌∷◌}
use borrow.Author.Tests.{lt-leb}
use Rattle.answers.specs.declared.Refusal.TheVariants.{Argument}
use Rattle.mixing.specs.Topology.{topology_of}
use Rattle.mixing.proofs.Facts.{mixer_most}
use Rattle.bundle.specs.Opening.{check_of}
use Rattle.control.specs.declared.State.{State}
use Rattle.script.specs.declared.Event.{Event}
use Rattle.filter.specs.declared.Core.{Core}
use Rattle.filter.specs.Core.{Written}
use Rattle.filter.specs.Core.{Fed}
use Rattle.filter.specs.Lent.{Lent, judge_lent_of}
use Rattle.filter.specs.Core.{fresh_topology_of, judge_core_of, quiet_of, core_start_of, core_write_of, feed_of}
use Rattle.filter.specs.Plain.{plain_start}
use Rattle.filter.specs.Lists.{core_trace, AllFresh}
use Rattle.filter.proofs.Demand3.{demand_3}
use Rattle.answers.specs.Answers.{done}
use Rattle.std.specs.Prelude.{Err}

abbrev pub inputs_of : Core → ℕ
inputs_of k = k.topology.mixer_input_count

-- ---- what a state gives: of every state, and so of every valid one

pub state_most : (s : State) → (fresh_topology_of s).mixer_input_count ≤ 7
unfolding topology_of
state_most s = mixer_most s.registers.routing s.registers.mode

abbrev pub AllMost : List Fed → Type 0
AllMost [] = Unit {0}
AllMost (r ∷ rs) = (inputs_of r.core ≤ 7) × AllMost rs

fresh_most : (l : Lent) (rs : List Fed) → AllFresh l rs → AllMost rs
fresh_most l [] h = tt
fresh_most l (r ∷ rs) h = (subst (λ (n : ℕ). n ≤ 7) (sym (ap inputs_of h.0)) (state_most r.core.state), fresh_most l rs h.1)

-- after each event of any list
pub list_most : (l : Lent) (s : State) (es : List Event) → plain_start l s ≡ done → AllMost (core_trace l (core_start_of l s).core es)
list_most l s es started = fresh_most l (core_trace l (core_start_of l s).core es) ((demand_3 l s es).fresh started)

-- ---- what is handed in: 10, whatever the event, and the core is handed back

module _ (k : Core) (above : 7 < inputs_of k) where
  judged_above : judge_core_of k ≡ Err Argument
  unfolding judge_core_of
  judged_above = simp (lt-leb (inputs_of k) 7 above, and-false)

  pub feed_above : (l : Lent) (e : Event) → judge_lent_of l ≡ done → feed_of l k e ≡ quiet_of (record { answer = Err Argument; core = k })
  unfolding feed_of
  feed_above l e ready = rw (ready, judged_above) refl

  pub write_above : (bundle : List ℕ) (e : Event) → check_of bundle ≡ done → ◌≡◌ {A = Written} (core_write_of bundle k e) (record { answer = Err Argument; core = k })
  unfolding core_write_of
  write_above bundle e opened = rw (opened, judged_above) refl
