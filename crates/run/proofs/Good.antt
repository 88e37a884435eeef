-- What every event leaves: a valid state whose controls are not refused.
use mathlib.Core.Path.{◌≡◌, refl, ap}
use mathlib.Core.Bool.{Bool, true, false, cond}
use mathlib.Core.List.{List, [], ◌∷◌}
use Rattle.control.specs.declared.State.{State}
use Rattle.control.specs.Block.{valid_of}
use Rattle.controls.specs.Judging.{judge_controls_of}
use Rattle.script.specs.declared.Event.{Event}
use Rattle.filter.specs.Lent.{Lent}
use Rattle.filter.specs.Core.{core_of}
use Rattle.filter.specs.Plain.{Plain, plain_step}
use Rattle.filter.proofs.Demand3.{event_steps}
use Rattle.run.specs.Run.{Ran, stopped, went, play_of}
use Rattle.answers.specs.Answers.{done}
use Rattle.std.specs.Prelude.{is_ok}

pub record Good (lent : Lent) (s : State) : Type 0 where
  pub valid : valid_of s ≡ true
  pub judged : judge_controls_of lent.bundle s ≡ done

module _ (lent : Lent) where
  pub good_step : (s : State) (e : Event) → Good lent s → Good lent (plain_step lent s e).state
  good_step s e g =
      let st = event_steps lent (core_of lent s) e (record { valid = g.valid; fresh = refl; judged = g.judged }) in
      rw (← ap (λ (p : Plain). p.state) st.0) (record { valid = st.1.valid; judged = st.1.judged })

  pub good_play : (s : State) (es : List Event) → Good lent s → Good lent (play_of lent s es).state
  unfolding play_of
  good_play s [] g = g
  good_play s (e ∷ es) g =
      let p = plain_step lent s e in
      go (is_ok p.answer) p (play_of lent p.state es) (good_play p.state es (good_step s e g))
    where
      go : (d : Bool) (p : Plain) (r : Ran) → Good lent r.state → Good lent (cond d (went p r) (stopped p.answer s)).state
      go true p r h = h
      go false p r h = g
