-- What the core's methods put together. Assumes nothing.
use Prim.Native.Nat.{ℕ}
use mathlib.Core.Path.{◌≡◌, refl}
use mathlib.Core.List.{List}
use Rattle.script.specs.declared.Event.{Event}
use Rattle.script.specs.declared.Event.TheVariants.{CutoffLow, CutoffHigh, Routing, Mode, Sample, Reset}
use Rattle.filter.specs.declared.Core.{Core}
use Rattle.filter.specs.Lent.{lent_of, lent_all}
use Rattle.filter.specs.Core.{take_of, feed_event_of}

-- No event reads the decays.
pub decays_unread : (bundle curves decays : List ℕ) (k : Core) (e : Event) → feed_event_of (lent_of bundle curves) k e ≡ feed_event_of (lent_all bundle curves decays) k e
unfolding take_of
decays_unread bundle curves decays k (CutoffLow v) = refl
decays_unread bundle curves decays k (CutoffHigh v) = refl
decays_unread bundle curves decays k (Routing v) = refl
decays_unread bundle curves decays k (Mode v) = refl
decays_unread bundle curves decays k (Sample sum energy) = refl
decays_unread bundle curves decays k Reset = refl
