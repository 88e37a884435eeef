-- The activity of the pure voices is an f32 whatever the sources are: it starts from 0.0, and every sum is one (`pure_fits`). Assumes nothing.
use mathlib.Core.Bool.{Bool, true, false, cond}
use lib.Dec.{T}
use lib.ListN.{get_or}
use lib.Ieee.{Float, binary32, eq, fits}
use lib.Ieee.Bits.{of_bits-fits}
use lib.Ieee.Fits.{add-fits}
use Rattle.floats.specs.Arithmetic.{f32}
use Rattle.mixing.specs.declared.MixingTopology.{MixingTopology}
use Rattle.voice.specs.declared.VoiceSignal.{VoiceSignal}
use Rattle.transients.specs.declared.SawBlends.{SawBlends}
use Rattle.signals.specs.declared.RoutedSignals.{RoutedSignals}
use Rattle.signals.specs.declared.Voices.{Voices}
use Rattle.signals.specs.declared.ExternalInputState.{ExternalInputState}
use Rattle.signals.specs.Signals as S
use Rattle.signals.proofs.Masks.{masked_each}

-- Of the eight sums, the one that is told here.
record PureFits (s : RoutedSignals) : Type 0 where
  pub pure : T (fits binary32 s.pure_bypass_envelope_activity)

-- Of two, whichever a test takes.
if_fits : (b : Bool) {s t : RoutedSignals} → PureFits s → PureFits t → PureFits (cond b s t)
if_fits true p q = p
if_fits false p q = q

-- A voice into the filter leaves it as it is.
filter_voice_fits : (v : VoiceSignal) (resting : Float) (s : RoutedSignals) → PureFits s → PureFits (S.add_filter_voice_of s v resting)
unfolding S.add_filter_voice_of
filter_voice_fits v resting s k = record { pure = k.pure }

-- A voice beside the filter leaves it, or is pure and adds its envelope.
bypass_voice_fits : (v : VoiceSignal) (blend resting : Float) (s : RoutedSignals) → PureFits s → PureFits (S.add_bypass_voice_of s v blend resting)
unfolding S.add_bypass_voice_of S.add_pure_voice_of
bypass_voice_fits v blend resting s k =
    if_fits (eq v.envelope (f32 0)) (record { pure = k.pure }) (if_fits (S.is_pure_of v) (record { pure = add-fits binary32 _ _ }) (record { pure = k.pure }))

module _ (t : MixingTopology) (voices : Voices) (blends : SawBlends) (x : ExternalInputState) (resting : Float) where
  -- The external input leaves it too.
  collect_fits : PureFits (S.collect_of t voices blends x resting)
  unfolding S.collect_of S.add_voices_of S.add_external_of
  collect_fits =
      let filtered =
      masked_each PureFits t.filter_internal_mask
      (filter_voice_fits voices.one resting)
      (filter_voice_fits voices.two resting)
      (filter_voice_fits voices.three resting)
      S.silent_of (record { pure = of_bits-fits binary32 0 })
      in
      let voiced =
      masked_each PureFits t.bypass_internal_mask
      (bypass_voice_fits voices.one blends.one resting)
      (bypass_voice_fits voices.two blends.two resting)
      (bypass_voice_fits voices.three blends.three resting)
      _ filtered
      in
      let routed = if_fits (get_or t.filter_membership 3 false) (record { pure = voiced.pure }) voiced in
      if_fits (get_or t.bypass_membership 3 false) (record { pure = routed.pure }) routed

  -- So it is one in what a collecting gives.
  pub pure_fits : T (fits binary32 (S.collect_of t voices blends x resting).pure_bypass_envelope_activity)
  pure_fits = collect_fits.pure
