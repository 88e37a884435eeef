-- A routed voice at envelope 0, of either sign, adds the resting level to its sum and changes no bit of any other. Beside the filter the Rust has a way of its own for
-- it (`beside-at-zero`). Into the filter it adds an energy of 0.0 and the envelope too: neither sum is ever -0.0, so that this changes no bit (`filter-at-zero`).
-- `zero-envelope` says it of the whole of `collect`, and `zero-envelope-lent` of any lent bytes. Assumes nothing.
use mathlib.Core.Path.{◌≡◌, refl, ap, ◌∙◌}
use mathlib.Core.Bool.{Bool, true, false, cond}
use mathlib.Core.List.{List}
use Prim.Native.Nat.{ℕ}
use lib.Dec.{T}
use lib.Ieee.{Float, binary32, eq, fits}
use lib.Ieee.Bits.{of_bits-fits}
use Rattle.floats.specs.Arithmetic.{◌⊕◌, f32}
use Rattle.floats.proofs.Values.{equal_zero}
use Rattle.floats.proofs.Signs.{Summed, zero_summed, add_summed, summed_nothing, bits_zero}
use Rattle.mixing.specs.declared.MixingTopology.{MixingTopology}
use Rattle.mixing.specs.Topology.{topology_of}
use Rattle.voice.specs.declared.VoiceSignal.{VoiceSignal}
use Rattle.voice.specs.Levels.{source_resting_of}
use Rattle.signals.specs.declared.RoutedSignals.{RoutedSignals}
use Rattle.signals.specs.declared.Voices.{Voices}
use Rattle.transients.specs.declared.SawBlends.{SawBlends}
use Rattle.signals.specs.declared.ExternalInputState.{ExternalInputState}
use Rattle.signals.specs.Signals.{silent_of, with_filter, with_bypass, filter_voice_contribution_of, add_filter_voice_of, add_bypass_voice_of, masked_of, add_filter_voices_of, add_bypass_voices_of, add_voices_of, add_external_of, collect_of}
use Rattle.signals.specs.Lent.{voices_of, external_of, blends_of}
use Rattle.signals.specs.Collecting.{signals_of}
use Rattle.signals.proofs.Masks.{masked_keeps}
use Rattle.signals.proofs.Summed.{energy_fits, Envelopes, lent_envelopes}

-- ---- beside the filter

pub beside_at_zero : (s : RoutedSignals) (v : VoiceSignal) (blend resting : Float) → eq v.envelope (f32 0) ≡ true
    → add_bypass_voice_of s v blend resting ≡ with_bypass s (s.bypass_input_sum ⊕ resting) s.bypass_envelope_activity
unfolding add_bypass_voice_of
beside_at_zero s v blend resting h = rw h refl

-- ---- into the filter

-- a voice at envelope 0 adds the resting level and nothing else, any other what `add_filter_voice` adds
abbrev pub quiet_filter_voice_of : RoutedSignals → VoiceSignal → Float → RoutedSignals
quiet_filter_voice_of s v resting =
    cond (eq v.envelope (f32 0))
    (with_filter s (s.filter_input_sum ⊕ resting) s.filter_source_energy s.filter_input_activity)
    (add_filter_voice_of s v resting)

-- energy and activity are summed up from 0.0
record Filtered (s : RoutedSignals) : Type 0 where
  energy : Summed binary32 s.filter_source_energy
  activity : Summed binary32 s.filter_input_activity

silent_filtered : Filtered silent_of
silent_filtered = record { energy = zero_summed binary32; activity = zero_summed binary32 }

module _ (v : VoiceSignal) (resting : Float) (h : T (fits binary32 v.envelope)) where
  voice_filtered : {s : RoutedSignals} → Filtered s → Filtered (add_filter_voice_of s v resting)
  unfolding add_filter_voice_of
  voice_filtered k = record { energy = add_summed binary32 _ k.energy (energy_fits v resting); activity = add_summed binary32 _ k.activity h }

  filter_at_zero : {s : RoutedSignals} → Filtered s → add_filter_voice_of s v resting ≡ quiet_filter_voice_of s v resting
  unfolding add_filter_voice_of filter_voice_contribution_of
  filter_at_zero {s} k = go (eq v.envelope (f32 0)) refl
    where
      go : (b : Bool) → eq v.envelope (f32 0) ≡ b → add_filter_voice_of s v resting ≡ quiet_filter_voice_of s v resting
      go true e =
          rw (
            e,
            summed_nothing binary32 k.energy (of_bits-fits binary32 0) (bits_zero binary32),
            summed_nothing binary32 k.activity h (equal_zero binary32 v.envelope e),
          )
      go false e = rw e

  -- side by side: the sums so far are the same
  side_by_side : (s s' : RoutedSignals) → Filtered s × (s ≡ s') → Filtered (add_filter_voice_of s v resting) × (add_filter_voice_of s v resting ≡ quiet_filter_voice_of s' v resting)
  side_by_side s s' k = (voice_filtered k.0, filter_at_zero k.0 ∙ ap (λ (s : RoutedSignals). quiet_filter_voice_of s v resting) k.1)

-- ---- all of them

abbrev pub quiet_filter_voices_of : ℕ → Voices → Float → RoutedSignals → RoutedSignals
quiet_filter_voices_of mask voices resting s =
    masked_of
    (λ (s : RoutedSignals). quiet_filter_voice_of s voices.one resting)
    (λ (s : RoutedSignals). quiet_filter_voice_of s voices.two resting)
    (λ (s : RoutedSignals). quiet_filter_voice_of s voices.three resting)
    mask s

voices_at_zero : (mask : ℕ) (voices : Voices) (resting : Float) → Envelopes voices → add_filter_voices_of mask voices resting silent_of ≡ quiet_filter_voices_of mask voices resting silent_of
voices_at_zero mask voices resting h =
    (masked_keeps (λ (s s' : RoutedSignals). Filtered s × (s ≡ s')) mask
    (side_by_side voices.one resting h.one) (side_by_side voices.two resting h.two) (side_by_side voices.three resting h.three)
    silent_of silent_of (silent_filtered, refl)
    ).1

-- `collect` with such a way for envelope 0
abbrev pub quiet_collect_of : MixingTopology → Voices → SawBlends → ExternalInputState → Float → RoutedSignals
quiet_collect_of t voices blends x resting =
    add_external_of t x resting
    (add_bypass_voices_of t.bypass_internal_mask voices blends resting (quiet_filter_voices_of t.filter_internal_mask voices resting silent_of))

-- is the Rust's `collect`.
pub zero_envelope : (t : MixingTopology) (voices : Voices) (blends : SawBlends) (x : ExternalInputState) (resting : Float) → Envelopes voices
    → collect_of t voices blends x resting ≡ quiet_collect_of t voices blends x resting
unfolding collect_of add_voices_of
zero_envelope t voices blends x resting h =
    ap (λ (s : RoutedSignals). add_external_of t x resting (add_bypass_voices_of t.bypass_internal_mask voices blends resting s))
    (voices_at_zero t.filter_internal_mask voices resting h)

-- Of the sums of any lent bytes.
pub zero_envelope_lent : (routing mode : ℕ) (voices numbers : List ℕ)
    → signals_of routing mode voices numbers ≡ quiet_collect_of (topology_of routing mode) (voices_of voices) (blends_of numbers) (external_of numbers) source_resting_of
unfolding signals_of
zero_envelope_lent routing mode voices numbers = zero_envelope (topology_of routing mode) (voices_of voices) (blends_of numbers) (external_of numbers) source_resting_of (lent_envelopes voices)
