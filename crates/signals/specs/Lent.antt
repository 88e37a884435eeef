-- What `collect` is lent (docs/FORMATS.md): 36 bytes of voices, and 24 bytes of numbers, the external input's three levels and the blends of three saws.
use Rattle.std.specs.Prelude.{ℕ, ◌+◌, Bool, ◌&&◌, List, eqb, length}
use Rattle.wire.specs.Wire.{f32_at, finite_at}
use Rattle.voice.specs.Voice.{voice_at, valid_voice_at}
use Rattle.signals.specs.declared.Voices.{Voices}
use Rattle.transients.specs.declared.SawBlends.{SawBlends}
use Rattle.signals.specs.declared.ExternalInputState.{ExternalInputState}

-- Voices 1, 2 and 3, one after another.
unfoldable pub voices_of : List ℕ → Voices
voices_of s = record { one = voice_at s 0; two = voice_at s 12; three = voice_at s 24 }

unfoldable pub valid_voices_of : List ℕ → Bool
valid_voices_of s = eqb (length s) 36 && (valid_voice_at s 0 && valid_voice_at s 12 && valid_voice_at s 24)

-- The raw level, the filter's and the mixer's.
unfoldable pub external_of : List ℕ → ExternalInputState
external_of s = record { raw = f32_at s 0; filter_signal = f32_at s 4; mixer_signal = f32_at s 8 }

-- Behind them the blends of voices 1, 2 and 3.
unfoldable pub blends_of : List ℕ → SawBlends
blends_of s = record { one = f32_at s 12; two = f32_at s 16; three = f32_at s 20 }

-- The three floats from p on are finite.
unfoldable pub finite_three_at : List ℕ → ℕ → Bool
finite_three_at s p = finite_at s p && finite_at s (p + 4) && finite_at s (p + 8)

unfoldable pub finite_numbers_of : List ℕ → Bool
finite_numbers_of s = eqb (length s) 24 && (finite_three_at s 0 && finite_three_at s 12)
