-- A voice in lent bytes (docs/FORMATS.md), 12 of them: f32 waveform and envelope; a byte each: selection, combined, frozen, zero.
use Rattle.std.specs.Prelude.{ℕ, ◌+◌, Bool, ◌&&◌, List, leb, eqb}
use Rattle.wire.specs.Wire.{byte_at, f32_at, finite_at}
use Rattle.voice.specs.declared.VoiceSignal.{VoiceSignal}

-- The voice whose bytes begin at p.
unfoldable pub voice_at : List ℕ → ℕ → VoiceSignal
voice_at s p =
    record {
      waveform = f32_at s p;
      envelope = f32_at s (p + 4);
      waveform_selection = byte_at s (p + 8);
      combined = eqb (byte_at s (p + 9)) 1;
      frozen = eqb (byte_at s (p + 10)) 1;
    }

-- The two floats are finite, the selection is one of the sixteen, the flags are 0 or 1, the last byte is zero.
unfoldable pub valid_voice_at : List ℕ → ℕ → Bool
valid_voice_at s p =
    (finite_at s p && finite_at s (p + 4))
    && (leb (byte_at s (p + 8)) 15 && leb (byte_at s (p + 9)) 1 && leb (byte_at s (p + 10)) 1 && eqb (byte_at s (p + 11)) 0)
