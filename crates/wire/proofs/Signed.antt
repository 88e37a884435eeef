-- Signed numbers of 16 bits in bytes, there and back.
use Prim.Native.Nat.{ℕ, ◌+◌, ◌≤◌}
use mathlib.Core.Path.{◌≡◌}
use mathlib.Core.List.{List}
use lib.ListN.{length, take, drop}
use mir.Syntax.{w16}
use mir.Val.{of_z}
use mir.ValLaws.{of_z-to_z}
use Rattle.wire.specs.Wire.{Bytes, u16_at, i16_at, bytes_of}
use Rattle.wire.proofs.Laws.{number_at-lt, bytes_of-number_at}

module _ (s : List ℕ) (p : ℕ) (b : Bytes s) where
  pub of_z-i16_at : of_z w16 (i16_at s p) ≡ u16_at s p
  unfolding i16_at
  of_z-i16_at = of_z-to_z w16 (u16_at s p) (record { fits = number_at-lt 2 s p b })

  pub bytes_of-i16_at : p + 2 ≤ length s → bytes_of 2 (of_z w16 (i16_at s p)) ≡ take 2 (drop p s)
  bytes_of-i16_at l = rw of_z-i16_at (bytes_of-number_at 2 s p l b)
