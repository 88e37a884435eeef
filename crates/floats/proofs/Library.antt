-- The library's words for what its methods give are those of this crate: at a NaN, an infinity and a number alike. Assumes nothing.
use Rattle.std.proofs.Common.{◌≡◌, true, false, refl}
use lib.Ieee.{Float, nan, inf, fin, Format, binary32}
use Rattle.std.specs.Float.{float_round, round_with, round_to_format}
use Rattle.floats.specs.Floats.{round_of, narrow_of}

pub round_lem : (f : Format) (x : Float) → float_round f x ≡ round_of f x
unfolding round_with round_of
round_lem f nan = refl
round_lem f (inf s) = refl
round_lem f (fin true m e) = refl
round_lem f (fin false m e) = refl

pub narrow_lem : (x : Float) → round_to_format binary32 x ≡ narrow_of x
unfolding round_to_format narrow_of
narrow_lem nan = refl
narrow_lem (inf s) = refl
narrow_lem (fin s m e) = refl
