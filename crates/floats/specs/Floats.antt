-- Rust's operations on floats that Rattle lacks, as functions on IEEE values, for every input. The kit's own symbols say the rest:
-- `finite` is Rust's is_finite, `to_unsigned 64` its `as usize`, `to_signed 15` its `as i16`, and `of_int` its `as f32` of an integer.
use Rattle.std.specs.Prelude.{ℕ, ◌+◌, ◌*◌, ◌/◌, min, Bool, false, cond, ◌&&◌, pos, Float}
use Rattle.std.specs.Float.{nan, inf, fin, Format, binary32}
use Rattle.std.specs.Float.Ieee.{fits, up, down, lt, round, of_int}
use Rattle.std.specs.Float.Ieee.Scale.{finite}

-- x.abs(): the sign bit cleared
unfoldable pub abs_of : Float → Float
abs_of nan = nan
abs_of (inf s) = inf false
abs_of (fin s m e) = fin false m e

-- x.clamp(lo, hi): a value below lo gives lo, one above hi gives hi, and any other itself, so that -0.0 and a NaN pass
abbrev pub clamp_of : Float → Float → Float → Float
clamp_of x lo hi = cond (lt x lo) lo (cond (lt hi x) hi x)

-- x.round(): the nearest whole number, away from zero where two are as near. The sign stays, a zero's too.
unfoldable pub round_of : Format → Float → Float
round_of f nan = nan
round_of f (inf s) = inf s
round_of f (fin s m e) = round f s ((2 * (m * up e) + down e) / (2 * down e)) 1

-- x as f32, of an f64: the nearest f32, and the even one where two are as near
unfoldable pub narrow_of : Float → Float
narrow_of nan = nan
narrow_of (inf s) = inf s
narrow_of (fin s m e) = round binary32 s (m * up e) (down e)

-- A finite f32. Each f32 of the code fits binary32; a number of the logic need not.
unfoldable pub finite_f32_of : Float → Bool
finite_f32_of x = fits binary32 x && finite x

-- n as f32 where n is at most 2^24, up to which every whole number is an f32; a larger n counts as 2^24
abbrev pub of_small : ℕ → Float
of_small n = of_int binary32 (pos (min n 16777216))
