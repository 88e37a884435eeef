-- What the last arm of a `match` over the numbers from 0 on knows.
use Prim.Native.Nat.{ℕ, zero, suc, ◌≤◌}
use native.Mathlib.Omega.{arith}
use Rattle.constants.specs.Tables.{NoneOf}

pub none_of_past : (n i : ℕ) → NoneOf n i → n ≤ i
none_of_past zero i w = omega arith
none_of_past (suc n) i w =
    let before = none_of_past n i w.0 in
    omega (arith, before, w.1)
