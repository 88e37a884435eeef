-- Bits of a register's nibble.
use Rattle.std.specs.Prelude.{ℕ, ◌/◌, ◌%◌, ◌^◌, Bool, eqb}

-- bit i of n is set
abbrev pub bit : ℕ → ℕ → Bool
bit n i = eqb (n / 2 ^ i % 2) 1
