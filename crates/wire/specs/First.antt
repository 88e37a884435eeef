-- The first of a run of numbers at which a test fails, whether it holds at each, and the first unusable entry of a run of entries.
use Rattle.std.specs.Prelude.{ℕ, zero, suc, ◌+◌, ◌*◌, Bool, true, cond, ◌&&◌, List}
use Rattle.wire.specs.Wire.{usable_at}

-- The first of the n numbers from i on at which ok is false, and i + n where there is none.
unfoldable pub first : (ℕ → Bool) → ℕ → ℕ → ℕ
first ok zero i = i
first ok (suc n) i = cond (ok i) (first ok n (suc i)) i

-- The test holds at each of the first n numbers.
unfoldable pub every : (ℕ → Bool) → ℕ → Bool
every ok zero = true
every ok (suc n) = every ok n && ok n

-- Entry i of those that begin at the byte from is usable. One that does not lie whole in the list reads as 0, and is.
unfoldable pub usable_entry : List ℕ → ℕ → ℕ → Bool
usable_entry s from i = usable_at s (from + 4 * i)

-- The index of the first unusable one of count entries, and count where each is usable.
abbrev pub first_unusable_of : List ℕ → ℕ → ℕ → ℕ
first_unusable_of s from count = first (usable_entry s from) count 0
