-- Text in a buffer: a number in decimal, and a buffer with text from a place on.
use Rattle.std.specs.Prelude.{ℕ, zero, suc, ◌+◌, ◌/◌, ◌%◌, min, cond, List, [], ◌∷◌, ◌++◌, ltb, length, take, drop}
use Rattle.io.specs.Digits.{hex_digit_ascii}

-- The digits of a number of at most k digits, with none in front that is not needed.
unfoldable pub decimal_in : ℕ → ℕ → List ℕ
decimal_in zero n = []
decimal_in (suc k) n = cond (ltb n 10) (hex_digit_ascii n ∷ []) (decimal_in k (n / 10) ++ (hex_digit_ascii (n % 10) ∷ []))

-- A number of 64 bits has at most 20 digits.
unfoldable pub decimal_of : ℕ → List ℕ
decimal_of n = decimal_in 20 n

-- The buffer with text from a place on, as far as it goes: what stood before the place, the text, and what stood after it.
unfoldable pub grown : List ℕ → ℕ → List ℕ → List ℕ
grown out at text = take (length out) (take at out ++ text ++ drop (at + length text) out)

-- Where the text ends.
unfoldable pub grown_end : List ℕ → ℕ → List ℕ → ℕ
grown_end out at text = min (at + length text) (length out)
