-- The line of a routing and a mode nibble, in ASCII: `filter 1010 bypass 0101 counts 2 2 1 3` and a line end.
use Rattle.std.specs.Prelude.{ℕ, ◌+◌, Bool, List, ◌∷◌, ◌++◌, map}
use Rattle.wire.specs.Text.{ascii}
use Rattle.mixing.specs.Topology.{one, flags_of, filtered_of, bypassed_of, filter_count_of, bypass_count_of, output_count_of, mixer_count_of}

abbrev pub digit : ℕ → ℕ
digit n = 48 + n

abbrev pub flag : Bool → ℕ
flag b = digit (one b)

unfoldable pub line_of : ℕ → ℕ → List ℕ
line_of routing mode =
    ascii "filter " ++ map flag (flags_of (filtered_of routing))
    ++ ascii " bypass " ++ map flag (flags_of (bypassed_of routing mode))
    ++ ascii " counts "
    ++ (digit (filter_count_of routing) ∷ ascii " ")
    ++ (digit (bypass_count_of routing mode) ∷ ascii " ")
    ++ (digit (output_count_of mode) ∷ ascii " ")
    ++ (digit (mixer_count_of routing mode) ∷ ascii "\n")
