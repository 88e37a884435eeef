-- f64 arithmetic as Rust writes it: each operation rounds once, to nearest even. `f64 b` is the float whose bits are b.
use Rattle.std.specs.Prelude.{ℕ, Float}
use Rattle.std.specs.Float.{binary64}
use Rattle.std.specs.Float.Ieee.{of_bits, add, sub, mul, div}

infixl 60 ◌⊞◌ ◌⊟◌
infixl 70 ◌⊠◌ ◌⧄◌
abbrev pub ◌⊞◌ : Float → Float → Float
x ⊞ y = add binary64 x y

abbrev pub ◌⊟◌ : Float → Float → Float
x ⊟ y = sub binary64 x y

abbrev pub ◌⊠◌ : Float → Float → Float
x ⊠ y = mul binary64 x y

abbrev pub ◌⧄◌ : Float → Float → Float
x ⧄ y = div binary64 x y

abbrev pub f64 : ℕ → Float
f64 b = of_bits binary64 b
