use mathlib.Core.Path.{ap, ◌∙◌}
use mathlib.Core.List.{List, []}
use native.Mathlib.Nat.{le_refl}
use lib.ListN.{get_or}
use lib.Ieee.{Float, nan, of_bits}
use Rattle.constants.proofs.entry.Goals as goal

pub returns-in-Some : goal.returns-in-Some
unfolding of_bits
returns-in-Some g c =
    let a = c.args in
    c.unwrap_or.ensures ∙ rw c.copied.ensures (c.get-in-Some.ensures.lookup.4 (le_refl a.i) nan) ∙ ap (λ (row : List Float). get_or row a.i nan) (c.in-Some.ensures.lookup.4 (le_refl a.m) [])

pub returns-in-None : goal.returns-in-None
unfolding of_bits
returns-in-None g c =
    let a = c.args in
    ap (λ (row : List Float). get_or row a.i nan) (c.in-None.ensures.lookup.4 (le_refl a.m) [])
