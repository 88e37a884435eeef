use Rattle.wire.proofs.Sixteens.{by_first}
use Rattle.wire.proofs.sixteen_usable.Goals as goal

pub returns-else-holds : goal.returns-else-holds
returns-else-holds c =
    let a = c.args in
    simp (c.first_unusable.ensures, by_first a.s.now a.place)
