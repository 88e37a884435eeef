-- Entries past those that lie whole in the bytes are usable, so the first unusable one is among these.
use mathlib.Core.Path.{sym, ◌∙◌}
use native.Mathlib.Omega.{arith}
use Rattle.wire.proofs.First.{none_inside, found_among, none_among}
use Rattle.wire.proofs.first_unusable.Goals as goal

pub returns-then-s-from : goal.returns-then-s-from
returns-then-s-from c = let a = c.args in sym (none_inside a.s.now a.from 0 a.count (omega arith) (omega arith) (omega arith))

pub returns-then-i-inside : goal.returns-then-i-inside
returns-then-i-inside c = let a = c.args in c.scan-i.ensures ∙ sym (found_among a.s.now a.from a.count c.min-inside.result c.min-inside.ensures (omega arith))

pub returns-else-i-inside : goal.returns-else-i-inside
returns-else-i-inside c = let a = c.args in sym (none_among a.s.now a.from a.count c.min-inside.result c.min-inside.ensures (omega arith))
