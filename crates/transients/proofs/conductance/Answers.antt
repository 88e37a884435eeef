use Rattle.std.proofs.Common.{rules}
use Rattle.transients.proofs.Volumes.{conductance_at, last_conductance}
use Rattle.transients.proofs.conductance.Goals as goal

pub returns-in-0 : goal.returns-in-0
returns-in-0 c = conductance_at c.args.volume 0 c.in-0.is

pub returns-in-1 : goal.returns-in-1
returns-in-1 c = conductance_at c.args.volume 1 c.in-1.is

pub returns-in-2 : goal.returns-in-2
returns-in-2 c = conductance_at c.args.volume 2 c.in-2.is

pub returns-in-3 : goal.returns-in-3
returns-in-3 c = conductance_at c.args.volume 3 c.in-3.is

pub returns-in-4 : goal.returns-in-4
returns-in-4 c = conductance_at c.args.volume 4 c.in-4.is

pub returns-in-5 : goal.returns-in-5
returns-in-5 c = conductance_at c.args.volume 5 c.in-5.is

pub returns-in-6 : goal.returns-in-6
returns-in-6 c = conductance_at c.args.volume 6 c.in-6.is

pub returns-in-7 : goal.returns-in-7
returns-in-7 c = conductance_at c.args.volume 7 c.in-7.is

pub returns-in-8 : goal.returns-in-8
returns-in-8 c = conductance_at c.args.volume 8 c.in-8.is

pub returns-in-9 : goal.returns-in-9
returns-in-9 c = conductance_at c.args.volume 9 c.in-9.is

pub returns-in-10 : goal.returns-in-10
returns-in-10 c = conductance_at c.args.volume 10 c.in-10.is

pub returns-in-11 : goal.returns-in-11
returns-in-11 c = conductance_at c.args.volume 11 c.in-11.is

pub returns-in-12 : goal.returns-in-12
returns-in-12 c = conductance_at c.args.volume 12 c.in-12.is

pub returns-in-13 : goal.returns-in-13
returns-in-13 c = conductance_at c.args.volume 13 c.in-13.is

pub returns-in-14 : goal.returns-in-14
returns-in-14 c = conductance_at c.args.volume 14 c.in-14.is

pub returns-in_default : goal.returns-in_default
returns-in_default c = last_conductance c.args.volume (search rules)
