use Rattle.control.proofs.Laws.{lowest}
use Rattle.control.proofs.FilterRegisters.write_cutoff_low.Goals as goal

pub returns : goal.returns
returns c = rw (lowest 3 c.args.value)
