use Rattle.control.proofs.Laws.{lowest, high_nibble}
use Rattle.control.proofs.FilterRegisters.write_mode_and_volume.Goals as goal

pub returns : goal.returns
returns c = rw (lowest 4 c.args.value, high_nibble c.args.value c.ranges.value)
