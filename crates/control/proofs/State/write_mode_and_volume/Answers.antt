use Rattle.control.proofs.Laws.{lowest}
use Rattle.control.proofs.State.write_mode_and_volume.Goals as goal

pub returns : goal.returns
returns c = rw (c.charge-self.ensures, c.write_mode_and_volume-self.ensures, lowest 4 c.args.value)
