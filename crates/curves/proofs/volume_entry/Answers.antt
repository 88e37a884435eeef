use Rattle.curves.specs.Building.{volume_entry_of}
use Rattle.curves.proofs.volume_entry.Goals as goal

pub returns : goal.returns
unfolding volume_entry_of
returns c = simp c.of_u16.ensures
