use Rattle.transfers.proofs.Laws.{mixer_value}
use Rattle.transfers.proofs.mixer_transfer.Goals as goal

pub returns : goal.returns
returns c = rw c.mixer_point.ensures (mixer_value _ _ _ _)
