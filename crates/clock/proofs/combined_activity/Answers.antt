use Rattle.clock.specs.Transients.{combined_activity_of}
use lib.Ieee.{neg, of_bits}
use Rattle.clock.proofs.combined_activity.Goals as goal

pub returns : goal.returns
unfolding combined_activity_of neg of_bits
returns c = simp (
  c.add_combined.ensures,
  c.add_combined-two.ensures,
  c.add_combined-one.ensures,
)
