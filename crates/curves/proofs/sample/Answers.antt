use Rattle.curves.specs.Sampling.{sample_of, sample_at_of, sample_places_of, corners_of}
use Rattle.curves.proofs.sample.Goals as goal

pub returns : goal.returns
unfolding sample_of sample_at_of sample_places_of corners_of
returns c =
    simp (
      c.interpolate.ensures,
      c.interpolate-upper.ensures,
      c.interpolate-lower.ensures,
      c.entry_at-upper_right.ensures,
      c.entry_at-upper_left.ensures,
      c.entry_at-lower_right.ensures,
      c.entry_at-lower_left.ensures,
      c.sample_places-places.ensures,
      c.input_position-at.ensures,
      c.load_position-load.ensures,
    )
