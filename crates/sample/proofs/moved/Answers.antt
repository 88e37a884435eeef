use Rattle.sample.specs.Sample.{moved_of}
use Rattle.sample.proofs.Laws.{both_bins}
use Rattle.sample.proofs.moved.Goals as goal

pub between_bins-requires : goal.between_bins-requires
between_bins-requires c = both_bins c.args.input c.args.s c.requires

pub between_bins-input_drive-requires : goal.between_bins-input_drive-requires
between_bins-input_drive-requires c = both_bins c.args.input c.args.s c.requires

pub between_bins-requires-2 : goal.between_bins-requires-2
between_bins-requires-2 c = both_bins c.args.input c.args.s c.requires

pub returns : goal.returns
unfolding moved_of
returns c =
    simp (
      c.four_substeps.ensures,
      c.saturate.ensures,
      c.coefficients-k.ensures,
      c.between_bins-2.ensures,
      c.shift-shift.ensures,
      c.between_bins-input_drive.ensures,
      c.between_bins.ensures,
      c.requires,
    )
