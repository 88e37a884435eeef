use Rattle.signals.proofs.Told.{signals_put}
use Rattle.signals.proofs.RoutedSignals.put.Goals as goal

pub returns : goal.returns
returns c =
    rw (
      c.put_row-2.ensures,
      c.float_bits-8.ensures,
      c.float_bits-7.ensures,
      c.float_bits-6.ensures,
      c.float_bits-5.ensures,
      c.put_row.ensures,
      c.float_bits-4.ensures,
      c.float_bits-3.ensures,
      c.float_bits-2.ensures,
      c.float_bits.ensures,
    )
    (signals_put _ _ c.requires)
