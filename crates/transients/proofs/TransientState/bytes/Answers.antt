use mathlib.Core.Path.{refl}
use Rattle.transients.proofs.Laws.{transients_put}
use Rattle.transients.proofs.TransientState.bytes.Goals as goal

pub returns : goal.returns
returns c =
    rw (c.put_u32.ensures, c.put_f32-2.ensures, c.put_f32.ensures, c.put_row-2.ensures, c.put_row.ensures)
    (rw (
      c.float_bits-8.ensures,
      c.float_bits-7.ensures,
      c.float_bits-6.ensures,
      c.float_bits-5.ensures,
      c.float_bits-4.ensures,
      c.float_bits-3.ensures,
      c.float_bits-2.ensures,
      c.float_bits.ensures,
    ) (transients_put _ _ refl))
