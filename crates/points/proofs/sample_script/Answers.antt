use Rattle.points.proofs.Laws.{script_bytes}
use Rattle.points.proofs.sample_script.Goals as goal

pub returns : goal.returns
returns c = rw (c.put_f32.ensures, c.put_row.ensures, c.float_bits.ensures) (script_bytes _ _)
