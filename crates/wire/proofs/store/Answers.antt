use mathlib.Core.Path.{◌∙◌}
use native.Mathlib.Omega.{arith}
use Rattle.wire.specs.Wire.{bytes_of}
use Rattle.wire.proofs.Laws.{length-bytes_of, to_le_bytes-four, put_mid-put_at}
use Rattle.wire.proofs.store.Goals as goal

pub returns : goal.returns
returns c =
    let a = c.args in
    put_mid-put_at a.s.now a.p _ _ (bytes_of 4 a.v) (c.copy_from_slice.ensures.after ∙ c.to_le_bytes.ensures ∙ to_le_bytes-four a.v) (omega (arith, length-bytes_of 4 a.v)) (omega arith)
