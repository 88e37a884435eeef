use Rattle.control.proofs.Block.{encode_whole, encode_not}
use Rattle.control.proofs.State.encode.Goals as goal

pub returns-then-dst-eq-BYTES : goal.returns-then-dst-eq-BYTES
returns-then-dst-eq-BYTES c = encode_whole _ _ c.narrow-narrow.ensures c.bytes-last.ensures c.if-dst-eq-BYTES.true c.put.ensures c.put-then-dst-eq-BYTES.ensures

pub returns-else-dst-eq-BYTES : goal.returns-else-dst-eq-BYTES
returns-else-dst-eq-BYTES c = encode_not _ _ c.if-dst-eq-BYTES.false
