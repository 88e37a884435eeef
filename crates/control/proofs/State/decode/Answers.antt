use mathlib.Core.Path.{refl, ◌∙◌}
use Rattle.integrator.proofs.Laws.{some_if}
use Rattle.control.proofs.Block.{decode_told, decode_not}
use Rattle.control.proofs.State.decode.Goals as goal

pub returns-then-block-ne-BYTES : goal.returns-then-block-ne-BYTES
returns-then-block-ne-BYTES c = decode_not _ c.if-block-ne-BYTES.true

pub returns : goal.returns
returns c = c.then_some.ensures ∙ some_if _ _ ∙ decode_told _ c.if-block-ne-BYTES.false _ c.fields-state.ensures c.tidy.ensures c.tidy-2.ensures c.is_valid.ensures refl
