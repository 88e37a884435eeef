use mathlib.Core.Path.{sym}
use mathlib.Core.List.{◌∷◌}
use Rattle.bundle.specs.Layout.{bundle_length, sections, pairs, header}
use Rattle.bundle.proofs.Laws.{byte_of_words}
use Rattle.bundle.proofs.header_byte.Goals as goal

pub returns : goal.returns
unfolding header
returns c = sym (byte_of_words (bundle_length ∷ 6 ∷ pairs sections) c.args.i)
