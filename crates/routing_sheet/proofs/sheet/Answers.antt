use Prim.Native.Nat.{ℕ}
use mathlib.Core.Path.{◌∙◌, sym}
use lib.ListN.{length-replicate}
use Rattle.text.proofs.Laws.{grown_all}
use Rattle.routing_sheet.proofs.Figures.{sheet_long}
use Rattle.routing_sheet.proofs.sheet.Goals as goal

pub returns : goal.returns
returns c = c.push_sheet.ensures.out_after ∙ grown_all _ _ (sheet_long ∙ sym (length-replicate {A = ℕ} 11222 0))
