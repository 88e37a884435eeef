use Rattle.sample.proofs.Parts.{parts_are_sample}
use Rattle.sample.proofs.filter_sample.Goals as goal

pub returns : goal.returns
returns c =
    let a = c.args in
    simp (
      c.sample_from_parts.ensures,
      c.rest_of.ensures,
      c.core_controls.ensures,
    ) (parts_are_sample a.bundle.now a.curves.now a.slot a.topology a.controls a.mode a.state a.input_sum a.source_energy)
