use Rattle.sample.specs.Sample.{select_filter_output_of}
use Rattle.sample.proofs.select_filter_output.Goals as goal

pub returns : goal.returns
unfolding select_filter_output_of
returns c = simp (c.filter_mode_quiescent_level.ensures, c.selected_outputs.ensures, c.of_u16.ensures, c.mixed.ensures)
