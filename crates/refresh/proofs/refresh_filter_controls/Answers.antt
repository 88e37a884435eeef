use Rattle.controls.specs.Controls.{refresh_filter_controls_of}
use Rattle.refresh.specs.Refresh.{refresh_core_of}
use Rattle.refresh.proofs.refresh_filter_controls.Goals as goal

pub returns : goal.returns
unfolding refresh_core_of refresh_filter_controls_of
returns c = simp (c.resonance_part.ensures, c.feedback_drives.ensures, c.input_drives.ensures, c.refresh_core-fresh.ensures)
