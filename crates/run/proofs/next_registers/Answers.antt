use Rattle.run.proofs.next_registers.Goals as goal

pub returns-in-CutoffLow : goal.returns-in-CutoffLow
returns-in-CutoffLow c = simp (c.write_cutoff_low.ensures, c.in-CutoffLow.is)

pub returns-in-CutoffHigh : goal.returns-in-CutoffHigh
returns-in-CutoffHigh c = simp (c.write_cutoff_high.ensures, c.in-CutoffHigh.is)

pub returns-in-Routing : goal.returns-in-Routing
returns-in-Routing c = simp (c.write_signal_routing.ensures, c.in-Routing.is)

pub returns-in-Mode : goal.returns-in-Mode
returns-in-Mode c = simp (c.write_mode_and_volume.ensures, c.in-Mode.is)
