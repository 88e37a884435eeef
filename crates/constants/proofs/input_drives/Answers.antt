use mathlib.Core.Path.{refl}
use lib.Ieee.{of_bits, of_int, add, mul, div}
use Rattle.constants.specs.Drives.{drive_of, input_drive_of, input_drives_of}
use Rattle.constants.proofs.input_drives.Goals as goal

-- each literal is the drive at its bin, computed
pub returns : goal.returns
unfolding input_drives_of input_drive_of drive_of add mul div of_int of_bits
returns c = refl
