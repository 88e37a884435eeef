use Rattle.run.proofs.Bytes.{no_nans}
use Rattle.run.proofs.put_outputs.Goals as goal

pub float_to_bits-o : goal.float_to_bits-o
float_to_bits-o c = (no_nans c.args.o c.requires).0

pub float_to_bits-o-2 : goal.float_to_bits-o-2
float_to_bits-o-2 c = (no_nans c.args.o c.requires).1

pub float_to_bits-o-3 : goal.float_to_bits-o-3
float_to_bits-o-3 c = (no_nans c.args.o c.requires).2

pub float_to_bits-o-4 : goal.float_to_bits-o-4
float_to_bits-o-4 c = (no_nans c.args.o c.requires).3
