use Rattle.fn_time.proofs.Clocks.{timestamps_read}
use Rattle.fn_time.proofs.read.timestamps_are_read.Goals as goal

pub returns : goal.returns
returns c = timestamps_read
