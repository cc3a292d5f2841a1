use Rattle.fn_time.proofs.Clocks.{read_is}
use Rattle.fn_time.proofs.read.timestamp_read.Goals as goal

pub returns : goal.returns
returns c = read_is c.args.text.now c.read.result c.read.ensures.some c.read.ensures.none
