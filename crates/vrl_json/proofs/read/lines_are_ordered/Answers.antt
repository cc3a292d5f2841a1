use Rattle.vrl_json.proofs.Ordered.{line_is_ordered}
use Rattle.vrl_json.proofs.read.lines_are_ordered.Goals as goal

pub returns : goal.returns
returns c = line_is_ordered
