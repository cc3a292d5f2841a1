use Rattle.vrl_json.proofs.Shallow.{line_is_shallow}
use Rattle.vrl_json.proofs.read.lines_are_shallow.Goals as goal

pub returns : goal.returns
returns c = line_is_shallow
