use Rattle.vrl_json.proofs.Lines.{line_is_json}
use Rattle.vrl_json.proofs.read.lines_are_json.Goals as goal

pub returns : goal.returns
returns c = line_is_json
