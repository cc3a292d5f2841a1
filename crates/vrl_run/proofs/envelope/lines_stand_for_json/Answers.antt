use Rattle.vrl_run.proofs.Opening.{lines_stand_for}
use Rattle.vrl_run.proofs.envelope.lines_stand_for_json.Goals as goal

pub returns : goal.returns
returns c = lines_stand_for c.lines_are_json.ensures c.lines_are_ordered.ensures c.lines_are_shallow.ensures
