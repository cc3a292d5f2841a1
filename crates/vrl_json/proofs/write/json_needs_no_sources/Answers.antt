use Rattle.vrl_json.proofs.Written.{json_regexes}
use Rattle.vrl_json.proofs.write.json_needs_no_sources.Goals as goal

pub returns : goal.returns
returns c = json_regexes
