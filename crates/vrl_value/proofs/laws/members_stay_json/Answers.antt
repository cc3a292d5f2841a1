use Rattle.vrl_value.proofs.Members.{json_found}
use Rattle.vrl_value.proofs.Put.{members_are_json-put}
use Rattle.vrl_value.proofs.laws.members_stay_json.Goals as goal

pub returns : goal.returns
returns c = record { find_json = json_found; put_json = members_are_json-put }
