use Rattle.vrl_check.proofs.Determined.{one_judgement_each}
use Rattle.vrl_check.proofs.laws.judgements_are_determined.Goals as goal

pub returns : goal.returns
returns c = one_judgement_each c.equal_tags_are_one_kind.ensures c.functions_are_found.ensures c.forms_are_no_functions.ensures
