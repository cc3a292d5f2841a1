use Rattle.vrl_check.proofs.Steady.{third_tries}
use Rattle.vrl_check.proofs.laws.third_tries_are_stable.Goals as goal

pub returns : goal.returns
returns c = third_tries c.root_kinds_join_themselves.ensures c.forgetting_widens.ensures c.results_are_present.ensures
