use Rattle.vrl_resolve.proofs.WellFormedEval.{evaluations_stay_well_formed}
use Rattle.vrl_resolve.proofs.laws.evaluations_stay_well_formed.Goals as goal

pub returns : goal.returns
returns c = evaluations_stay_well_formed (record { order = c.trees_stay_in_order.ensures; below = c.regexes_stay_below.ensures; any = c.any_holds_all.ensures; rows = c.functions_keep_law.ensures })
