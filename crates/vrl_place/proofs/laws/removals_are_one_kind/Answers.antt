use Rattle.vrl_place.proofs.OneResult.{one_removal}
use Rattle.vrl_place.proofs.laws.removals_are_one_kind.Goals as goal

pub returns : goal.returns
returns c = λ A B C path. one_removal path A B C
