use Rattle.vrl_place.proofs.OneResult.{one_write}
use Rattle.vrl_place.proofs.laws.writes_are_one_kind.Goals as goal

pub returns : goal.returns
returns c = λ A N B C path. one_write path A N B C
