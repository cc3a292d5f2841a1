use Rattle.vrl_kind.proofs.SomePart.{parts_are_computed}
use Rattle.vrl_kind.proofs.laws.parts_are_computed.Goals as goal

pub returns : goal.returns
returns c = parts_are_computed
