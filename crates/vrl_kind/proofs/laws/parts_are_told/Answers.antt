use Rattle.vrl_kind.proofs.SomePart.{parts_are_told}
use Rattle.vrl_kind.proofs.laws.parts_are_told.Goals as goal

pub returns : goal.returns
returns c = parts_are_told
