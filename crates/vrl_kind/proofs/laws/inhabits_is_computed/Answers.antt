use Rattle.vrl_kind.proofs.TreeTests.{inhabits_is_computed}
use Rattle.vrl_kind.proofs.laws.inhabits_is_computed.Goals as goal

pub returns : goal.returns
returns c = inhabits_is_computed
