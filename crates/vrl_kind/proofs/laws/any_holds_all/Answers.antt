use Rattle.std.proofs.Common.{false}
use Rattle.vrl_kind.proofs.Inhabiting.{any_inhabits}
use Rattle.vrl_kind.proofs.laws.any_holds_all.Goals as goal

pub returns : goal.returns
returns c = any_inhabits false
