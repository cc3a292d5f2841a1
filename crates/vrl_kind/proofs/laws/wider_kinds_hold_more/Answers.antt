use Rattle.vrl_kind.proofs.Joins.{inhabits_above}
use Rattle.vrl_kind.proofs.laws.wider_kinds_hold_more.Goals as goal

pub returns : goal.returns
returns c = inhabits_above
