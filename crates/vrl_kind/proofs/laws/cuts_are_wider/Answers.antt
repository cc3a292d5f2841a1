use Rattle.vrl_kind.proofs.Cuts.{cuts_are_wider}
use Rattle.vrl_kind.proofs.laws.cuts_are_wider.Goals as goal

pub returns : goal.returns
returns c = cuts_are_wider
