use Rattle.std.proofs.Common.{subst, sym}
use Rattle.vrl_token.specs.Cuts.{IsCutOf}
use Rattle.vrl_token.specs.Words.{NoSuffix}
use Rattle.vrl_token.proofs.Tested.{ok_weaker}
use Rattle.vrl_token.proofs.names.cut_dot.Goals as goal

pub returns-in-Some : goal.returns-in-Some
returns-in-Some c = λ before is. (rw c.in-Some.is at c.in_ok-suffix.ensures) before is

pub returns-in-None : goal.returns-in-None
returns-in-None c =
    let none = rw c.in-None.is at c.in_ok-suffix.ensures in
    ok_weaker c.cut_event.result (λ cut h before is. subst (λ t. IsCutOf before t cut) (sym c.requires) (h before (subst (NoSuffix before) c.requires (none before is)))) c.cut_event.ensures
