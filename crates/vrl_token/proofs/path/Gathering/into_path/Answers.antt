use Rattle.std.proofs.Common.{MatchOption, sym, subst}
use Rattle.vrl_token.specs.Gathering.{IsFlawOfAll}
use Rattle.vrl_token.specs.Paths.{HasSteps}
use Rattle.vrl_token.proofs.Walks.{coded}
use Rattle.vrl_token.proofs.path.Gathering.into_path.Goals as goal

pub returns : goal.returns
returns c = λ segments gathered.
    let flaw = c.args.self.flaw in
    rw c.code_of.ensures (coded segments c.new.result flaw (subst (λ steps. MatchOption flaw (HasSteps segments steps) (IsFlawOfAll segments)) (sym c.new.ensures) gathered))
