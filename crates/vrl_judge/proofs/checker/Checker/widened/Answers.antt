use Rattle.std.proofs.Common.{sym, subst}
use Rattle.std.proofs.lemmas.Result.{IfOk-weaker}
use Rattle.vrl_state.specs.States.{IsFlattened}
use Rattle.vrl_judge.proofs.Joining.{same_names}
use Rattle.vrl_judge.proofs.checker.Checker.widened.Goals as goal

pub join-requires : goal.join-requires
join-requires c = same_names c.args.self.now.state c.args.behind (sym c.requires)

pub returns-clause-known : goal.returns-clause-known
returns-clause-known c =
    IfOk-weaker c.flatten.result _ _
    (λ _ flat b writes. (c.join.new.self.known, c.in_ok-join.ensures.known, subst (λ roots. IsFlattened roots c.join.new.self.known c.flatten.new.self.known) (sym writes) flat))
    c.flatten.ensures.flat
