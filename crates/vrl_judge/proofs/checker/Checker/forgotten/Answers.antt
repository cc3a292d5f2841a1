use Rattle.std.proofs.Common.{sym, subst}
use Rattle.std.proofs.lemmas.Result.{IfOk-weaker}
use Rattle.vrl_state.specs.States.{IsForgotten}
use Rattle.vrl_judge.proofs.checker.Checker.forgotten.Goals as goal

pub returns-clause-known : goal.returns-clause-known
returns-clause-known c =
    IfOk-weaker c.forget.result _ _
    (λ _ forgotten b behind writes. subst (λ roots. IsForgotten roots c.args.self.now.state.known c.forget.new.self.known) (sym writes) forgotten)
    c.forget.ensures.forgotten
