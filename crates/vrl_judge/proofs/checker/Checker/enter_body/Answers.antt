use Rattle.std.proofs.Common.{subst}
use Rattle.std.proofs.lemmas.Result.{IfOk-weaker}
use Rattle.vrl_judge.specs.Bodies.{AreBound}
use Rattle.vrl_judge.proofs.Bodies.{body_entered, still_open}
use Rattle.vrl_judge.proofs.checker.Checker.enter_body.Goals as goal

pub bind_all-requires-clause-entered : goal.bind_all-requires-clause-entered
bind_all-requires-clause-entered c = still_open _ _ _ c.in_ok-enter.ensures.entered.scopes

pub returns : goal.returns
returns c =
    IfOk-weaker c.bind_all.result _ _
    (λ _ bound. body_entered c.args.names.now c.args.kinds.now c.args.self.now c.enter.new.self c.bind_all.new.state c.in_ok-enter.ensures.entered c.requires.count c.requires.kinds
    (subst (λ names. AreBound names c.args.kinds.now c.enter.new.self c.bind_all.new.state) c.as_slice.ensures bound))
    c.bind_all.ensures
