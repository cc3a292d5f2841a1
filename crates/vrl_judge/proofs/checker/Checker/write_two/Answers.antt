use Rattle.std.proofs.lemmas.Result.{IfOk-weaker}
use Rattle.vrl_judge.proofs.checker.Checker.write_two.Goals as goal

pub returns-clause-written : goal.returns-clause-written
returns-clause-written c =
    IfOk-weaker c.write-2.result _ _
    (λ _ second. record { between = c.write.new.self.state.known; first = c.in_ok-write.ensures.written; second = second })
    c.write-2.ensures.written
