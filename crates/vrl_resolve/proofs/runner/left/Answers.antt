use Rattle.std.proofs.lemmas.Result.{IfOk-weaker}
use Rattle.vrl_store.specs.StoreView.{store_in}
use Rattle.vrl_resolve.proofs.Left.{value_left}
use Rattle.vrl_resolve.proofs.runner.left.Goals as goal

pub returns-in-Ok-clause-ran : goal.returns-in-Ok-clause-ran
returns-in-Ok-clause-ran c =
    IfOk-weaker c.valued.result _ _
    (λ ran is meant came. value_left c.args.is_asked meant c.in-Ok.value (store_in c.args.names.now c.args.store) ran is (rw c.in-Ok.is at came)) c.valued.ensures.valued

pub returns-in-Err-clause-ran : goal.returns-in-Err-clause-ran
returns-in-Err-clause-ran c = IfOk-weaker c.stopped.result _ _ (λ ran is meant ends. is meant (rw c.in-Err.is at ends)) c.stopped.ensures.ran
