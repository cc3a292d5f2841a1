use Rattle.vrl_check.proofs.Branching.{abort_alone}
use Rattle.vrl_judge.proofs.Results.{by_both}
use Rattle.vrl_check.proofs.walk.abort.Goals as goal

pub returns : goal.returns
returns c = by_both c.nothing.result _ _ _ (λ finding. abort_alone c.args.checker.now c.kill.new.self finding c.kill.ensures) c.nothing.ensures.kind c.nothing.ensures.ends
