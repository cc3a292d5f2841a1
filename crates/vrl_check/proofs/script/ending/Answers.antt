use Rattle.std.proofs.Common.{None, Some, ap, subst}
use Rattle.vrl_state.specs.States.{IsEither}
use Rattle.vrl_check.proofs.Answering.{ended}
use Rattle.vrl_judge.proofs.Results.{by_both}
use Rattle.vrl_judge.proofs.Joining.{join_none}
use Rattle.vrl_check.proofs.script.ending.Goals as goal

pub returns-in_ok-kind-in-None : goal.returns-in_ok-kind-in-None
returns-in_ok-kind-in-None c =
    let judged = c.args.judged.now in
    by_both c.end.result _ _ _
    (ended judged _ c.join.new.self.known c.join.new.self.known None c.in_ok-kind-in-None.kind c.requires.0 c.requires.1 (ap (λ s. s.known) c.in_ok-state.ensures) c.in_ok-join.ensures.known c.in-None.is (join_none c.join.new.self.known)
    (subst (λ K. IsEither judged.kind K c.in_ok-kind-in-None.kind) c.never.ensures.tree c.in_ok-kind-in-None.ensures))
    c.end.ensures.same c.end.ensures.roots

pub returns-in_ok-kind-in-Some : goal.returns-in_ok-kind-in-Some
returns-in_ok-kind-in-Some c =
    let judged = c.args.judged.now in
    by_both c.end-in-Some.result _ _ _
    (ended judged _ c.join.new.self.known c.join-in-Some.new.self.known (Some c.in-Some.ret) c.in_ok-kind-in-Some.kind c.requires.0 c.requires.1 (ap (λ s. s.known) c.in_ok-state.ensures) c.in_ok-join.ensures.known c.in-Some.is c.in_ok-join-in-Some.ensures.known
    c.in_ok-kind-in-Some.ensures)
    c.end-in-Some.ensures.same c.end-in-Some.ensures.roots
