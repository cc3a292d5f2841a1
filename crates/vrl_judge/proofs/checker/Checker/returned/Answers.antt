use Rattle.std.proofs.Common.{◌≡◌, List, subst, sym}
use Rattle.vrl_state.specs.States.{Scope}
use Rattle.vrl_judge.specs.Judging.{no_ends, AreEnds, AreJoinedReturns, HaveCommonScopes, IsReturnIn}
use Rattle.vrl_judge.specs.Returns.{returning}
use Rattle.vrl_judge.proofs.Between.{is_returned, return_common}
use Rattle.vrl_judge.proofs.checker.Checker.returned.Goals as goal

pub add_return-requires : goal.add_return-requires
add_return-requires c =
    let state = c.args.self.now.state in
    let here = subst (λ K. c.in_ok-here.here ≡ returning state.scopes K state.known) c.into_parts-kind.ensures.kind c.in_ok-here.ensures.returned in
    subst (λ es. HaveCommonScopes es (record no_ends { ret = c.in_ok-here.here })) (sym c.into_parts-kind.ensures.ends) (return_common state.scopes c.args.part.ends c.args.part.kind state.known c.in_ok-here.here c.requires.ends c.requires.kind here)

pub returns : goal.returns
returns c =
    let state = c.args.self.now.state in
    let parts = c.into_parts-kind.ensures in
    let all = c.add_return.new.self in
    let here = subst (λ K. c.in_ok-here.here ≡ returning state.scopes K state.known) parts.kind c.in_ok-here.ensures.returned in
    let joined = subst (λ es. AreJoinedReturns es.ret c.in_ok-here.here all.ret) parts.ends c.in_ok-add_return.ensures.joined in
    let others = subst (λ es. all ≡ record es { ret = all.ret }) parts.ends c.in_ok-add_return.ensures.others in
    let stand = subst (λ es. (scopes : List Scope) → AreEnds scopes es → IsReturnIn scopes c.in_ok-here.here → AreEnds scopes all) parts.ends c.in_ok-add_return.ensures.scopes in
    is_returned c.args.span c.args.part c.args.self.now c.return_of.new.self c.report.new.self c.go_on_if.new.self c.in_ok-here.here all c.report.new.ends c.in_ok-kind.kind c.requires.ends c.requires.kind
    c.return_of.ensures.checker here joined others stand c.in_ok-report.ensures c.go_on_if.ensures.known c.go_on_if.ensures.others c.in_ok-kind.ensures.tree
