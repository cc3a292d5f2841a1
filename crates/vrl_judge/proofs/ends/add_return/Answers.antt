use Rattle.std.proofs.Common.{None, Some, subst, sym}
use Rattle.vrl_judge.specs.Judging.{AreJoinedReturns, IsReturnIn}
use Rattle.vrl_judge.proofs.Joining.{joined_return, no_first_return, no_second_return}
use Rattle.vrl_judge.proofs.ends.add_return.Goals as goal

pub returns-in-None-clause-joined : goal.returns-in-None-clause-joined
returns-in-None-clause-joined c = subst (λ o. AreJoinedReturns c.args.ret.now o c.args.ret.now) (sym c.in-None.is) (no_second_return c.args.ret.now c.requires.0 c.requires.1)

pub returns-in-None-ret-clause-joined : goal.returns-in-None-ret-clause-joined
returns-in-None-ret-clause-joined c = subst (λ r. AreJoinedReturns r c.args.other (Some c.in-Some.other)) (sym c.in-None-ret.is) (subst (AreJoinedReturns None c.args.other) c.in-Some.is (no_first_return c.args.other c.requires.0 c.requires.2))

pub returns-in_ok-join-in-Some-ret-clause-scopes : goal.returns-in_ok-join-in-Some-ret-clause-scopes
returns-in_ok-join-in-Some-ret-clause-scopes c = λ scopes first second.
    joined_return scopes c.in-Some-ret.ret c.in-Some.other c.join.new.self (subst (IsReturnIn scopes) c.in-Some-ret.is first) (subst (IsReturnIn scopes) c.in-Some.is second)
    c.in_ok-join-in-Some-ret.ensures.kind c.in_ok-join-in-Some-ret.ensures.known c.join.ensures.scopes
