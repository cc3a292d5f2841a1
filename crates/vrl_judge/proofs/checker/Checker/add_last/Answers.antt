use Rattle.std.proofs.Common.{List, subst, sym}
use Rattle.vrl_state.specs.States.{IsEither, IsJoined, Scope}
use Rattle.vrl_judge.specs.Judging.{known_on, AreEnds, AreJoinedEnds, HaveCommonScopes}
use Rattle.vrl_judge.proofs.Between.{last_beside}
use Rattle.vrl_judge.proofs.Joining.{common}
use Rattle.vrl_judge.proofs.checker.Checker.add_last.Goals as goal

pub absorb-requires : goal.absorb-requires
absorb-requires c = subst (λ es. HaveCommonScopes es c.args.last.ends) (sym c.into_parts-kind.ensures.ends) (common c.args.self.now.state.scopes c.args.ways.ends c.args.last.ends c.requires.ways.ends c.requires.last)

pub returns : goal.returns
returns c =
    let parts = c.into_parts-kind.ensures in
    let all = c.absorb.new.self in
    let kind = subst (λ K. IsEither K c.in_ok-kind.kind c.widen.new.kind) parts.kind c.in_ok-widen.ensures in
    let joined = subst (λ es. AreJoinedEnds es c.args.last.ends all) parts.ends c.in_ok-kind.ensures.joined in
    let stand = subst (λ es. (scopes : List Scope) → AreEnds scopes es → AreEnds scopes c.args.last.ends → AreEnds scopes all) parts.ends c.in_ok-kind.ensures.scopes in
    let known = subst (λ ok. IsJoined c.args.self.now.state.known (known_on ok) c.join.new.self.state.known) parts.ok c.in_ok-join.ensures.known in
    last_beside c.args.ways c.args.last _ c.args.self.now c.join.new.self c.requires.ways c.requires.last (subst (λ K. IsEither c.args.ways.kind K c.widen.new.kind) c.in_ok-kind.ensures.kind kind) joined stand known c.join.ensures.others
