use Rattle.std.proofs.Common.{List, subst, sym}
use Rattle.vrl_state.specs.States.{IsJoined, Scope}
use Rattle.vrl_judge.specs.Judging.{known_on, AreEnds, AreJoinedEnds, HaveCommonScopes}
use Rattle.vrl_judge.proofs.Joining.{common}
use Rattle.vrl_judge.proofs.checker.Checker.both_sides.Goals as goal

pub add-requires : goal.add-requires
add-requires c =
    subst (λ part. HaveCommonScopes part.ends c.args.right) (sym c.into_parts-part.ensures.part) (common c.args.self.now.state.scopes c.args.left.part.ends c.args.right c.requires.left.ends c.requires.right)

pub returns-clause-sides : goal.returns-clause-sides
returns-clause-sides c =
    let parts = c.into_parts-part.ensures in
    let stand = subst (λ part. (scopes : List Scope) → AreEnds scopes part.ends → AreEnds scopes c.args.right → AreEnds scopes c.add.new.self) parts.part c.in_ok-add.ensures.scopes in
    record {
      moved = c.join_behind_if.ensures.others;
      known = subst (λ mark. IsJoined (known_on mark) c.args.self.now.state.known c.join_behind_if.new.self.state.known) parts.beside c.in_ok-join_behind_if.ensures.known;
      ends = subst (λ part. AreJoinedEnds part.ends c.args.right c.add.new.self) parts.part c.in_ok-add.ensures.joined;
      are = stand c.args.self.now.state.scopes c.requires.left.ends c.requires.right;
    }
