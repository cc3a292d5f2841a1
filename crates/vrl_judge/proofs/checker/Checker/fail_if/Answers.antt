use Rattle.std.proofs.Common.{refl}
use Rattle.vrl_judge.proofs.Between.{fail_common, or_failed}
use Rattle.vrl_judge.proofs.Joining.{kept_way}
use Rattle.vrl_judge.proofs.checker.Checker.fail_if.Goals as goal

pub add_fail-requires : goal.add_fail-requires
add_fail-requires c = fail_common c.args.self.now.state.scopes c.args.ends.now _ c.in_ok-point.point c.requires c.in_ok-point.ensures.branch

pub returns-clause-ends : goal.returns-clause-ends
returns-clause-ends c =
    or_failed c.args.self.now.state.scopes c.args.self.now.state.known c.args.ends.now c.add_fail.new.self c.in_ok-point.point c.args.holds c.args.holds c.in_ok-point.ensures.branch refl c.in_ok-add_fail.ensures.joined c.in_ok-add_fail.ensures.others

pub returns-clause-scopes : goal.returns-clause-scopes
returns-clause-scopes c = c.in_ok-add_fail.ensures.scopes _ c.requires (kept_way c.args.self.now.state.scopes _ c.in_ok-point.point c.in_ok-point.ensures.branch)
