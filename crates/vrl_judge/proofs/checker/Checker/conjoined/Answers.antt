use Rattle.std.proofs.Common.{◌∙◌, ap, subst, sym}
use Rattle.vrl_judge.specs.Branching.{AreBothSides}
use Rattle.vrl_judge.specs.Judging.{AreEnds}
use Rattle.vrl_judge.proofs.Between.{are_conjoined, ends_here, fail_common, side_in}
use Rattle.vrl_judge.proofs.checker.Checker.conjoined.Goals as goal

pub both_sides-requires : goal.both_sides-requires
both_sides-requires c =
    let same = c.go_on_if.ensures.others.scopes ∙ ap (λ x. x.state.scopes) c.branch_if.ensures.checker in
    record { left = side_in _ _ c.args.left same c.requires.left; right = subst (AreEnds c.go_on_if.new.self.state.scopes) (sym c.into_parts-kind.ensures.ends) (ends_here _ _ c.args.right.ends same c.requires.right) }

pub add_fail-requires : goal.add_fail-requires
add_fail-requires c =
    let same = c.go_on_if.ensures.others.scopes ∙ ap (λ x. x.state.scopes) c.branch_if.ensures.checker in
    fail_common c.args.self.now.state.scopes c.in_ok-both.both.ends _ c.in_ok-refused.refused (subst (λ s. AreEnds s c.in_ok-both.both.ends) same c.in_ok-both.ensures.sides.are) c.in_ok-refused.ensures.branch

pub returns : goal.returns
returns c =
    let sides = subst (λ es. AreBothSides c.args.left es c.go_on_if.new.self c.both_sides.new.self c.in_ok-both.both.ends) c.into_parts-kind.ensures.ends c.in_ok-both.ensures.sides in
    are_conjoined c.args.left c.args.right c.args.self.now c.branch_if.new.self c.go_on_if.new.self _ c.in_ok-refused.refused c.in_ok-both.both.ends c.add_fail.new.self _ _ _
    c.branch_if.ensures.checker c.in_ok-refused.ensures.branch c.may_be_no_truth.ensures c.go_on_if.ensures.known c.may_be_truth.ensures c.go_on_if.ensures.others sides
    c.in_ok-add_fail.ensures.joined c.in_ok-add_fail.ensures.others c.in_ok-add_fail.ensures.scopes c.in_ok-both-2.ensures
