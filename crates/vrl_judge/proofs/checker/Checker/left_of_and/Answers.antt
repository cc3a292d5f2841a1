use Rattle.std.proofs.Common.{Some, refl, ap, ◌∙◌, subst}
use Rattle.vrl_kind.specs.Kinds.{root_tags}
use Rattle.vrl_judge.specs.Branching.{IsOrFail}
use Rattle.vrl_judge.specs.Rules.{if_state}
use Rattle.vrl_judge.proofs.Between.{goes_on, left_side}
use Rattle.vrl_value.specs.declared.value.Tag.TheVariants as tag
use Rattle.vrl_judge.proofs.checker.Checker.left_of_and.Goals as goal

pub returns : goal.returns
returns c =
    let still = c.mark_if.ensures.checker ∙ c.fail_if.ensures.checker in
    record {
      side = left_side _ c.args.self.now c.mark_if.new.self _ _ _ _ c.may_be_truth.ensures
          c.in_ok-fail_if.ensures.scopes
          (c.in_ok-beside.ensures.mark ∙ ap (λ x. if_state c.may_be_truth.result (Some x.state)) c.fail_if.ensures.checker) still
          (goes_on c.args.self.now c.mark_if.new.self c.go_on_if.new.self _ _ c.go_on_if.ensures.known still (c.has.ensures ∙ ap (λ K. root_tags K tag.Bool) c.as_kind.ensures))
          c.go_on_if.ensures.others;
      kind = refl;
      ends = subst (λ b. IsOrFail c.args.part.ends (if_state b c.args.self.now.state.known) c.fail_if.new.ends) c.may_be_no_truth-refuses.ensures c.in_ok-fail_if.ensures.ends;
    }
