use Rattle.std.proofs.Common.{◌∙◌, ap, refl, subst, sym, true}
use Rattle.vrl_judge.specs.Judging.{known_on, IsWay}
use Rattle.vrl_judge.proofs.Between.{left_side}
use Rattle.vrl_judge.proofs.checker.Checker.left_of_coalescing.Goals as goal

pub go_to-requires : goal.go_to-requires
go_to-requires c = subst (IsWay c.mark_if.new.self.state.scopes) (sym c.take-fail.ensures.value) (subst (λ x. IsWay x.state.scopes c.args.part.ends.fail) (sym c.mark_if.ensures.checker) c.requires.fail)

pub returns : goal.returns
returns c = record {
  side = left_side _ c.args.self.now c.mark_if.new.self _ _ true true refl
      (record { fail = subst (IsWay c.args.self.now.state.scopes) (sym c.take-fail.ensures.after) refl; ret = c.requires.ret })
      c.in_ok-beside.ensures.mark c.mark_if.ensures.checker (c.go_to.ensures.known ∙ ap known_on c.take-fail.ensures.value) c.go_to.ensures.others;
  part = ap (λ f. record c.args.part { ends = record c.args.part.ends { fail = f } }) c.take-fail.ensures.after;
}
