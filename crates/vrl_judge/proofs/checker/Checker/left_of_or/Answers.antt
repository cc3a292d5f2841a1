use Rattle.std.proofs.Common.{not, ap, refl}
use Rattle.vrl_judge.proofs.Between.{goes_on, left_side}
use Rattle.vrl_judge.proofs.checker.Checker.left_of_or.Goals as goal

pub returns : goal.returns
returns c = record {
  side = left_side _ c.args.self.now c.mark_if.new.self _ _ _ _ (ap not c.is_exactly.ensures) c.requires c.in_ok-beside.ensures.mark c.mark_if.ensures.checker
      (goes_on c.args.self.now c.mark_if.new.self c.go_on_if.new.self _ _ c.go_on_if.ensures.known c.mark_if.ensures.checker c.may_be_truth.ensures)
      c.go_on_if.ensures.others;
  part = refl;
}
