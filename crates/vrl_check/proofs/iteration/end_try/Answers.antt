use Rattle.std.proofs.Common.{ap, refl, subst, sym, ◌∙◌}
use Rattle.std.proofs.lemmas.Bool.{true≢false}
use Rattle.vrl_judge.specs.Closures.{IsTakenBack}
use Rattle.vrl_judge.proofs.Joining.{same_names}
use Rattle.vrl_check.proofs.iteration.end_try.Goals as goal

pub within-stable-requires : goal.within-stable-requires
within-stable-requires c = same_names c.args.checker.now.state c.args.start (sym c.requires)

pub returns-then-stable : goal.returns-then-stable
returns-then-stable c = record {
  within = c.within-stable.ensures.0 c.if-stable.true;
  back = ap (λ s. record c.args.checker.now { state = s }) (c.back-behind.ensures.state ∙ c.into_mark.ensures);
  finding = refl;
  wrong = λ before j has. c.is_wrong_body-wrong.ensures before j has;
}

pub returns : goal.returns
returns c =
    let back = c.back-behind.ensures.state ∙ c.into_mark.ensures in
    record {
      not_within = λ within. true≢false (sym (c.within-stable.ensures.1 within) ∙ c.if-stable.false);
      back = subst (λ s. IsTakenBack c.args.held (record c.args.checker.now { state = s }) c.take_back.new.self) back c.take_back.ensures;
      left = c.back-behind.ensures.branch;
    }
