use Rattle.std.proofs.Common.{rules, IfOk}
use Rattle.std.proofs.lemmas.Result.{IfOk-weaker}
use Rattle.vrl_format.specs.Formatting.{IsAnswer}
use Rattle.vrl_format.specs.declared.formatting.Formatted.TheVariants.{Text}
use Rattle.vrl_format.proofs.Answers.{is_still, keeps_meaning}
use Rattle.vrl_format.proofs.formatting.format.Goals as goal

pub returns-in-Err : goal.returns-in-Err
returns-in-Err c =
    let answer : IfOk c.refused.result (IsAnswer c.args.text.now) = c.refused.ensures.answer c.args.text.now c.in-Err.ensures.fault in
    record {
      answer = answer;
      meaning = IfOk-weaker c.refused.result _ _ (keeps_meaning c.layouts_mean_the_same.ensures c.args.text.now) answer;
      still = IfOk-weaker c.refused.result _ _ (is_still c.layouts_stay.ensures c.args.text.now) answer;
    }

pub returns-clause-meaning : goal.returns-clause-meaning
returns-clause-meaning c =
    let is : IsAnswer c.args.text.now (Text c.new.result) = search rules in
    keeps_meaning c.layouts_mean_the_same.ensures c.args.text.now (Text c.new.result) is

pub returns-clause-still : goal.returns-clause-still
returns-clause-still c =
    let is : IsAnswer c.args.text.now (Text c.new.result) = search rules in
    is_still c.layouts_stay.ensures c.args.text.now (Text c.new.result) is
