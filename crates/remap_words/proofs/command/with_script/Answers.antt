use Rattle.std.proofs.Common.{rules, ◌≡◌, ◌∙◌, ap}
use Rattle.std.proofs.lemmas.Result.{IfOk-weaker}
use Rattle.clap.specs.Words.{app_of, rule_of, with_rule}
use Rattle.remap_words.specs.Command.{script_rule}
use Rattle.remap_words.proofs.command.with_script.Goals as goal

pub returns : goal.returns
returns c =
    let is : rule_of c.required.result ≡ script_rule = search rules in
    IfOk-weaker c.arg.result _ _ (λ r adds. adds.shape (search rules) ∙ ap (with_rule (app_of c.args.command)) is) c.arg.ensures
