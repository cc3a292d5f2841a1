use Rattle.std.proofs.Common.{rules, ◌≡◌, ◌∙◌, ap}
use Rattle.std.proofs.lemmas.Result.{IfOk-weaker}
use Rattle.clap.specs.Words.{app_of, rule_of, with_rule}
use Rattle.remap_words.specs.Command.{option_rule}
use Rattle.remap_words.proofs.command.with_option.Goals as goal

pub returns : goal.returns
returns c =
    let is : rule_of c.long.result ≡ option_rule c.args.name.now = search rules in
    IfOk-weaker c.arg.result _ _ (λ r adds. adds.shape (search rules) ∙ ap (with_rule (app_of c.args.command)) is) c.arg.ensures
