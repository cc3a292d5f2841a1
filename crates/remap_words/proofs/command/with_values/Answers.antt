use Rattle.std.proofs.Common.{◌∙◌, ap, codes}
use Rattle.std.proofs.lemmas.Result.{IfOk-weaker}
use Rattle.clap.specs.Words.{with_rule}
use Rattle.remap_words.specs.Command.{option_rule}
use Rattle.remap_words.proofs.command.with_values.Goals as goal

pub returns : goal.returns
returns c =
    let before = c.in_ok-jobs.ensures ∙ ap (λ app. with_rule app (option_rule (codes "jobs"))) c.in_ok-kind.ensures in
    IfOk-weaker c.with_option-3.result _ _ (λ more is. is ∙ ap (λ app. with_rule app (option_rule (codes "generate"))) before) c.with_option-3.ensures
