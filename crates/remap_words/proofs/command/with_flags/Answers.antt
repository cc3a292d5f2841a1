use Rattle.std.proofs.Common.{◌∙◌, ap, codes}
use Rattle.std.proofs.lemmas.Result.{IfOk-weaker}
use Rattle.clap.specs.Words.{with_rule}
use Rattle.remap_words.specs.Command.{flag_rule}
use Rattle.remap_words.proofs.command.with_flags.Goals as goal

pub returns : goal.returns
returns c =
    let kept = c.in_ok-keeping.ensures ∙ ap (λ app. with_rule app (flag_rule (codes "keep-on-abort"))) c.in_ok-dropping.ensures in
    let before = c.in_ok-enclosing.ensures ∙ ap (λ app. with_rule app (flag_rule (codes "envelope"))) kept in
    IfOk-weaker c.with_flag-4.result _ _ (λ more is. is ∙ ap (λ app. with_rule app (flag_rule (codes "check"))) before) c.with_flag-4.ensures
