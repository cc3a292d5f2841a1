use Rattle.std.proofs.Common.{ap, ◌∙◌}
use Rattle.std.proofs.lemmas.Result.{IfOk-weaker}
use Rattle.vrl_format.specs.Writing.{ended}
use Rattle.vrl_format.proofs.Written.{is_layout}
use Rattle.vrl_format.proofs.formatting.layout.Goals as goal

pub returns : goal.returns
returns c = IfOk-weaker c.finish.result _ _ (λ laid is. is ∙ ap ended c.in_ok-walked.ensures ∙ is_layout c.args.text.now c.args.tokens.now) c.finish.ensures
