use Rattle.std.proofs.Common.{ap, ◌∙◌}
use Rattle.std.proofs.lemmas.Result.{IfOk-weaker}
use Rattle.vrl_kind.specs.KindTree.{KindTree}
use Rattle.vrl_builtin.specs.CutDown.{cut_to}
use Rattle.vrl_builtin.proofs.any_parts.any_of.Goals as goal

pub returns : goal.returns
returns c = IfOk-weaker c.cut_down.result _ _ (λ (kind : KindTree) cut p t. cut p t ∙ ap (λ K. cut_to c.args.tags.now K p t) c.any-any.ensures.tree) c.cut_down.ensures
