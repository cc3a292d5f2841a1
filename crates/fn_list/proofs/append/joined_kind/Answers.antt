use Rattle.std.proofs.Common.{◌∙◌, Some}
use Rattle.std.proofs.lemmas.Result.{IfOk-weaker}
use Rattle.vrl_kind.specs.Canonical.{list_tree}
use Rattle.vrl_kind.specs.KindTree.{KindTree}
use Rattle.vrl_kind.specs.Kinds.{tags_at}
use Rattle.vrl_builtin.specs.PartKinds.{array_parts_at}
use Rattle.fn_list.proofs.Widening.{appended_so}
use Rattle.fn_list.proofs.append.joined_kind.Goals as goal

pub returns : goal.returns
returns c =
    IfOk-weaker c.appended_kind.result _ _
    (λ (kind : KindTree) is p t. is p t ∙ appended_so (list_tree c.args.arrays.now) (list_tree c.args.others.now) (tags_at c.in_ok-parts.parts) (array_parts_at (Some c.args.others.now)) c.in_ok-parts.ensures p t) c.appended_kind.ensures
