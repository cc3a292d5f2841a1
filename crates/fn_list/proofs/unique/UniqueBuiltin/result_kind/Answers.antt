use Rattle.std.proofs.lemmas.Result.{IfOk-weaker}
use Rattle.vrl_kind.specs.KindTree.{KindTree}
use Rattle.vrl_kind.specs.Kinds.{tags_at}
use Rattle.vrl_builtin.specs.Rows.{kind_at}
use Rattle.vrl_builtin.specs.View.{givens_of}
use Rattle.vrl_builtin.specs.PartKinds.{array_parts_at}
use Rattle.vrl_builtin.proofs.Containers.{array_made}
use Rattle.fn_list.proofs.unique.UniqueBuiltin.result_kind.Goals as goal

pub returns : goal.returns
returns c =
    IfOk-weaker c.array_of.result _ _ (λ (kind : KindTree) made. array_made (tags_at c.in_ok-parts.parts) (array_parts_at (kind_at 0 (givens_of c.args.given.now))) kind c.in_ok-parts.ensures made) c.array_of.ensures
