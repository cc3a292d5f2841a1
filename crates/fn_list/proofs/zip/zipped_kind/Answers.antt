use Rattle.std.proofs.Common.{◌∙◌}
use Rattle.std.proofs.lemmas.Result.{IfOk-weaker}
use Rattle.vrl_kind.specs.KindTree.{KindTree}
use Rattle.vrl_kind.specs.Kinds.{tags_at}
use Rattle.vrl_builtin.specs.Rows.{kind_at}
use Rattle.vrl_builtin.specs.View.{givens_of}
use Rattle.vrl_builtin.specs.PartKinds.{array_parts_at}
use Rattle.fn_list.specs.Zip.{pair_at}
use Rattle.vrl_builtin.proofs.Containers.{array_made}
use Rattle.fn_list.proofs.Widening.{pair_so}
use Rattle.fn_list.proofs.zip.zipped_kind.Goals as goal

pub returns : goal.returns
returns c =
    let A = array_parts_at (kind_at 0 (givens_of c.args.given.now)) in let B = array_parts_at (kind_at 1 (givens_of c.args.given.now)) in
    let first = tags_at c.in_ok-first.first in let second = tags_at c.in_ok-second.second in
    IfOk-weaker c.array_of.result _ _
    (λ (kind : KindTree) made. array_made (tags_at c.in_ok-pair.pair) (pair_at A B) kind (λ p t. c.in_ok-pair.ensures p t ∙ pair_so first second A B c.in_ok-first.ensures c.in_ok-second.ensures p t) made) c.array_of.ensures
