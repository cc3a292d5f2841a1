use Rattle.std.proofs.lemmas.Result.{IfOk-weaker}
use Rattle.vrl_kind.specs.KindTree.{KindTree}
use Rattle.vrl_kind.specs.Kinds.{tags_at}
use Rattle.fn_parse.specs.QueryString.{values_at}
use Rattle.vrl_builtin.proofs.Containers.{object_made}
use Rattle.fn_parse.proofs.parse_query_string.ParseQueryStringBuiltin.result_kind.Goals as goal

pub returns : goal.returns
returns c = IfOk-weaker c.object_of.result _ _ (λ (kind : KindTree) made. object_made (tags_at c.in_ok-values.values) values_at kind c.in_ok-values.ensures made) c.object_of.ensures
