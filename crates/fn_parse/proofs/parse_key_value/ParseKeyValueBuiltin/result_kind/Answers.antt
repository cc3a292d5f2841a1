use Rattle.std.proofs.lemmas.Result.{IfOk-weaker}
use Rattle.vrl_kind.specs.KindTree.{KindTree}
use Rattle.vrl_kind.specs.Kinds.{tags_at}
use Rattle.fn_parse.specs.ParseKeyValue.{string_or_boolean}
use Rattle.vrl_builtin.proofs.Containers.{object_made}
use Rattle.fn_parse.proofs.parse_key_value.ParseKeyValueBuiltin.result_kind.Goals as goal

pub returns : goal.returns
returns c =
    IfOk-weaker c.object_of.result _ _ (λ (kind : KindTree) made. object_made (tags_at c.in_ok-field.field) string_or_boolean kind c.in_ok-field.ensures made) c.object_of.ensures
