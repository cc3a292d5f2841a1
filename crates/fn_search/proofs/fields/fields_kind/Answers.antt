use Rattle.std.proofs.Common.{IfOk, sym, subst}
use Rattle.std.proofs.lemmas.Result.{IfOk-weaker}
use Rattle.vrl_kind.specs.KindTree.{KindTree}
use Rattle.vrl_kind.specs.Kinds.{tags_at}
use Rattle.vrl_kind.specs.Sets.{SameSets}
use Rattle.vrl_builtin.proofs.Containers.{object_made}
use Rattle.fn_search.specs.Fields.{fields_kind, text_or_null_kind}
use Rattle.fn_search.proofs.fields.fields_kind.Goals as goal

pub returns-then-numbered : goal.returns-then-numbered
returns-then-numbered c =
    subst (λ numbered. IfOk c.object_of.result (λ kind. SameSets (tags_at kind) (fields_kind c.args.names.now numbered))) (sym c.if-numbered.true)
    (IfOk-weaker c.object_of.result _ _ (λ (kind : KindTree) made. object_made (tags_at c.in_ok-part.part) text_or_null_kind kind c.in_ok-part.ensures made) c.object_of.ensures)
