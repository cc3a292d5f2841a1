use Rattle.std.proofs.Common.{Some, ap, ◌∙◌}
use Rattle.vrl_kind.specs.Canonical.{scalars_of, list_tree}
use Rattle.vrl_kind.specs.View.{object_of}
use Rattle.vrl_kind.proofs.Naming.{object_made}
use Rattle.vrl_kind.proofs.kind.Kind.with_object.Goals as goal

pub returns : goal.returns
returns c = object_made _ _ _ _ _ _ _ (object_of (Some c.in_ok-of.field-0)) (ap scalars_of c.self.view_is) (c.in_ok-list.ensures ∙ c.list.ensures.tree ∙ ap list_tree c.of.ensures.tree) c.into_kind-own.ensures.tree c.in_ok-known.ensures c.in_ok-of.ensures.meaning
