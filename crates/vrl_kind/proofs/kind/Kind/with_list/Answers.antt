use Rattle.std.proofs.Common.{Some, ap, ◌∙◌}
use Rattle.vrl_kind.specs.Canonical.{scalars_of, object_tree}
use Rattle.vrl_kind.specs.View.{list_of}
use Rattle.vrl_kind.proofs.Shapes.{list_made}
use Rattle.vrl_kind.proofs.kind.Kind.with_list.Goals as goal

pub returns : goal.returns
returns c = list_made _ _ _ _ _ _ (list_of (Some c.in_ok-of.field-0)) (ap scalars_of c.self.view_is) (c.in_ok-object.ensures ∙ c.object.ensures.tree ∙ ap object_tree c.of.ensures.tree) c.into_kind-own.ensures.tree c.in_ok-of.ensures.meaning
