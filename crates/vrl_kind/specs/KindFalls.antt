-- Each kind inside a kind has fewer nodes.
use Rattle.std.specs.Prelude.{◌+◌, ◌≤◌, List, [], ◌∷◌, Option, None, Some}
use Rattle.std.proofs.Common.{arith}
use denote.Param.Weighed.{most}
use Rattle.vrl_kind.specs.KindTree.{KindTree}
use Rattle.vrl_kind.specs.Count.{nodes, places_nodes, fields_nodes, rest_nodes, list_nodes, object_nodes}
use Rattle.vrl_kind.specs.View.{places_view, fields_view, rest_of, list_of, object_of}
use Rattle.vrl_kind.specs.declared.kind.Rest.{Rest}
use Rattle.vrl_kind.specs.declared.kind.Rest.TheVariants as rest
use Rattle.vrl_kind.specs.declared.kind.KindField.{KindField}
use Rattle.vrl_kind.specs.declared.kind.ListPart.{ListPart}
use Rattle.vrl_kind.specs.declared.kind.ObjectPart.{ObjectPart}
use Rattle.vrl_kind.specs.declared.scalars.Scalars.{Scalars}
use Rattle.vrl_kind.specs.declared.kind.Kind.TheInside.{Inside}
use Rattle.vrl_kind.specs.declared.kind.Kind.TheDeep.{deep-Kind, deep-Rest, deep-KindField, deep-ListPart, deep-ObjectPart}

most_places : (ks : List KindTree) → most (λ k. nodes k + 1) ks ≤ places_nodes (places_view ks) + 1
most_places [] = omega arith
most_places (k ∷ ks) = omega (arith, most_places ks)

most_fields : (fs : List KindField) → most deep-KindField fs ≤ fields_nodes (fields_view fs) + 1
most_fields [] = omega arith
most_fields (f ∷ fs) = omega (arith, most_fields fs)

deep_rest : (r : Rest) → deep-Rest r ≤ rest_nodes (rest_of r) + 1
deep_rest rest.Nothing = omega arith
deep_rest rest.Json = omega arith
deep_rest rest.Any = omega arith
deep_rest (rest.Exact held) = omega arith

pub deep_list : (p : ListPart) → deep-ListPart p ≤ list_nodes (list_of (Some p)) + 1
deep_list p = omega (arith, most_places p.places.kinds.items, deep_rest p.rest)

pub deep_object : (p : ObjectPart) → deep-ObjectPart p ≤ object_nodes (object_of (Some p)) + 1
deep_object p = omega (arith, most_fields p.fields.fields.items, deep_rest p.rest)

falls : (s : Scalars) (l : Option ListPart) (o : Option ObjectPart)
    → deep-Kind record { scalars = s; list = l; object = o } ≤ list_nodes (list_of l) + object_nodes (object_of o) + 1
falls s None None = omega arith
falls s None (Some q) = omega (arith, deep_object q)
falls s (Some p) None = omega (arith, deep_list p)
falls s (Some p) (Some q) = omega (arith, deep_list p, deep_object q)

pub kind_falls : (a : Inside) → deep-Kind a ≤ list_nodes (list_of a.list) + object_nodes (object_of a.object) + 1
kind_falls a = falls a.scalars a.list a.object
