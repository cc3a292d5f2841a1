use Rattle.std.proofs.Common.{refl, sym, ◌∙◌, arith, ◌≤◌, ◌+◌, length}
use Rattle.vrl_kind.specs.KindTree.{KindTree}
use Rattle.vrl_kind.specs.Count.{rest_nodes}
use Rattle.vrl_kind.specs.Kinds.{IsWithin}
use Rattle.vrl_kind.specs.Parts.{ListsAreWithin, ObjectsAreWithin}
use Rattle.vrl_kind.specs.Scalars.{ScalarsAreWithin}
use Rattle.vrl_kind.specs.Seen.{part_rest}
use Rattle.vrl_kind.proofs.Ahead.{fields_sorted}
use Rattle.vrl_kind.proofs.Inclusion.{none, along, absent_to, covers_within, not_covered, none_exact, exact_nodes, scalars_within, lists_within, objects_within, parts_within, places_to, places_from, each_place, rest_place, fields_to, fields_from, so_far_first, so_far_next, so_far_pair, so_far_rest, so_far_end, end_of}
use Rattle.vrl_kind.proofs.Lighter.{rest_lighter, turn_lighter, list_lighter, object_lighter, within_shorter, within_parts_shorter, turn_shorter}
use Rattle.vrl_kind.proofs.order.+within.Goals as goal

pub within_seen-returns-then-not-implies : goal.within_seen-returns-then-not-implies
within_seen-returns-then-not-implies t c = (λ is. none _ is, λ within. c.if-not-implies.ensures.1 (absent_to _ _ _ _ within))

pub within_seen-returns-then-covers : goal.within_seen-returns-then-covers
within_seen-returns-then-covers t c = (λ is. covers_within _ _ _ _ (sym c.covers.ensures ∙ c.if-covers.true) (c.if-not-implies.ensures.0 refl), λ within. refl)

pub within_seen-returns-then-not-some_exact : goal.within_seen-returns-then-not-some_exact
within_seen-returns-then-not-some_exact t c = (λ is. none _ is, λ within. absurd (not_covered _ _ _ _ (sym c.covers.ensures ∙ c.if-covers.false) (none_exact _ _ (sym c.if-not-some_exact.ensures)) within))

pub parts_within-returns-then-not-within : goal.parts_within-returns-then-not-within
parts_within-returns-then-not-within t c = (λ is. none _ is, λ within. c.if-not-within.ensures.1 (along ScalarsAreWithin _ _ _ _ c.scalars.ensures c.scalars-2.ensures (scalars_within _ _ within)))

pub parts_within-returns-then-not-lists_within : goal.parts_within-returns-then-not-lists_within
parts_within-returns-then-not-lists_within t c = (λ is. none _ is, λ within. c.if-not-lists_within.ensures.1 (along ListsAreWithin _ _ _ _ c.list.ensures.tree c.list-2.ensures.tree (lists_within _ _ within)))

pub parts_within-returns : goal.parts_within-returns
parts_within-returns t c = (
  λ is. parts_within _ _ (along ScalarsAreWithin _ _ _ _ (sym c.scalars.ensures) (sym c.scalars-2.ensures) (c.if-not-within.ensures.0 refl)) (along ListsAreWithin _ _ _ _ (sym c.list.ensures.tree) (sym c.list-2.ensures.tree) (c.if-not-lists_within.ensures.0 refl)) (along ObjectsAreWithin _ _ _ _ (sym c.object.ensures.tree) (sym c.object-2.ensures.tree) (c.objects_within.ensures.0 is)),
  λ within. c.objects_within.ensures.1 (along ObjectsAreWithin _ _ _ _ c.object.ensures.tree c.object-2.ensures.tree (objects_within _ _ within)),
)

pub places_within-returns-then-not-within_seen : goal.places_within-returns-then-not-within_seen
places_within-returns-then-not-within_seen t c = (λ is. none _ is, λ lists. c.if-not-within_seen.ensures.1 (along IsWithin _ _ _ _ c.place.ensures.kind c.place-in-loop-at.ensures.kind (places_from _ _ _ _ lists c.loop-at.at)))

pub places_within-returns : goal.places_within-returns
places_within-returns t c =
    let a : length {A = KindTree} c.args.a.places.now ≤ c.loop-at.at = omega (arith, c.max-at-end.ensures) in
    let b : length {A = KindTree} c.args.b.places.now ≤ c.loop-at.at = omega (arith, c.max-at-end.ensures) in (
      λ is. places_to _ _ _ _ (each_place _ _ _ _ c.loop-at.at a b c.loop-at.invariant (along IsWithin _ _ _ _ (sym c.of_rest.ensures.tree) (sym c.of_rest-2.ensures.tree) (c.within_seen-2.ensures.0 is))),
      λ lists. c.within_seen-2.ensures.1 (along IsWithin _ _ _ _ c.of_rest.ensures.tree c.of_rest-2.ensures.tree (rest_place _ _ _ _ c.loop-at.at a b (places_from _ _ _ _ lists))),
    )

pub fields_within-loop-pair-init : goal.fields_within-loop-pair-init
fields_within-loop-pair-init t c = so_far_first _ _ _ _ (fields_sorted _ c.requires.a_canonical.0) (fields_sorted _ c.requires.b_canonical.0)

pub fields_within-loop-pair-preserved : goal.fields_within-loop-pair-preserved
fields_within-loop-pair-preserved t c =
    so_far_next _ _ _ _ _ _ _ _ _ _ _ c.loop-pair.invariant c.in-Some.ensures (along IsWithin _ _ _ _ (sym c.known_or_rest.ensures.kind) (sym c.known_or_rest-in-Some.ensures.kind) (c.if-not-within_seen.ensures.0 refl))

pub fields_within-returns-then-not-within_seen : goal.fields_within-returns-then-not-within_seen
fields_within-returns-then-not-within_seen t c = (λ is. none _ is, λ objects. c.if-not-within_seen.ensures.1 (along IsWithin _ _ _ _ c.known_or_rest.ensures.kind c.known_or_rest-in-Some.ensures.kind (so_far_pair _ _ _ _ _ _ _ _ _ _ _ c.loop-pair.invariant c.in-Some.ensures (fields_from _ _ _ _ objects))))

pub fields_within-returns : goal.fields_within-returns
fields_within-returns t c =
    let end = end_of _ _ _ c.next.ensures c.in_default.not-Some in (
      λ is. fields_to _ _ _ _ (so_far_end _ _ _ _ _ _ c.loop-pair.invariant end (along IsWithin _ _ _ _ (sym c.of_rest.ensures.tree) (sym c.of_rest-2.ensures.tree) (c.within_seen-2.ensures.0 is))),
      λ objects. c.within_seen-2.ensures.1 (along IsWithin _ _ _ _ c.of_rest.ensures.tree c.of_rest-2.ensures.tree (so_far_rest _ _ _ _ _ _ c.loop-pair.invariant end (fields_from _ _ _ _ objects))),
    )

pub within_seen-parts_within-requires : goal.within_seen-parts_within-requires
within_seen-parts_within-requires t c =
    let some : 1 ≤ rest_nodes (part_rest c.args.a.part) + rest_nodes (part_rest c.args.b.part) = exact_nodes _ _ (sym c.if-not-some_exact.ensures) in
    (omega (arith, c.decreases), some)

pub places_within-within_seen-requires : goal.places_within-within_seen-requires
places_within-within_seen-requires t c =
    (within_shorter _ _ _ _ _ c.place.ensures.lighter c.place-in-loop-at.ensures.lighter c.decreases, tt)

pub places_within-within_seen-requires-2 : goal.places_within-within_seen-requires-2
places_within-within_seen-requires-2 t c =
    (within_shorter _ _ _ _ _ (rest_lighter _ _ _ c.of_rest.ensures.nodes) (rest_lighter _ _ _ c.of_rest-2.ensures.nodes) c.decreases, tt)

pub fields_within-within_seen-requires : goal.fields_within-within_seen-requires
fields_within-within_seen-requires t c =
    let left = turn_lighter _ _ _ _ _ _ _ c.known_or_rest.ensures.lighter c.in-Some.ensures.left c.loop-pair.invariant.left_nodes in
    let right = turn_lighter _ _ _ _ _ _ _ c.known_or_rest-in-Some.ensures.lighter c.in-Some.ensures.right c.loop-pair.invariant.right_nodes in
    (within_shorter _ _ _ _ _ left right c.decreases, tt)

pub fields_within-within_seen-requires-2 : goal.fields_within-within_seen-requires-2
fields_within-within_seen-requires-2 t c =
    (within_shorter _ _ _ _ _ (rest_lighter _ _ _ c.of_rest.ensures.nodes) (rest_lighter _ _ _ c.of_rest-2.ensures.nodes) c.decreases, tt)

pub parts_within-lists_within-requires : goal.parts_within-lists_within-requires
parts_within-lists_within-requires t c =
    (within_parts_shorter _ _ _ _ _ (list_lighter _ _ _ c.list.ensures.tree) (list_lighter _ _ _ c.list-2.ensures.tree) c.requires c.decreases, tt)

pub parts_within-objects_within-requires : goal.parts_within-objects_within-requires
parts_within-objects_within-requires t c =
    (within_parts_shorter _ _ _ _ _ (object_lighter _ _ _ c.object.ensures.tree) (object_lighter _ _ _ c.object-2.ensures.tree) c.requires c.decreases, (c.object.ensures.canonical, c.object-2.ensures.canonical))

pub fields_within-loop-pair-smaller : goal.fields_within-loop-pair-smaller
fields_within-loop-pair-smaller t c = turn_shorter _ _ _ _ _ _ _ c.in-Some.ensures
