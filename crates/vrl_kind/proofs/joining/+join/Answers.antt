use Rattle.std.proofs.Common.{◌≤◌, ◌+◌, sym, ap, ◌∙◌, arith, length, subst}
use Rattle.std.proofs.lemmas.Result.{IfOk-weaker}
use Rattle.vrl_kind.specs.KindTree.{KindTree}
use Rattle.vrl_kind.specs.Canonical.{with_absent}
use Rattle.vrl_kind.specs.Count.{rest_nodes}
use Rattle.vrl_kind.specs.Make.{IsKnownPushed}
use Rattle.vrl_kind.specs.Scalars.{scalar_union}
use Rattle.vrl_kind.specs.Seen.{part_rest}
use Rattle.vrl_kind.specs.View.{fields_view}
use Rattle.vrl_kind.proofs.Ahead.{fields_sorted}
use Rattle.vrl_kind.proofs.Inclusion.{uncovered, end_of}
use Rattle.vrl_kind.proofs.Joins.{join_rests, join_rests_other, join_parts, places_next, list_join, object_join, join_allows, join_along, list_join_along, object_join_along}
use Rattle.vrl_kind.proofs.Namewise.{names_first, names_next, names_end}
use Rattle.vrl_kind.proofs.Lighter.{rest_lighter, turn_lighter, list_lighter, object_lighter, join_shorter, join_parts_shorter, turn_shorter}
use Rattle.vrl_kind.proofs.joining.+join.Goals as goal

pub join_seen-returns-then-covers-clause-union : goal.join_seen-returns-then-covers-clause-union
join_seen-returns-then-covers-clause-union t c = join_rests _ _ _ _ _ (sym c.covers.ensures ∙ c.if-covers.true) (c.with_either.ensures.kind ∙ ap (with_absent _) c.in_ok-first.ensures)

pub join_seen-returns-then-covers-2-clause-union : goal.join_seen-returns-then-covers-2-clause-union
join_seen-returns-then-covers-2-clause-union t c = join_rests_other _ _ _ _ _ (sym c.covers-2.ensures ∙ c.if-covers-2.true) (c.with_either-then-covers-2.ensures.kind ∙ ap (with_absent _) c.in_ok-second.ensures)

pub join_seen-join_parts-requires : goal.join_seen-join_parts-requires
join_seen-join_parts-requires t c =
    let some : 1 ≤ rest_nodes (part_rest c.args.a.part) + rest_nodes (part_rest c.args.b.part) = uncovered _ _ (sym c.covers.ensures ∙ c.if-covers.false) (sym c.covers-2.ensures ∙ c.if-covers-2.false) in
    (omega (arith, c.decreases), some)

pub join_parts-returns-clause-union : goal.join_parts-returns-clause-union
join_parts-returns-clause-union t c =
    join_parts _ _ _ _ _ (c.union.ensures ∙ (λ i. scalar_union (c.scalars.ensures i) (c.scalars-2.ensures i)))
    (list_join_along _ _ _ _ _ c.list.ensures.tree c.list-2.ensures.tree c.in_ok-join_lists.ensures.union)
    (object_join_along _ _ _ _ _ c.object.ensures.tree c.object-2.ensures.tree c.in_ok-join_objects.ensures.union)

pub join_places-loop-at-preserved : goal.join_places-loop-at-preserved
join_places-loop-at-preserved t c =
    places_next _ _ _ _ _ _ _ _ c.loop-at.invariant c.in_ok-push.ensures.items (join_along _ _ _ _ _ c.place.ensures.kind c.place-in-loop-at.ensures.kind c.in_ok-join_seen.ensures.union) c.in_ok-join_seen.ensures.canonical

pub join_places-of-requires-clause-absent : goal.join_places-of-requires-clause-absent
join_places-of-requires-clause-absent t c = join_allows c.in_ok-own.own (part_rest c.args.a.rest) (part_rest c.args.b.rest) (join_along _ _ _ _ _ c.of_rest.ensures.tree c.of_rest-2.ensures.tree c.in_ok-own.ensures.union)

pub join_places-returns-clause-union : goal.join_places-returns-clause-union
join_places-returns-clause-union t c =
    let a : length {A = KindTree} c.args.a.places.now ≤ c.loop-at.at = omega (arith, c.max-known.ensures) in
    let b : length {A = KindTree} c.args.b.places.now ≤ c.loop-at.at = omega (arith, c.max-known.ensures) in
    IfOk-weaker _ _ _ (λ part made. list_join _ _ _ _ _ _ _ c.loop-at.at a b c.loop-at.invariant (join_along _ _ _ _ _ c.of_rest.ensures.tree c.of_rest-2.ensures.tree c.in_ok-own.ensures.union) made.meaning) c.of.ensures

pub join_known-loop-pair-init : goal.join_known-loop-pair-init
join_known-loop-pair-init t c = names_first _ _ _ _ _ _ _ (ap fields_view c.new-known.ensures.items) (fields_sorted _ c.requires.a_canonical.0) (fields_sorted _ c.requires.b_canonical.0)

pub join_known-loop-pair-preserved : goal.join_known-loop-pair-preserved
join_known-loop-pair-preserved t c =
    let pushed = subst (λ n. IsKnownPushed n c.in_ok-kind.kind c.args.own.now (fields_view c.loop-pair.known.items) (fields_view c.push_known.new.fields.items)) c.in_ok-name.ensures c.in_ok-push_known.ensures in
    names_next _ _ _ _ _ _ _ _ _ _ _ _ _ _ _ _ c.loop-pair.invariant c.in-Some.ensures (join_along _ _ _ _ _ c.known_or_rest.ensures.kind c.known_or_rest-in-Some.ensures.kind c.in_ok-kind.ensures.union) c.in_ok-kind.ensures.canonical c.requires.rests pushed

pub join_known-returns : goal.join_known-returns
join_known-returns t c = names_end _ _ _ _ _ _ _ _ _ c.loop-pair.invariant (end_of _ _ _ c.next.ensures c.in_default.not-Some) c.requires.rests

pub join_fields-returns-clause-union : goal.join_fields-returns-clause-union
join_fields-returns-clause-union t c = IfOk-weaker _ _ _ (λ part made. object_join _ _ _ _ _ _ _ c.in_ok-known.ensures made.meaning) c.of.ensures

pub join_fields-of-requires-clause-absent : goal.join_fields-of-requires-clause-absent
join_fields-of-requires-clause-absent t c = join_allows c.in_ok-own.own (part_rest c.args.a.rest) (part_rest c.args.b.rest) (join_along _ _ _ _ _ c.of_rest.ensures.tree c.of_rest-2.ensures.tree c.in_ok-own.ensures.union)

pub join_places-join_seen-requires : goal.join_places-join_seen-requires
join_places-join_seen-requires t c =
    (join_shorter _ _ _ _ _ c.place.ensures.lighter c.place-in-loop-at.ensures.lighter c.decreases, tt)

pub join_places-join_seen-requires-2 : goal.join_places-join_seen-requires-2
join_places-join_seen-requires-2 t c =
    (join_shorter _ _ _ _ _ (rest_lighter _ _ _ c.of_rest.ensures.nodes) (rest_lighter _ _ _ c.of_rest-2.ensures.nodes) c.decreases, tt)

pub join_known-join_seen-requires : goal.join_known-join_seen-requires
join_known-join_seen-requires t c =
    let left = turn_lighter _ _ _ _ _ _ _ c.known_or_rest.ensures.lighter c.in-Some.ensures.left c.loop-pair.invariant.left_nodes in
    let right = turn_lighter _ _ _ _ _ _ _ c.known_or_rest-in-Some.ensures.lighter c.in-Some.ensures.right c.loop-pair.invariant.right_nodes in
    (join_shorter _ _ _ _ _ left right c.decreases, tt)

pub join_parts-join_lists-requires : goal.join_parts-join_lists-requires
join_parts-join_lists-requires t c =
    (join_parts_shorter _ _ _ _ _ (list_lighter _ _ _ c.list.ensures.tree) (list_lighter _ _ _ c.list-2.ensures.tree) c.requires c.decreases, (c.list.ensures.canonical, c.list-2.ensures.canonical))

pub join_parts-join_objects-requires : goal.join_parts-join_objects-requires
join_parts-join_objects-requires t c =
    (join_parts_shorter _ _ _ _ _ (object_lighter _ _ _ c.object.ensures.tree) (object_lighter _ _ _ c.object-2.ensures.tree) c.requires c.decreases, (c.object.ensures.canonical, c.object-2.ensures.canonical))

pub join_known-loop-pair-smaller : goal.join_known-loop-pair-smaller
join_known-loop-pair-smaller t c = turn_shorter _ _ _ _ _ _ _ c.in-Some.ensures
