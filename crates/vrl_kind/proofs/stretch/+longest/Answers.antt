use Rattle.std.proofs.Common.{ap, arith, add-one, subst}
use Rattle.vrl_kind.specs.Count.{list_nodes, object_nodes}
use Rattle.vrl_kind.specs.Stretch.{KnowsAtMost}
use Rattle.vrl_kind.proofs.Longest.{root_known, list_first, list_behind, object_behind, places_on, fields_on}
use Rattle.vrl_kind.proofs.Slices.{place_nodes, field_nodes}
use Rattle.vrl_kind.proofs.Texts.{array_seen, object_seen}
use Rattle.vrl_kind.proofs.stretch.+longest.Goals as goal

pub longest_list-returns : goal.longest_list-returns
longest_list-returns t c =
    subst (KnowsAtMost c.args.depth c.max.result) c.kind.view_is
    (root_known _ _ _ _ c.kind.inside.scalars _ _ (omega (arith, c.max.ensures)) (omega (arith, c.max.ensures)) c.list_longest.ensures c.object_longest.ensures)

pub list_longest-returns-then-depth-eq0 : goal.list_longest-returns-then-depth-eq0
list_longest-returns-then-depth-eq0 t c = rw c.in-Some.is (list_first c.args.depth c.len.result _ _ (omega (arith, c.if-depth-eq0.true)) (omega (arith, c.len.ensures)))

pub list_longest-places_longest-requires : goal.list_longest-places_longest-requires
list_longest-places_longest-requires t c = (omega (arith, c.decreases, ap list_nodes (array_seen _ _ _ c.in-Some.is c.deref.ensures.value)), tt)

pub list_longest-returns-else-depth-eq0 : goal.list_longest-returns-else-depth-eq0
list_longest-returns-else-depth-eq0 t c =
    rw (array_seen _ _ _ c.in-Some.is c.deref.ensures.value)
    (list_behind c.args.depth _ _ _ _ _ (omega (arith, c.if-depth-eq0.false)) (omega (arith, c.max.ensures)) (omega (arith, c.max.ensures)) c.places_longest.ensures c.rest_longest.ensures)

pub object_longest-fields_longest-requires : goal.object_longest-fields_longest-requires
object_longest-fields_longest-requires t c = (omega (arith, c.decreases, ap object_nodes (object_seen _ _ _ c.in-Some.is c.deref.ensures.value)), tt)

pub object_longest-returns-else-depth-eq0 : goal.object_longest-returns-else-depth-eq0
object_longest-returns-else-depth-eq0 t c =
    rw (object_seen _ _ _ c.in-Some.is c.deref.ensures.value)
    (object_behind c.args.depth _ _ _ _ _ (omega (arith, c.if-depth-eq0.false)) (omega (arith, c.max.ensures)) (omega (arith, c.max.ensures)) c.fields_longest.ensures c.rest_longest.ensures)

pub places_longest-longest_list-requires : goal.places_longest-longest_list-requires
places_longest-longest_list-requires t c = (omega (arith, c.decreases, place_nodes _ _ _ c.loop-kind-test.true c.kind-item.is), tt)

pub places_longest-loop-kind-preserved : goal.places_longest-loop-kind-preserved
places_longest-loop-kind-preserved t c =
    places_on _ _ _ _ _ _ _ _ (add-one c.loop-kind.kind-index) c.loop-kind-test.true c.kind-item.is (omega (arith, c.max-most.ensures)) (omega (arith, c.max-most.ensures)) c.loop-kind.invariant c.longest_list.ensures

pub fields_longest-longest_list-requires : goal.fields_longest-longest_list-requires
fields_longest-longest_list-requires t c = (omega (arith, c.decreases, field_nodes _ _ _ c.loop-field-test.true c.field-item.is), tt)

pub fields_longest-loop-field-preserved : goal.fields_longest-loop-field-preserved
fields_longest-loop-field-preserved t c =
    fields_on _ _ _ _ _ _ _ _ (add-one c.loop-field.field-index) c.loop-field-test.true c.field-item.is (omega (arith, c.max-most.ensures)) (omega (arith, c.max-most.ensures)) c.loop-field.invariant c.longest_list.ensures
