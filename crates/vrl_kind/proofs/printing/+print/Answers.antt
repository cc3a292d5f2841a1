use Rattle.std.proofs.Common.{rules, arith, add-one, ap, sym}
use Rattle.std.proofs.lemmas.Result.{on_ok_weaker}
use Rattle.vrl_kind.specs.Count.{nodes, list_nodes, object_nodes}
use Rattle.vrl_kind.proofs.Slices.{place_nodes, field_nodes}
use Rattle.vrl_kind.proofs.Texts.{array_seen, array_written, field_words_all, field_words_next, kind_written, object_seen, object_written, place_words_all, place_words_next, word_written}
use Rattle.vrl_kind.proofs.printing.+print.Goals as goal

pub push_kind-returns-in-Some : goal.push_kind-returns-in-Some
push_kind-returns-in-Some t c = word_written _ _ _ _ c.in_ok-push_str.ensures.bytes c.in-Some.ensures

pub push_kind-push_list-requires : goal.push_kind-push_list-requires
push_kind-push_list-requires t c = (omega (arith, c.decreases, ap nodes c.kind.view_is), tt)

pub push_kind-push_object-requires : goal.push_kind-push_object-requires
push_kind-push_object-requires t c = (omega (arith, c.decreases, ap nodes c.kind.view_is), tt)

pub push_kind-returns : goal.push_kind-returns
push_kind-returns t c =
    on_ok_weaker c.push_object.result
    (kind_written _ _ _ _ _ _ _ _ _ _ (sym c.kind.view_is) c.in_default.ensures c.in_ok-before.ensures c.in_ok-before-2.ensures)
    c.push_object.ensures

pub push_list-push_places-requires : goal.push_list-push_places-requires
push_list-push_places-requires t c = (omega (arith, ap list_nodes (array_seen _ _ _ c.in-Some.is c.deref.ensures.value)), tt)

pub push_list-push_rest-requires : goal.push_list-push_rest-requires
push_list-push_rest-requires t c = (omega (arith, ap list_nodes (array_seen _ _ _ c.in-Some.is c.deref.ensures.value)), tt)

pub push_list-returns : goal.push_list-returns
push_list-returns t c =
    array_written _ _ _ _ _ _ _ _ _ _ (array_seen _ _ _ c.in-Some.is c.deref.ensures.value) c.in_ok-push_behind.ensures c.in_ok-within.ensures c.in_ok-push_rest.ensures c.in_ok-push_str.ensures.bytes

pub push_object-push_fields-requires : goal.push_object-push_fields-requires
push_object-push_fields-requires t c = (omega (arith, ap object_nodes (object_seen _ _ _ c.in-Some.is c.deref.ensures.value)), tt)

pub push_object-push_rest-requires : goal.push_object-push_rest-requires
push_object-push_rest-requires t c = (omega (arith, ap object_nodes (object_seen _ _ _ c.in-Some.is c.deref.ensures.value)), tt)

pub push_object-returns : goal.push_object-returns
push_object-returns t c =
    object_written _ _ _ _ _ _ _ _ _ _ (object_seen _ _ _ c.in-Some.is c.deref.ensures.value) c.in_ok-push_behind.ensures c.in_ok-within.ensures c.in_ok-push_rest.ensures c.in_ok-push_str.ensures.bytes

pub push_places-push_kind-requires : goal.push_places-push_kind-requires
push_places-push_kind-requires t c = (omega (arith, c.decreases, place_nodes _ _ _ c.loop-kind-test.true c.kind-item.is), tt)

pub push_places-loop-kind-preserved : goal.push_places-loop-kind-preserved
push_places-loop-kind-preserved t c = (
  search rules,
  place_words_next _ _ _ _ _ _ _ _ _ _ _ (add-one c.loop-kind.kind-index) c.loop-kind-test.true c.kind-item.is c.optional_mark.ensures c.in_ok-push_behind.ensures c.in_ok-push_kind.ensures c.loop-kind.invariant.1,
)

pub push_places-returns : goal.push_places-returns
push_places-returns t c = place_words_all _ _ _ _ _ _ c.loop-kind-test.false c.loop-kind.invariant.1

pub push_fields-push_kind-requires : goal.push_fields-push_kind-requires
push_fields-push_kind-requires t c = (omega (arith, c.decreases, field_nodes _ _ _ c.loop-field-test.true c.field-item.is), tt)

pub push_fields-loop-field-preserved : goal.push_fields-loop-field-preserved
push_fields-loop-field-preserved t c = (
  search rules,
  field_words_next _ _ _ _ _ _ _ _ _ _ (add-one c.loop-field.field-index) c.loop-field-test.true c.field-item.is c.in_ok-push_key.ensures c.in_ok-push_kind.ensures c.loop-field.invariant.1,
)

pub push_fields-returns : goal.push_fields-returns
push_fields-returns t c = field_words_all _ _ _ _ _ _ c.loop-field-test.false c.loop-field.invariant.1
