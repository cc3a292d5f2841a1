use Rattle.std.proofs.Common.{◌≡◌, ◌+◌, drop, refl, sym, ap, ◌∙◌, string_bytes, string_cmp, subst, arith}
use Rattle.std.specs.List.Sorted.{IsStrictlySortedBy}
use Rattle.std.specs.Map.{keys_of}
use Rattle.std.proofs.lemmas.Bool.{true≢false}
use Rattle.std.proofs.lemmas.Result.{IfOk-weaker, err_from_is_err_and}
use Rattle.vrl_value.specs.View.{items_of, items_view, members_of, members_view, tree_of}
use Rattle.vrl_value.specs.Tree.{item, member, no_items, no_members}
use Rattle.vrl_kindfile.specs.Walk.{NamesAreOrdered}
use Rattle.vrl_kindfile.proofs.Alternatives.{both}
use Rattle.vrl_kindfile.proofs.Gathered.{Entry, back_refused, field_faultless, field_gathered, fields_end, fields_faultless, front_refused, halves_of, items_size-append, length-items_size, list_kind, names_ordered, next_place, no_place_left, only_kind, place_faultless, place_gathered, places_end, places_faultless, some_items, sorted_behind}
use Rattle.vrl_kindfile.proofs.Sizes.{items_size, members_size, size_of}
use Rattle.vrl_kindfile.proofs.Known.{arrays_shape, objects_shape}
use Rattle.vrl_kindfile.proofs.Optional.{optional_part, optional_refused, required_part, rest_left_out, rest_of_kind}
use Rattle.vrl_kindfile.proofs.Shaping.{shape_described}
use Rattle.vrl_kindfile.proofs.description.+describe.Goals as goal

pub arrays-returns-clause-kind : goal.arrays-returns-clause-kind
arrays-returns-clause-kind t c = arrays_shape _ _ _ _ _ c.in-Ok.ensures.kind c.in_ok-rest.ensures.kind c.in_ok-list.ensures

pub objects-returns-clause-kind : goal.objects-returns-clause-kind
objects-returns-clause-kind t c = objects_shape _ _ _ _ _ c.in-Ok.ensures.kind c.in_ok-rest.ensures.kind c.in_ok-object.ensures

pub containers-returns-in-Some-Arrays-clause-kind : goal.containers-returns-in-Some-Arrays-clause-kind
containers-returns-in-Some-Arrays-clause-kind t c =
    let told = rw c.in-Some-Arrays.field-0-is at c.in-Some-Arrays.ensures in
    IfOk-weaker c.arrays.result _ _ (λ kind is. shape_described _ _ kind (sym told) is) c.arrays.ensures.kind

pub containers-returns-in-Some-Objects-clause-kind : goal.containers-returns-in-Some-Objects-clause-kind
containers-returns-in-Some-Objects-clause-kind t c =
    let told = rw c.in-Some-Objects.field-0-is at c.in-Some-Objects.ensures in
    IfOk-weaker c.objects.result _ _ (λ kind is. shape_described _ _ kind (sym told) is) c.objects.ensures.kind

pub joined-returns-clause-kind : goal.joined-returns-clause-kind
joined-returns-clause-kind t c = IfOk-weaker c.joined_from.result _ _ (λ kind is. list_kind _ _ _ kind c.as_slice-items.ensures c.is_empty.ensures c.if-is_empty.false is) c.joined_from.ensures.kind

pub joined-returns-clause-own : goal.joined-returns-clause-own
joined-returns-clause-own t c none = absurd (true≢false (sym (some_items _ _ _ c.as_slice-items.ensures c.is_empty.ensures c.if-is_empty.false) ∙ none))

pub joined_from-returns-in-Ok-clause-kind : goal.joined_from-returns-in-Ok-clause-kind
joined_from-returns-in-Ok-clause-kind t c = only_kind _ _ _ _ (omega arith) c.only-item.is c.in-Ok.ensures.kind

pub halves-returns-clause-kind : goal.halves-returns-clause-kind
halves-returns-clause-kind t c =
    both _ _ _ _ _ _ _ _ (halves_of _ _ _ _ c.split_at.ensures.front c.split_at.ensures.back) (omega arith) c.in_ok-first.ensures.kind c.in_ok-second.ensures.kind c.in_ok-join.ensures.union

pub halves-returns-in_err-first-clause-fault : goal.halves-returns-in_err-first-clause-fault
halves-returns-in_err-first-clause-fault t c =
    let p = err_from_is_err_and c.from_residual.result c.from_residual.ensures.1 in
    rw (p.1, p.2) (front_refused _ _ _ _ _ (halves_of _ _ _ _ c.split_at.ensures.front c.split_at.ensures.back) c.in_err-first.ensures.fault)

pub halves-returns-in_err-second-clause-fault : goal.halves-returns-in_err-second-clause-fault
halves-returns-in_err-second-clause-fault t c =
    let p = err_from_is_err_and c.from_residual-in_err-second.result c.from_residual-in_err-second.ensures.1 in
    rw (p.1, p.2) (back_refused _ _ _ _ _ _ (halves_of _ _ _ _ c.split_at.ensures.front c.split_at.ensures.back) (omega arith) c.in_ok-first.ensures.kind.faultless c.in_err-second.ensures.fault)

pub halves-joined_from-requires : goal.halves-joined_from-requires
halves-joined_from-requires t c =
    let front = c.split_at.result.0.now in
    let back = c.split_at.result.1.now in
    let sizes = items_size-append c.args.items.now front back (halves_of _ _ _ _ c.split_at.ensures.front c.split_at.ensures.back) in
    let some = length-items_size back in
    (omega (arith, c.decreases, sizes, some), (omega arith, omega arith))

pub halves-joined_from-requires-2 : goal.halves-joined_from-requires-2
halves-joined_from-requires-2 t c =
    let front = c.split_at.result.0.now in
    let back = c.split_at.result.1.now in
    let sizes = items_size-append c.args.items.now front back (halves_of _ _ _ _ c.split_at.ensures.front c.split_at.ensures.back) in
    let some = length-items_size front in
    (omega (arith, c.decreases, sizes, some), (omega arith, omega arith))

pub rest_in-returns-in-None-clause-kind : goal.rest_in-returns-in-None-clause-kind
rest_in-returns-in-None-clause-kind t c = rw c.in-None.is rest_left_out

pub rest_given-returns-in_ok-exactly-in-Ok-clause-kind : goal.rest_given-returns-in_ok-exactly-in-Ok-clause-kind
rest_given-returns-in_ok-exactly-in-Ok-clause-kind t c = rest_of_kind _ _ _ (sym c.is_nothing.ensures ∙ c.if-is_nothing.false) c.in_ok-exactly-in-Ok.ensures c.in-Ok.ensures.kind

pub known_places-loop-place-preserved : goal.known_places-loop-place-preserved
known_places-loop-place-preserved t c =
    let l = c.loop-place in
    let all = c.as_slice-item-items.result.now in
    let v = c.item-item.result in
    let left = items_view (drop l.place all) in
    let rest = items_view (drop (l.place + 1) all) in
    let whole = items_of c.args.items.now in
    let is : left ≡ item (tree_of v) rest = next_place all l.place (l.place + 1) v c.loop-place-test.true c.item-item.is refl in
    let sizes : items_size left ≡ size_of (tree_of v) + items_size rest + 1 = ap items_size is in
    record {
      faults = place_faultless l.place (l.place + 1) left rest whole (tree_of v) is refl l.invariant.faults c.in-Ok.ensures.kind.faultless;
      kinds = place_gathered left rest whole (tree_of v) c.in-Ok.kind l.known.items c.push_place.new.known.items is c.in_ok-push_place-in-Ok.ensures c.in-Ok.ensures.kind l.invariant.kinds;
      fewer = omega (arith, sizes, l.invariant.fewer);
    }

pub known_places-returns-clause-kind : goal.known_places-returns-clause-kind
known_places-returns-clause-kind t c =
    let l = c.loop-place in
    let all = c.as_slice-item-items.result.now in
    let left = items_view (drop l.place all) in
    let whole = items_of c.args.items.now in
    let ended : left ≡ no_items = no_place_left all l.place (omega arith) in
    record { faultless = places_faultless l.place left whole ended l.invariant.faults; kinds = places_end left whole l.known.items ended l.invariant.kinds }

pub known_fields-loop-name-preserved : goal.known_fields-loop-name-preserved
known_fields-loop-name-preserved t c =
    let l = c.loop-name in
    let e : Entry = (c.in-Some.name.now, c.in-Some.value.now) in
    let behind = c.next.new.self in
    let left = members_view l.name-iterator in
    let rest = members_view behind in
    let whole = members_of c.args.fields.now in
    let name = string_bytes e.0 in
    let is : left ≡ member name (tree_of e.1) rest = ap members_view c.in-Some.ensures.steps in
    let sorted = subst (λ es. IsStrictlySortedBy string_cmp (keys_of es)) c.in-Some.ensures.steps l.invariant.sorted in
    let sizes : members_size left ≡ size_of (tree_of e.1) + members_size rest + 1 = ap members_size is in
    record {
      faults = field_faultless name left rest whole (tree_of e.1) is l.invariant.faults c.in-Ok.ensures.kind.faultless;
      kinds = field_gathered name c.as_str.result.now left rest whole (tree_of e.1) c.in-Ok.kind l.known.items c.push_field.new.known.items is c.as_str.ensures.value c.in_ok-push_field-in-Ok.ensures c.in-Ok.ensures.kind l.invariant.kinds;
      sorted = sorted_behind e behind sorted;
      ordered = λ found. l.invariant.ordered (subst NamesAreOrdered (sym is) (names_ordered e behind sorted found));
      fewer = omega (arith, sizes, l.invariant.fewer);
    }

pub known_fields-returns-clause-kind : goal.known_fields-returns-clause-kind
known_fields-returns-clause-kind t c =
    let l = c.loop-name in
    let left = members_view l.name-iterator in
    let whole = members_of c.args.fields.now in
    let ended : left ≡ no_members = ap members_view c.in-None.ensures.steps.0 in
    record { faultless = fields_faultless left whole ended l.invariant.faults; kinds = fields_end left whole l.known.items ended l.invariant.kinds; ordered = l.invariant.ordered (subst NamesAreOrdered (sym ended) tt) }

pub part-returns-in-None-clause-kind : goal.part-returns-in-None-clause-kind
part-returns-in-None-clause-kind t c = IfOk-weaker c.description.result _ _ (λ kind is. required_part _ kind (sym c.in-None.ensures) is) c.description.ensures.kind

pub part-returns-in_ok-or_absent-in-Ok-clause-kind : goal.part-returns-in_ok-or_absent-in-Ok-clause-kind
part-returns-in_ok-or_absent-in-Ok-clause-kind t c = optional_part _ _ _ _ (sym c.in-Some.ensures) c.in-Ok.ensures.kind c.in_ok-or_absent-in-Ok.ensures

pub part-returns-in-Err-clause-fault : goal.part-returns-in-Err-clause-fault
part-returns-in-Err-clause-fault t c = optional_refused (tree_of c.args.value.now) (tree_of c.in-Some.held.now) _ _ (sym c.in-Some.ensures) c.in-Err.ensures.fault c.under_name.ensures
