use mir.Syntax.{w64}
use mir.Val.{SFits, of_z, to_z}
use Rattle.std.proofs.Common.{◌≡◌, ◌<◌, inl, inr, length, MatchOption, rules, sym, ap, ◌∙◌, subst, arith}
use Rattle.std.proofs.lemmas.Int.{to_z-of_z}
use Rattle.std.proofs.lemmas.Bool.Decides.{nat_tests}
use Rattle.std.proofs.lemmas.Result.{IfOk-weaker}
use Rattle.std.specs.Result.{IfOk}
use Rattle.vrl_value.specs.Look.{field, place}
use Rattle.vrl_path.specs.declared.path.Step.{Step as CodeStep}
use Rattle.vrl_path.specs.Read.{place_of}
use Rattle.vrl_kind.specs.Kinds.{IsJoin, tags_at}
use Rattle.vrl_kind.specs.Make.{named_view}
use Rattle.vrl_kind.specs.Sets.{SameSets}
use Rattle.vrl_kind.specs.View.{places_view, rest_of}
use Rattle.vrl_place.specs.Inner.{from_start, sets_with_list, sets_with_object, spot_sets}
use Rattle.vrl_place.specs.Remove.{IsRemoval, IsTakenAt, IsTakenFromEnd, IsTakenSomewhere, without_part}
use Rattle.vrl_place.proofs.Removing.{end_removed, kept_field, kept_list, left_in_places, left_places, no_steps, place_removed, removed_in_field, removed_in_list, removed_somewhere, rest_shorter, taken_last}
use Rattle.vrl_place.proofs.remove.+remove.Goals as goal

pub remove_field-returns-then-not-has : goal.remove_field-returns-then-not-has
remove_field-returns-then-not-has t c = IfOk-weaker c.kind.result (λ kind. SameSets (tags_at kind) (spot_sets c.args.spot)) _
    (λ kind same. kept_field (spot_sets c.args.spot) c.args.name.now c.args.behind.now kind (sym c.has.ensures ∙ c.if-not-has.true) same) c.kind.ensures

pub remove_field-returns-then-is_empty : goal.remove_field-returns-then-is_empty
remove_field-returns-then-is_empty t c =
    let none : length {A = CodeStep} c.args.behind.now ≡ 0 = grind (arith, nat_tests, c.is_empty.ensures, c.if-is_empty.true) in
    IfOk-weaker c.remove_last_field.result (λ kind. SameSets (tags_at kind) (without_part (spot_sets c.args.spot) (field c.args.name.now))) _
    (λ kind same. taken_last (spot_sets c.args.spot) (tags_at kind) (field c.args.name.now) c.args.behind.now (λ part left. IsRemoval part c.args.behind.now left) none same) c.remove_last_field.ensures

pub remove_in_field-returns : goal.remove_in_field-returns
remove_in_field-returns t c = IfOk-weaker c.with_object.result (λ kind. SameSets (tags_at kind) (sets_with_object (spot_sets c.args.spot) (named_view c.in_ok-known.known.items) (rest_of c.in_ok-rest.field-0))) _
    (λ kind made. removed_in_field (spot_sets c.args.spot) c.args.name.now c.args.behind.now (λ part left. IsRemoval part c.args.behind.now left) c.fields-fields.result (spot_sets c.field.result) c.in_ok-part.part c.in_ok-known.known.items (rest_of c.in_ok-rest.field-0) kind
    c.requires.some c.requires.object c.fields-fields.ensures c.field.ensures c.in_ok-part.ensures c.in_ok-known.ensures c.in_ok-rest.ensures made)
    c.with_object.ensures

pub remove_place-returns-then-not-has : goal.remove_place-returns-then-not-has
remove_place-returns-then-not-has t c = IfOk-weaker c.kind.result (λ kind. SameSets (tags_at kind) (spot_sets c.args.spot)) _
    (λ kind same. kept_list (spot_sets c.args.spot) c.args.at c.args.behind.now kind (sym c.has.ensures ∙ c.if-not-has.true) same) c.kind.ensures

pub remove_place-returns-then-is_empty : goal.remove_place-returns-then-is_empty
remove_place-returns-then-is_empty t c =
    let none : length {A = CodeStep} c.args.behind.now ≡ 0 = grind (arith, nat_tests, c.is_empty.ensures, c.if-is_empty.true) in
    IfOk-weaker c.remove_last_place.result (λ kind. SameSets (tags_at kind) (without_part (spot_sets c.args.spot) (place c.args.at))) _
    (λ kind same. taken_last (spot_sets c.args.spot) (tags_at kind) (place c.args.at) c.args.behind.now (λ part left. IsRemoval part c.args.behind.now left) none same) c.remove_last_place.ensures

pub remove_in_place-returns : goal.remove_in_place-returns
remove_in_place-returns t c = IfOk-weaker c.with_list.result (λ kind. SameSets (tags_at kind) (sets_with_list (spot_sets c.args.spot) (places_view c.in_ok-known.known.items) (rest_of c.in_ok-rest.field-0))) _
    (λ kind made. removed_in_list (spot_sets c.args.spot) c.args.at c.args.behind.now (λ part left. IsRemoval part c.args.behind.now left) c.places-places.result (spot_sets c.place.result) c.in_ok-part.part c.in_ok-known.known.items (rest_of c.in_ok-rest.field-0) kind
    c.requires.some c.requires.list c.places-places.ensures c.place.ensures c.in_ok-part.ensures c.in_ok-known.ensures.places c.in_ok-known.ensures.at c.in_ok-known.ensures.known c.in_ok-rest.ensures made)
    c.with_list.ensures

pub remove_at-remove_field-requires : goal.remove_at-remove_field-requires
remove_at-remove_field-requires t c = (rest_shorter _ _ _ _ c.in-Some-Field-default.ensures.cases.0 c.decreases, tt)

pub remove_at-remove_signed_place-requires : goal.remove_at-remove_signed_place-requires
remove_at-remove_signed_place-requires t c = (rest_shorter _ _ _ _ c.in-Some-Place-default.ensures.cases.0 c.decreases, tt)

pub remove_at-returns-in-None : goal.remove_at-returns-in-None
remove_at-returns-in-None t c =
    subst (λ p. IfOk c.kind.result (λ kind. IsRemoval (spot_sets c.args.spot) p (tags_at kind))) (sym (no_steps c.args.steps.now c.in-None.ensures.cases)) c.kind.ensures

pub remove_signed_place-returns-in-Some : goal.remove_signed_place-returns-in-Some
remove_signed_place-returns-in-Some t c =
    let fits : SFits w64 c.args.at = search rules in
    IfOk-weaker c.remove_place.result (λ kind. IsTakenAt (spot_sets c.args.spot) (place c.in-Some.at) c.args.behind.now (λ part left. IsRemoval part c.args.behind.now left) (tags_at kind)) _
    (λ kind taken. place_removed (spot_sets c.args.spot) (tags_at kind) c.args.at c.in-Some.at c.args.behind.now (ap from_start (sym (to_z-of_z w64 c.args.at fits)) ∙ sym c.from_start.ensures ∙ c.in-Some.is) taken)
    c.remove_place.ensures

pub remove_signed_place-returns-in-None : goal.remove_signed_place-returns-in-None
remove_signed_place-returns-in-None t c =
    let fits : SFits w64 c.args.at = search rules in
    let same : to_z w64 (of_z w64 c.args.at) ≡ c.args.at = to_z-of_z w64 c.args.at fits in
    IfOk-weaker c.remove_from_end.result (λ kind. IsTakenFromEnd (spot_sets c.args.spot) (to_z w64 (of_z w64 c.args.at)) c.args.behind.now (λ part left. IsRemoval part c.args.behind.now left) (tags_at kind)) _
    (λ kind taken. end_removed (spot_sets c.args.spot) (tags_at kind) c.args.at c.args.behind.now (ap from_start (sym same) ∙ sym c.from_start.ensures ∙ c.in-None.is)
    (subst (λ z. IsTakenFromEnd (spot_sets c.args.spot) z c.args.behind.now (λ part left. IsRemoval part c.args.behind.now left) (tags_at kind)) same taken))
    c.remove_from_end.ensures

pub remove_from_end-returns-then-not-has : goal.remove_from_end-returns-then-not-has
remove_from_end-returns-then-not-has t c = IfOk-weaker c.kind.result (λ kind. SameSets (tags_at kind) (spot_sets c.args.spot)) _
    (λ kind same. inl (sym c.has.ensures ∙ c.if-not-has.true, same)) c.kind.ensures

pub remove_from_end-returns-in-None : goal.remove_from_end-returns-in-None
remove_from_end-returns-in-None t c = IfOk-weaker c.remove_somewhere.result (λ kind. IsTakenSomewhere (spot_sets c.args.spot) c.args.behind.now (λ part left. IsRemoval part c.args.behind.now left) (tags_at kind)) _
    (λ kind taken. inr (inr (record { arrays = sym c.has.ensures ∙ c.if-not-has.false; none = c.in-None.ensures }, taken))) c.remove_somewhere.ensures

pub remove_from_end-returns-in-Some : goal.remove_from_end-returns-in-Some
remove_from_end-returns-in-Some t c =
    let fits : SFits w64 c.args.at = search rules in
    let counted : c.index.result ≡ place_of c.in-Some.count c.args.at = c.index.ensures ∙ ap (place_of c.in-Some.count) (to_z-of_z w64 c.args.at fits) in
    IfOk-weaker c.remove_if_there.result
    (λ kind. MatchOption c.index.result (SameSets (tags_at kind) (spot_sets c.args.spot)) (λ j. IsTakenAt (spot_sets c.args.spot) (place j) c.args.behind.now (λ part left. IsRemoval part c.args.behind.now left) (tags_at kind))) _
    (λ kind taken. inr (inl (
      c.in-Some.count,
      c.in-Some.ensures,
      subst (λ o. MatchOption o (SameSets (tags_at kind) (spot_sets c.args.spot)) (λ j. IsTakenAt (spot_sets c.args.spot) (place j) c.args.behind.now (λ part left. IsRemoval part c.args.behind.now left) (tags_at kind))) counted taken,
    )))
    c.remove_if_there.ensures

pub remove_somewhere-returns : goal.remove_somewhere-returns
remove_somewhere-returns t c = IfOk-weaker c.with_list.result (λ kind. SameSets (tags_at kind) (sets_with_list (spot_sets c.args.spot) (places_view c.new.result.items) (rest_of c.in_ok-rest.rest))) _
    (λ kind made. removed_somewhere (spot_sets c.args.spot) c.in_ok-places.places c.in_ok-left.left kind c.args.behind.now (λ part left. IsRemoval part c.args.behind.now left) c.new.result.items (rest_of c.in_ok-rest.rest)
    c.requires c.in_ok-places.ensures c.in_ok-left.ensures c.new.ensures.items c.in_ok-rest.ensures made)
    c.with_list.ensures

pub left_somewhere-returns-then-is_empty : goal.left_somewhere-returns-then-is_empty
left_somewhere-returns-then-is_empty t c =
    let none : length {A = CodeStep} c.args.behind.now ≡ 0 = grind (arith, nat_tests, c.is_empty.ensures, c.if-is_empty.true) in
    left_places c.args.places c.args.behind.now (λ part left. IsRemoval part c.args.behind.now left) none

pub left_somewhere-returns : goal.left_somewhere-returns
left_somewhere-returns t c =
    let some : 0 < length {A = CodeStep} c.args.behind.now = grind (arith, nat_tests, c.is_empty.ensures, c.if-is_empty.false) in
    IfOk-weaker c.join.result (λ kind. IsJoin c.args.places c.in_ok-removed.removed kind) _
    (λ kind join. left_in_places c.args.places c.in_ok-removed.removed kind (spot_sets c.of.result) c.args.behind.now (λ part left. IsRemoval part c.args.behind.now left) some c.of.ensures c.in_ok-removed.ensures join)
    c.join.ensures.union
