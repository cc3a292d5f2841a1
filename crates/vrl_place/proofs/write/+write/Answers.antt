use mir.Syntax.{w64}
use mir.Val.{SFits, of_z, to_z}
use Rattle.std.proofs.Common.{◌≡◌, inr, not, rules, sym, ap, ◌∙◌, subst}
use Rattle.std.proofs.lemmas.Int.{to_z-of_z}
use Rattle.std.proofs.lemmas.Result.{IfOk-weaker}
use Rattle.vrl_value.specs.Look.{place}
use Rattle.vrl_kind.specs.Kinds.{SameTags, tags_at}
use Rattle.vrl_kind.specs.Make.{array_kind, object_kind, named_view}
use Rattle.vrl_kind.specs.View.{places_view, rest_of}
use Rattle.vrl_place.specs.FromEnd.{IsSurePlace}
use Rattle.vrl_place.specs.Inner.{from_start, spot_sets}
use Rattle.vrl_place.specs.Write.{IsPut, IsPutFromEnd, IsPutSomewhere, IsWrite}
use Rattle.vrl_place.proofs.Writing.{end_written, place_written, written_field, written_place, written_somewhere}
use Rattle.vrl_place.proofs.write.+write.Goals as goal

pub write_field-returns : goal.write_field-returns
write_field-returns t c = IfOk-weaker c.object.result (λ kind. SameTags kind (object_kind (named_view c.in_ok-known.known.items) (rest_of c.in_ok-rest.field-0))) _
    (λ kind made. written_field (spot_sets c.args.spot) (λ part written. IsWrite part c.args.behind.now (tags_at c.args.new.now) written) c.args.name.now _ c.fields-fields.result (spot_sets c.field.result) (spot_sets c.or_absent_if.result) c.in_ok-part.part c.in_ok-known.known.items (rest_of c.in_ok-rest.field-0) kind
    (ap not c.is_alone-absent.ensures) c.fields-fields.ensures c.field.ensures c.or_absent_if.ensures c.in_ok-part.ensures c.in_ok-known.ensures c.in_ok-rest.ensures made)
    c.object.ensures

pub write_place-returns : goal.write_place-returns
write_place-returns t c = IfOk-weaker c.list.result (λ kind. SameTags kind (array_kind (places_view c.in_ok-known.known.items) (rest_of c.in_ok-rest.field-0))) _
    (λ kind made. written_place (spot_sets c.args.spot) (λ part written. IsWrite part c.args.behind.now (tags_at c.args.new.now) written) c.args.at _ c.places-places.result (spot_sets c.place.result) (spot_sets c.or_absent_if.result) c.in_ok-part.part c.in_ok-known.known.items (rest_of c.in_ok-rest.field-0) kind
    (ap not c.is_alone-absent.ensures) c.places-places.ensures c.place.ensures c.or_absent_if.ensures c.in_ok-part.ensures c.in_ok-known.ensures.places c.in_ok-known.ensures.at c.in_ok-known.ensures.known c.in_ok-rest.ensures made)
    c.list.ensures

pub write_signed_place-returns-in-Some : goal.write_signed_place-returns-in-Some
write_signed_place-returns-in-Some t c =
    let fits : SFits w64 c.args.at = search rules in
    IfOk-weaker c.write_place.result (λ kind. IsPut (spot_sets c.args.spot) (place c.in-Some.at) (λ part written. IsWrite part c.args.behind.now (tags_at c.args.new.now) written) (tags_at kind)) _
    (λ kind put. place_written (spot_sets c.args.spot) (tags_at c.args.new.now) (tags_at kind) c.args.at c.in-Some.at c.args.behind.now (ap from_start (sym (to_z-of_z w64 c.args.at fits)) ∙ sym c.from_start.ensures ∙ c.in-Some.is) put)
    c.write_place.ensures

pub write_signed_place-returns-in-None : goal.write_signed_place-returns-in-None
write_signed_place-returns-in-None t c =
    let fits : SFits w64 c.args.at = search rules in
    let same : to_z w64 (of_z w64 c.args.at) ≡ c.args.at = to_z-of_z w64 c.args.at fits in
    IfOk-weaker c.write_from_end.result (λ kind. IsPutFromEnd (spot_sets c.args.spot) (to_z w64 (of_z w64 c.args.at)) (λ part written. IsWrite part c.args.behind.now (tags_at c.args.new.now) written) (tags_at kind)) _
    (λ kind put. end_written (spot_sets c.args.spot) (tags_at c.args.new.now) (tags_at kind) c.args.at c.args.behind.now (ap from_start (sym same) ∙ sym c.from_start.ensures ∙ c.in-None.is)
    (subst (λ z. IsPutFromEnd (spot_sets c.args.spot) z (λ part written. IsWrite part c.args.behind.now (tags_at c.args.new.now) written) (tags_at kind)) same put))
    c.write_from_end.ensures

pub write_from_end-returns-in-None : goal.write_from_end-returns-in-None
write_from_end-returns-in-None t c =
    let fits : SFits w64 c.args.at = search rules in
    let same : to_z w64 (of_z w64 c.args.at) ≡ c.args.at = to_z-of_z w64 c.args.at fits in
    IfOk-weaker c.write_somewhere.result (λ kind. IsPutSomewhere (spot_sets c.args.spot) (λ part written. IsWrite part c.args.behind.now (tags_at c.args.new.now) written) (tags_at kind)) _
    (λ kind some. inr ((λ j sure. c.in-None.ensures j (subst (λ z. IsSurePlace (spot_sets c.args.spot) z j) (sym same) sure)), some))
    c.write_somewhere.ensures

pub write_somewhere-returns : goal.write_somewhere-returns
write_somewhere-returns t c = IfOk-weaker c.list.result (λ kind. SameTags kind (array_kind (places_view c.new.result.items) (rest_of c.in_ok-rest.rest))) _
    (λ kind made. written_somewhere (spot_sets c.args.spot) (λ part written. IsWrite part c.args.behind.now (tags_at c.args.new.now) written) c.in_ok-places.places c.of-null.result c.in_ok-old.old c.in_ok-written.written c.in_ok-each.each kind (spot_sets c.of.result) c.new.result.items (rest_of c.in_ok-rest.rest)
    c.in_ok-places.ensures c.of-null.ensures c.in_ok-old.ensures.union c.of.ensures c.in_ok-written.ensures c.in_ok-each.ensures.union c.new.ensures.items c.in_ok-rest.ensures made)
    c.list.ensures
