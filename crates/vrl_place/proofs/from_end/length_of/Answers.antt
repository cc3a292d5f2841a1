use Rattle.std.proofs.Common.{◌≡◌, rules, sym, ap, ◌∙◌}
use Rattle.std.proofs.lemmas.Bool.{true≢false}
use Rattle.vrl_kind.specs.Canonical.{list_tree}
use Rattle.vrl_kind.specs.KindTree.{list_part}
use Rattle.vrl_kind.specs.View.{places_of, rest_of}
use Rattle.vrl_place.proofs.Lengths.{known_length, length_known, rest_known}
use Rattle.vrl_place.proofs.from_end.length_of.Goals as goal

pub returns-then-not-is_nothing : goal.returns-then-not-is_nothing
returns-then-not-is_nothing c =
    let is : list_tree c.args.kind.now ≡ list_part (places_of c.in_ok-places.places.now) (rest_of c.in_ok-places.rest.now) = search rules in
    λ count has. true≢false (sym (rest_known c.args.kind.now (places_of c.in_ok-places.places.now) (rest_of c.in_ok-places.rest.now) count c.kind_is_canonical.ensures is has) ∙ sym c.is_nothing.ensures ∙ c.if-not-is_nothing.true)

pub returns-then-not-all_sure : goal.returns-then-not-all_sure
returns-then-not-all_sure c =
    let is : list_tree c.args.kind.now ≡ list_part (places_of c.in_ok-places.places.now) (rest_of c.in_ok-places.rest.now) = search rules in
    λ count has. true≢false (sym (length_known c.args.kind.now c.as_slice-places.result.now (rest_of c.in_ok-places.rest.now) count c.kind_is_canonical.ensures
    (is ∙ ap (λ ps. list_part ps (rest_of c.in_ok-places.rest.now)) (sym c.as_slice-places.ensures)) has) ∙ sym c.all_sure.ensures ∙ c.if-not-all_sure.true)

pub returns : goal.returns
returns c =
    let is : list_tree c.args.kind.now ≡ list_part (places_of c.in_ok-places.places.now) (rest_of c.in_ok-places.rest.now) = search rules in
    known_length c.args.kind.now c.as_slice-places.result.now (rest_of c.in_ok-places.rest.now)
    (is ∙ ap (λ ps. list_part ps (rest_of c.in_ok-places.rest.now)) (sym c.as_slice-places.ensures))
    (sym c.is_nothing.ensures ∙ c.if-not-is_nothing.false) (sym c.all_sure.ensures ∙ c.if-not-all_sure.false)
