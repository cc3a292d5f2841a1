use Rattle.std.proofs.Common.{◌≡◌, ◌∷◌, [], All, map, sym, ap, subst, ◌∙◌, rules}
use Rattle.std.proofs.lemmas.List.{map-append}
use Rattle.std.proofs.lemmas.List.Elements.{All-head, All-tail}
use Rattle.vrl_value.specs.Tree.{object}
use Rattle.vrl_value.specs.View.{tree_of}
use Rattle.vrl_pattern.specs.Places.{AreParts}
use Rattle.fn_search.specs.Fields.{fields}
use Rattle.fn_search.proofs.Fielded.{items_go_on}
use Rattle.fn_search.proofs.parse_regex.objects.Goals as goal

pub match_object-requires : goal.match_object-requires
match_object-requires c =
    let text = c.args.text.now in
    let is : c.loop-first.left.now ≡ c.in-Some.first.now ∷ c.in-Some.others.now = search rules in
    subst (AreParts text) (sym c.as_slice.ensures) (All-head (AreParts text) c.in-Some.first.now c.in-Some.others.now (subst (All (AreParts text)) is c.loop-first.invariant.1))

pub loop-first-preserved : goal.loop-first-preserved
loop-first-preserved c =
    let text = c.args.text.now in
    let is : c.loop-first.left.now ≡ c.in-Some.first.now ∷ c.in-Some.others.now = search rules in (
      items_go_on (λ groups. object (fields c.args.names.now c.args.numbered text groups)) (map tree_of c.loop-first.objects.items) _ _ (tree_of c.in_ok-match_object.field-0) c.in-Some.first.now c.in-Some.others.now c.loop-first.left.now is
          (c.in_ok-match_object.ensures ∙ ap (λ groups. object (fields c.args.names.now c.args.numbered text groups)) c.as_slice.ensures)
          (ap (map tree_of) c.in_ok-push.ensures.items ∙ map-append tree_of c.loop-first.objects.items (c.in_ok-match_object.field-0 ∷ [])) c.loop-first.invariant.0,
      All-tail (AreParts text) c.in-Some.first.now c.in-Some.others.now (subst (All (AreParts text)) is c.loop-first.invariant.1),
    )
