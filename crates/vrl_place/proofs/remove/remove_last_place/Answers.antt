use Rattle.std.proofs.lemmas.Result.{IfOk-weaker}
use Rattle.vrl_kind.specs.Kinds.{tags_at}
use Rattle.vrl_kind.specs.Sets.{SameSets}
use Rattle.vrl_kind.specs.View.{places_view, rest_of}
use Rattle.vrl_place.specs.Inner.{sets_with_list, spot_sets}
use Rattle.vrl_place.proofs.Removing.{removed_last_place}
use Rattle.vrl_place.proofs.remove.remove_last_place.Goals as goal

pub returns : goal.returns
returns c = IfOk-weaker c.with_list.result (λ kind. SameSets (tags_at kind) (sets_with_list (spot_sets c.args.spot) (places_view c.in_ok-known.known.items) (rest_of c.in_ok-rest.field-0))) _
    (λ kind made. removed_last_place (spot_sets c.args.spot) c.args.at _ c.places-places.result (spot_sets c.place.result) c.in_ok-known.known.items (rest_of c.in_ok-rest.field-0) kind
    c.requires c.places-places.ensures c.place.ensures c.has-absent.ensures c.in_ok-known.ensures.places c.in_ok-known.ensures.known c.in_ok-rest.ensures made)
    c.with_list.ensures
