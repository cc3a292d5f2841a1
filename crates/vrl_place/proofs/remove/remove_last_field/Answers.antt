use Rattle.std.proofs.lemmas.Result.{IfOk-weaker}
use Rattle.vrl_kind.specs.Kinds.{tags_at}
use Rattle.vrl_kind.specs.Make.{named_view}
use Rattle.vrl_kind.specs.Sets.{SameSets}
use Rattle.vrl_kind.specs.View.{rest_of}
use Rattle.vrl_place.specs.Inner.{sets_with_object, spot_sets}
use Rattle.vrl_place.proofs.Removing.{removed_last_field}
use Rattle.vrl_place.proofs.remove.remove_last_field.Goals as goal

pub returns : goal.returns
returns c = IfOk-weaker c.with_object.result (λ kind. SameSets (tags_at kind) (sets_with_object (spot_sets c.args.spot) (named_view c.in_ok-known.known.items) (rest_of c.in_ok-rest.field-0))) _
    (λ kind made. removed_last_field (spot_sets c.args.spot) c.args.name.now c.fields-fields.result c.of-part.result c.in_ok-known.known.items (rest_of c.in_ok-rest.field-0) kind
    c.requires c.fields-fields.ensures c.of-part.ensures c.in_ok-known.ensures c.in_ok-rest.ensures made)
    c.with_object.ensures
