use Rattle.std.proofs.Common.{◌+◌, take, sym, subst}
use Rattle.std.proofs.lemmas.List.Elements.{all_zip_more}
use Rattle.vrl_kind.specs.Kinds.{tags_at}
use Rattle.vrl_kind.specs.Sets.{SameSets}
use Rattle.vrl_judge.specs.ChangedParts.{put_part, ArePlacesMade}
use Rattle.vrl_judge.proofs.closures.mapped_places.Goals as goal

pub loop-place-preserved : goal.loop-place-preserved
loop-place-preserved c =
    let f = put_part c.args.body.now in
    let i = c.loop-place.place-index in
    subst (ArePlacesMade f (take (i + 1) c.args.places.now)) (sym c.in_ok-push.ensures.items)
    (all_zip_more (λ K L. SameSets (tags_at L) (f K)) c.args.places.now c.loop-place.kinds.items i c.place-item.result c.in_ok-kind.kind c.loop-place-test.true c.place-item.is c.loop-place.invariant c.in_ok-kind.ensures.put)
