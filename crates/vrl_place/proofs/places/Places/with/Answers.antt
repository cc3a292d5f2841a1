use Rattle.std.proofs.Common.{◌≡◌, ◌<◌, ◌+◌, ◌∙◌, [], ◌∷◌, length, ap, add-one, length-append, arith}
use Rattle.vrl_kind.specs.KindTree.{KindTree}
use Rattle.vrl_kind.specs.Kinds.{tags_at}
use Rattle.vrl_place.specs.Inner.{places_sets, spot_sets}
use Rattle.vrl_place.proofs.Changed.{changed_above, changed_first, opened_made}
use Rattle.vrl_place.proofs.Views.{more_so_far}
use Rattle.vrl_place.proofs.places.Places.with.Goals as goal

pub loop-place-init : goal.loop-place-init
loop-place-init c = changed_first c.args.self c.args.at c.args.kind c.args.absent c.args.filled _ _ _ c.in_ok-push.ensures.items (c.len-place.ensures ∙ c.push.new.self.ok.0) c.in_ok-kinds.ensures.at c.in_ok-kinds.ensures.places

pub loop-place-preserved : goal.loop-place-preserved
loop-place-preserved c =
    let count : c.len-place.result ≡ length {A = KindTree} c.push.new.self.items = c.len-place.ensures ∙ c.push.new.self.ok.0 in
    let more : length {A = KindTree} c.push.new.self.items ≡ length {A = KindTree} c.in_ok-kinds.kinds.items + length (c.args.kind ∷ []) = ap length c.in_ok-push.ensures.items ∙ length-append c.in_ok-kinds.kinds.items (c.args.kind ∷ []) in
    let over : c.args.at < c.loop-place.place = omega (arith, c.in_ok-kinds.ensures.at, c.loop-place.auto.place) in
    more_so_far _ _ c.in_ok-kind.field-0 _ _ _ c.in_ok-push-2.ensures.items (add-one c.loop-place.place) c.loop-place.invariant
    (λ p t. opened_made c.args.absent (tags_at c.in_ok-kind.field-0) (spot_sets c.or_absent_if.result) (spot_sets c.place.result) (places_sets c.args.self c.loop-place.place) c.in_ok-kind.ensures c.or_absent_if.ensures c.place.ensures p t
    ∙ changed_above c.args.self c.args.at (tags_at c.args.kind) c.args.absent c.args.filled c.loop-place.place over p t)
