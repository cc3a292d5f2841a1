use Rattle.std.proofs.Common.{◌+◌, refl, ap, ◌∙◌, add-one}
use Rattle.vrl_place.specs.Inner.{places_sets, spot_sets}
use Rattle.vrl_place.specs.Sets.{or_absent_if}
use Rattle.vrl_place.proofs.Changed.{moved_above, opened_made}
use Rattle.vrl_place.proofs.places.Places.moved_to.Goals as goal

pub returns-else-place-at : goal.returns-else-place-at
returns-else-place-at c = λ p t.
    opened_made c.args.absent (spot_sets c.or_absent_if.result) (spot_sets c.or_absent_if.result) (spot_sets c.place-else-place-at.result) (places_sets c.args.self (c.args.place + 1)) (λ q u. refl) c.or_absent_if.ensures c.place-else-place-at.ensures p t
    ∙ ap (λ n. or_absent_if c.args.absent (places_sets c.args.self n) p t) (add-one c.args.place)
    ∙ moved_above c.args.self c.args.at c.args.absent c.args.place c.if-place-at.false p t
