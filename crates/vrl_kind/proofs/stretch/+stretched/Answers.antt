use Rattle.std.proofs.Common.{arith, add-one}
use Rattle.vrl_kind.proofs.Repeating.{copies_on, copies_all, fields_on, fields_all}
use Rattle.vrl_kind.proofs.Slices.{place_nodes, field_nodes}
use Rattle.vrl_kind.proofs.Stretching.{parts_canonical}
use Rattle.vrl_kind.proofs.stretch.+stretched.Goals as goal

pub stretched-invariant_of-result : goal.stretched-invariant_of-result
stretched-invariant_of-result t c = parts_canonical _ _ c.kind.inside.scalars _ _ _ _ c.in_ok-list-in-Some.ensures c.in_ok-object-in-Some.ensures c.kind.invariant

pub stretched_places-stretched-requires : goal.stretched_places-stretched-requires
stretched_places-stretched-requires t c = (omega (arith, c.decreases, place_nodes _ _ _ c.loop-place-test.true c.index-kinds-place.is), tt)

pub stretched_fields-stretched-requires : goal.stretched_fields-stretched-requires
stretched_fields-stretched-requires t c = (omega (arith, c.decreases, field_nodes _ _ _ c.loop-field-test.true c.field-item.is), tt)

pub stretched_places-loop-place-preserved : goal.stretched_places-loop-place-preserved
stretched_places-loop-place-preserved t c =
    copies_on _ _ _ _ _ _ _ _ _ _ _ _ (add-one c.loop-place.place) c.loop-place-test.true c.index-kinds-place.is c.in_ok-each.ensures c.more_at.ensures c.in_ok-push_copies.ensures c.in_ok-push.ensures.items c.loop-place.invariant

pub stretched_places-returns : goal.stretched_places-returns
stretched_places-returns t c = copies_all _ _ _ _ _ _ c.loop-place-test.false c.loop-place.invariant

pub stretched_fields-loop-field-preserved : goal.stretched_fields-loop-field-preserved
stretched_fields-loop-field-preserved t c =
    fields_on _ _ _ _ _ _ _ _ (add-one c.loop-field.field-index) c.loop-field-test.true c.field-item.is c.in_ok-name.ensures c.in_ok-stretched.ensures c.in_ok-push.ensures.items c.loop-field.invariant

pub stretched_fields-returns : goal.stretched_fields-returns
stretched_fields-returns t c = fields_all _ _ _ _ c.loop-field-test.false c.loop-field.invariant
