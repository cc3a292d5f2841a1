use Rattle.std.proofs.Common.{arith, add-one}
use Rattle.vrl_kind.proofs.Repeating.{nodes_on, fields_nodes_on}
use Rattle.vrl_kind.proofs.Slices.{place_nodes, field_nodes}
use Rattle.vrl_kind.proofs.stretch.+stretched_nodes.Goals as goal

pub places_nodes-stretched_nodes-each-requires : goal.places_nodes-stretched_nodes-each-requires
places_nodes-stretched_nodes-each-requires t c = (omega (arith, c.decreases, place_nodes _ _ _ c.loop-place-test.true c.index-kinds-place.is), tt)

pub places_nodes-loop-place-preserved : goal.places_nodes-loop-place-preserved
places_nodes-loop-place-preserved t c =
    nodes_on _ _ _ _ _ _ _ c.loop-place.sum c.stretched_nodes-each.result c.more_at.result c.saturating_mul-more.result _ _ (add-one c.loop-place.place) c.loop-place-test.true c.index-kinds-place.is
    c.stretched_nodes-each.ensures c.more_at.ensures (omega (arith, c.saturating_mul-more.ensures)) (omega (arith, c.saturating_add.ensures, c.saturating_add-sum.ensures)) c.loop-place.invariant

pub fields_nodes-stretched_nodes-requires : goal.fields_nodes-stretched_nodes-requires
fields_nodes-stretched_nodes-requires t c = (omega (arith, c.decreases, field_nodes _ _ _ c.loop-field-test.true c.field-item.is), tt)

pub fields_nodes-loop-field-preserved : goal.fields_nodes-loop-field-preserved
fields_nodes-loop-field-preserved t c = omega (arith, fields_nodes_on c.args.behind.now _ _ _ _ (add-one c.loop-field.field-index) c.loop-field-test.true c.field-item.is)
