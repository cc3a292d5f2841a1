use Rattle.std.proofs.Common.{arith, add-one}
use Rattle.vrl_kind.proofs.Slices.{place_nodes, field_nodes, places_nodes_take, fields_nodes_take}
use Rattle.vrl_kind.proofs.count.+nodes.Goals as goal

pub places_nodes-nodes-requires : goal.places_nodes-nodes-requires
places_nodes-nodes-requires t c = (omega (arith, c.decreases, place_nodes _ _ _ c.loop-kind-test.true c.kind-item.is), tt)

pub places_nodes-loop-kind-preserved : goal.places_nodes-loop-kind-preserved
places_nodes-loop-kind-preserved t c = omega (arith, places_nodes_take _ _ _ _ (add-one c.loop-kind.kind-index) c.loop-kind-test.true c.kind-item.is)

pub fields_nodes-nodes-requires : goal.fields_nodes-nodes-requires
fields_nodes-nodes-requires t c = (omega (arith, c.decreases, field_nodes _ _ _ c.loop-field-test.true c.field-item.is), tt)

pub fields_nodes-loop-field-preserved : goal.fields_nodes-loop-field-preserved
fields_nodes-loop-field-preserved t c = omega (arith, fields_nodes_take _ _ _ _ (add-one c.loop-field.field-index) c.loop-field-test.true c.field-item.is)
