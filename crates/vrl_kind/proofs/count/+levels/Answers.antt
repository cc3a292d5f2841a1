use Rattle.std.proofs.Common.{arith, add-one}
use Rattle.vrl_kind.proofs.Slices.{place_nodes, field_nodes, places_levels_take, fields_levels_take}
use Rattle.vrl_kind.proofs.count.+levels.Goals as goal

pub places_levels-levels-requires : goal.places_levels-levels-requires
places_levels-levels-requires t c = (omega (arith, c.decreases, place_nodes _ _ _ c.loop-kind-test.true c.kind-item.is), tt)

pub places_levels-loop-kind-preserved : goal.places_levels-loop-kind-preserved
places_levels-loop-kind-preserved t c = omega (arith, places_levels_take _ _ _ _ (add-one c.loop-kind.kind-index) c.loop-kind-test.true c.kind-item.is)

pub fields_levels-levels-requires : goal.fields_levels-levels-requires
fields_levels-levels-requires t c = (omega (arith, c.decreases, field_nodes _ _ _ c.loop-field-test.true c.field-item.is), tt)

pub fields_levels-loop-field-preserved : goal.fields_levels-loop-field-preserved
fields_levels-loop-field-preserved t c = omega (arith, fields_levels_take _ _ _ _ (add-one c.loop-field.field-index) c.loop-field-test.true c.field-item.is)
