use Rattle.std.proofs.Common.{ap, ◌∙◌, arith}
use Rattle.std.proofs.lemmas.List.{take_all}
use Rattle.vrl_kind.specs.View.{places_view, fields_view}
use Rattle.vrl_kind.proofs.Sameness.{one_field, copied_on}
use Rattle.vrl_kind.proofs.Slices.{place_nodes, field_nodes}
use Rattle.vrl_kind.proofs.+copy.Goals as goal

pub make::copy_places-copy-requires : goal.make::copy_places-copy-requires
make::copy_places-copy-requires t c = (omega (arith, c.decreases, place_nodes _ _ _ c.loop-kind-test.true c.kind-item.is), tt)

pub make::copy_fields-copy-requires-in-loop-field : goal.make::copy_fields-copy-requires-in-loop-field
make::copy_fields-copy-requires-in-loop-field t c = (omega (arith, c.decreases, field_nodes _ _ _ c.loop-field-test.true c.field-item.is), tt)

pub make::copy_places-loop-kind-preserved : goal.make::copy_places-loop-kind-preserved
make::copy_places-loop-kind-preserved t c =
    copied_on _ _ _ _ _ _ c.loop-kind-test.true c.kind-item.is c.in_ok-copy.ensures c.in_ok-push.ensures.items c.loop-kind.invariant

pub make::copy_places-returns : goal.make::copy_places-returns
make::copy_places-returns t c = ap places_view (c.loop-kind.invariant ∙ take_all _ _ c.loop-kind-test.false)

pub make::copy_fields-loop-field-preserved : goal.make::copy_fields-loop-field-preserved
make::copy_fields-loop-field-preserved t c =
    let same = one_field _ _ c.in_ok-name.ensures c.in_ok-copy.ensures in
    copied_on _ _ _ _ _ _ c.loop-field-test.true c.field-item.is same c.in_ok-push.ensures.items c.loop-field.invariant

pub make::copy_fields-returns : goal.make::copy_fields-returns
make::copy_fields-returns t c = ap fields_view (c.loop-field.invariant ∙ take_all _ _ c.loop-field-test.false)
