use Rattle.std.proofs.Common.{refl, ap, arith, add-one, length}
use Rattle.vrl_kind.specs.View.{places_view, fields_view}
use Rattle.vrl_kind.proofs.Inclusion.{none}
use Rattle.vrl_kind.proofs.Sameness.{one_places, one_fields, at_one, take_one, all_one}
use Rattle.vrl_kind.proofs.Slices.{place_nodes, field_nodes}
use Rattle.vrl_kind.proofs.same.+same.Goals as goal

pub same_fields-returns-then-a-b : goal.same_fields-returns-then-a-b
same_fields-returns-then-a-b t c = (λ is. none _ is, λ e. absurd (c.if-a-b.true (ap length (one_fields _ _ e))))

pub same_fields-same_field-requires : goal.same_fields-same_field-requires
same_fields-same_field-requires t c = (omega (arith, c.decreases, field_nodes _ _ _ c.loop-at-test.true c.index-a-at.is), tt)

pub same_fields-returns-then-not-same_field : goal.same_fields-returns-then-not-same_field
same_fields-returns-then-not-same_field t c = (λ is. none _ is, λ e. c.if-not-same_field.ensures.1 (at_one _ _ _ _ _ c.loop-at-test.true c.index-a-at.is c.index-b-at.is (one_fields _ _ e)))

pub same_places-returns-then-a-b : goal.same_places-returns-then-a-b
same_places-returns-then-a-b t c = (λ is. none _ is, λ e. absurd (c.if-a-b.true (ap length (one_places _ _ e))))

pub same_places-same-requires : goal.same_places-same-requires
same_places-same-requires t c = (omega (arith, c.decreases, place_nodes _ _ _ c.loop-at-test.true c.index-a-at.is), tt)

pub same_places-returns-then-not-same : goal.same_places-returns-then-not-same
same_places-returns-then-not-same t c = (λ is. none _ is, λ e. c.if-not-same.ensures.1 (at_one _ _ _ _ _ c.loop-at-test.true c.index-a-at.is c.index-b-at.is (one_places _ _ e)))

pub same_fields-loop-at-preserved : goal.same_fields-loop-at-preserved
same_fields-loop-at-preserved t c =
    take_one _ _ _ _ _ _ (add-one c.loop-at.at) c.loop-at-test.true (omega arith) c.index-a-at.is c.index-b-at.is c.loop-at.invariant (c.if-not-same_field.ensures.0 refl)

pub same_fields-returns : goal.same_fields-returns
same_fields-returns t c = (λ is. ap fields_view (all_one _ _ _ c.loop-at-test.false c.if-a-b.false c.loop-at.invariant), λ e. refl)

pub same_places-loop-at-preserved : goal.same_places-loop-at-preserved
same_places-loop-at-preserved t c =
    take_one _ _ _ _ _ _ (add-one c.loop-at.at) c.loop-at-test.true (omega arith) c.index-a-at.is c.index-b-at.is c.loop-at.invariant (c.if-not-same.ensures.0 refl)

pub same_places-returns : goal.same_places-returns
same_places-returns t c = (λ is. ap places_view (all_one _ _ _ c.loop-at-test.false c.if-a-b.false c.loop-at.invariant), λ e. refl)
