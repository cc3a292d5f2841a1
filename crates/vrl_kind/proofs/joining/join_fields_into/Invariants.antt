use Rattle.vrl_kind.specs.Canonical.{field_or, rest_kind}
use Rattle.vrl_kind.specs.Seen.{part_rest}
use Rattle.vrl_kind.specs.View.{fields_view}
use Rattle.vrl_kind.proofs.Gathering.{GathersSoFar, FieldIsMet}
use Rattle.vrl_kind.proofs.joining.join_fields_into.Given as goal

abbrev pub invariant-loop-field : goal.invariant-loop-field
invariant-loop-field l =
    GathersSoFar (field_or (fields_view l.object.fields.now) (rest_kind (part_rest l.object.rest))) l.fn.first l.all (FieldIsMet l.object.fields.now (rest_kind (part_rest l.object.rest)) l.field-index)
