use Rattle.std.proofs.Common.{Some}
use Rattle.std.proofs.lemmas.Result.{IfOk-weaker}
use Rattle.vrl_kind.specs.Make.{IsObjectOf}
use Rattle.vrl_kind.specs.Overlay.{over_at}
use Rattle.vrl_kind.specs.Seen.{part_rest}
use Rattle.vrl_kind.specs.View.{fields_view, object_of}
use Rattle.vrl_kind.proofs.Namewise.{combined_along, object_combined}
use Rattle.vrl_kind.proofs.Overlays.{over_allows}
use Rattle.vrl_kind.proofs.overlay.overlaid_fields.Goals as goal

pub of-requires-clause-absent : goal.of-requires-clause-absent
of-requires-clause-absent c = over_allows c.in_ok-own.own (part_rest c.args.lower.rest) (part_rest c.args.upper.rest) (combined_along over_at _ _ _ _ _ c.of_rest.ensures.tree c.of_rest-2.ensures.tree c.in_ok-own.ensures.over)

pub returns-clause-over : goal.returns-clause-over
returns-clause-over c =
    IfOk-weaker c.of.result (λ part. IsObjectOf (fields_view c.in_ok-known.known.items) c.in_ok-own.own (object_of (Some part))) _
    (λ part made. object_combined over_at c.in_ok-own.own (part_rest c.args.lower.rest) (part_rest c.args.upper.rest) (fields_view c.args.lower.fields.now) (fields_view c.args.upper.fields.now) (fields_view c.in_ok-known.known.items) (object_of (Some part)) c.in_ok-known.ensures made.meaning)
    c.of.ensures
