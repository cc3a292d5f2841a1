use Rattle.std.proofs.Common.{◌+◌}
use Rattle.vrl_kind.specs.Canonical.{rest_kind}
use Rattle.vrl_kind.specs.Overlay.{over_at}
use Rattle.vrl_kind.specs.Seen.{part_rest}
use Rattle.vrl_kind.specs.View.{fields_view}
use Rattle.vrl_kind.proofs.Ahead.{fields_count}
use Rattle.vrl_kind.proofs.Namewise.{NamesSoFar}
use Rattle.vrl_kind.proofs.overlay.overlaid_known.Given as goal

abbrev pub invariant-loop-pair : goal.invariant-loop-pair
invariant-loop-pair l =
    NamesSoFar over_at (rest_kind (part_rest l.lower.rest)) (rest_kind (part_rest l.upper.rest)) l.own (fields_view l.lower.fields.now) (fields_view l.upper.fields.now) (fields_view l.merge.left.now) (fields_view l.merge.right.now) (fields_view l.known.items)

abbrev pub decreases-loop-pair : goal.decreases-loop-pair
decreases-loop-pair l = fields_count (fields_view l.merge.left.now) + fields_count (fields_view l.merge.right.now)
