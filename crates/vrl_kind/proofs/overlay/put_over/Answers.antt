use Rattle.std.proofs.Common.{false}
use Rattle.std.proofs.lemmas.Result.{IfOk-weaker}
use Rattle.vrl_kind.specs.Canonical.{bare_rest, with_absent}
use Rattle.vrl_kind.specs.Kinds.{IsJoin}
use Rattle.vrl_kind.specs.Seen.{part_rest, seen_tree}
use Rattle.vrl_kind.proofs.Overlays.{over_join}
use Rattle.vrl_kind.proofs.overlay.put_over.Goals as goal

pub returns-clause-over : goal.returns-clause-over
returns-clause-over c =
    IfOk-weaker c.join_seen.result (λ kind. IsJoin (with_absent false (bare_rest (part_rest c.args.upper.part))) (seen_tree c.args.lower) kind) _
    (λ kind join. over_join (seen_tree c.args.lower) (bare_rest (part_rest c.args.upper.part)) kind c.args.upper.absent c.if-not-upper.false join)
    c.join_seen.ensures.union
