use Rattle.std.proofs.Common.{◌≤◌, length, get_or, subst, arith}
use Rattle.vrl_pattern.proofs.Openings.{boundary_first, empty_by, names_behind_escape, names_escape_high}
use Rattle.vrl_pattern.proofs.groups.behind_escape.Goals as goal
use Rattle.vrl_pattern.proofs.groups.behind_escape.Goals.{then-is_empty-via-then-is_empty, then-is_empty-via-else-is_empty+then-as_bytes-ge128}

pub returns-then-is_empty-clause-same : goal.returns-then-is_empty-clause-same
returns-then-is_empty-clause-same c =
    names_escape_high c.args.source.now (λ some. elim c.then-is_empty.branch [
      | then-is_empty-via-then-is_empty w ↦ let none = empty_by (length c.args.source.now) _ c.is_empty.ensures w.if-is_empty.true in absurd (omega arith)
      | then-is_empty-via-else-is_empty+then-as_bytes-ge128 w ↦ subst (λ t. 128 ≤ get_or t 0 0) w.as_bytes.ensures.value w.if-as_bytes-ge128.true
    ])

pub split_at-requires : goal.split_at-requires
split_at-requires c = boundary_first c.args.source.now c.as_bytes.result.now _ c.utf8.source c.as_bytes.ensures.value c.is_empty.ensures c.if-is_empty.false (let below = c.if-as_bytes-ge128.false in omega arith)

pub returns-clause-same : goal.returns-clause-same
returns-clause-same c = rw c.split_at.ensures.back (names_behind_escape c.args.source.now)
