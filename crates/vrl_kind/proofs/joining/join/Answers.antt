use Rattle.std.proofs.lemmas.Result.{IfOk-weaker}
use Rattle.vrl_kind.specs.Kinds.{IsJoin}
use Rattle.vrl_kind.specs.Seen.{seen_tree}
use Rattle.vrl_kind.proofs.Joins.{inhabits_above, join_above, join_along}
use Rattle.vrl_kind.proofs.joining.join.Goals as goal

pub returns-clause-first : goal.returns-clause-first
returns-clause-first c = IfOk-weaker c.join_seen.result (λ kind. IsJoin (seen_tree c.of.result) (seen_tree c.of-2.result) kind) _ (λ kind union. λ value. inhabits_above value _ _ (join_above _ _ kind (join_along _ _ _ _ _ c.of.ensures.tree c.of-2.ensures.tree union)).0) c.join_seen.ensures.union

pub returns-clause-second : goal.returns-clause-second
returns-clause-second c = IfOk-weaker c.join_seen.result (λ kind. IsJoin (seen_tree c.of.result) (seen_tree c.of-2.result) kind) _ (λ kind union. λ value. inhabits_above value _ _ (join_above _ _ kind (join_along _ _ _ _ _ c.of.ensures.tree c.of-2.ensures.tree union)).1) c.join_seen.ensures.union
