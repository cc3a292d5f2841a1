use Rattle.std.proofs.Common.{◌++◌, true, List, drop}
use Rattle.vrl_kind.specs.KindTree.{KindTree}
use Rattle.vrl_kind.specs.Kinds.{tags_at}
use Rattle.fn_list.specs.Widened.{AreWidened}
use Rattle.fn_list.proofs.places.widened_places.Given as goal

-- with what the places left may become, all are told
abbrev pub invariant-loop-place : goal.invariant-loop-place
invariant-loop-place l = (more : List KindTree) → AreWidened l.sure (tags_at l.with) (drop l.place-index l.places) more → AreWidened true (tags_at l.with) l.places (l.kinds.items ++ more)
