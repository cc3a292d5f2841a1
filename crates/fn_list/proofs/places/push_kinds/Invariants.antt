use Rattle.std.proofs.Common.{◌≡◌, ◌++◌, drop}
use Rattle.fn_list.proofs.places.push_kinds.Given as goal

abbrev pub invariant-loop-kind : goal.invariant-loop-kind
invariant-loop-kind l = l.kinds.items ++ drop l.kind-index l.more ≡ l.initial.kinds.items ++ l.more
