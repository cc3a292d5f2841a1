use Rattle.std.proofs.Common.{◌≡◌, ◌++◌, drop, map}
use Rattle.vrl_value.specs.View.{tree_of}
use Rattle.fn_list.proofs.copies.push_copies.Given as goal

abbrev pub invariant-loop-item : goal.invariant-loop-item
invariant-loop-item l = map tree_of l.items.items ++ map tree_of (drop l.item-index l.more) ≡ map tree_of l.initial.items.items ++ map tree_of l.more
