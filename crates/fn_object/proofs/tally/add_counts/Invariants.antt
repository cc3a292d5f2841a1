use Rattle.std.proofs.Common.{◌≡◌, drop, map}
use Rattle.vrl_value.specs.Tree.{no_members}
use Rattle.vrl_value.specs.View.{members_of, tree_of}
use Rattle.fn_object.specs.Counting.{add_counts}
use Rattle.fn_object.proofs.tally.add_counts.Given as goal

abbrev pub invariant-loop-item : goal.invariant-loop-item
invariant-loop-item l = add_counts (map tree_of (drop l.item-index l.items)) (members_of l.fields) ≡ add_counts (map tree_of l.items) no_members
