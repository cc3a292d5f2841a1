use Rattle.std.proofs.Common.{◌≡◌, ◌≤◌, ◌*◌, ◌+◌}
use Rattle.vrl_value.specs.View.{members_of, members_view, tree_of}
use Rattle.fn_object.specs.Merge.{lay_all}
use Rattle.vrl_builtin.proofs.Sizes.{members_size, size_of}
use Rattle.fn_object.proofs.merge.+lay.Given as goal

abbrev pub decreases-lay_copies : goal.decreases-lay_copies
decreases-lay_copies l = 4 * members_size (members_of l.others.now) + 2

abbrev pub decreases-lay_field : goal.decreases-lay_field
decreases-lay_field l = 4 * size_of (tree_of l.value.now) + 1

abbrev pub decreases-lay_over : goal.decreases-lay_over
decreases-lay_over l = 4 * size_of (tree_of l.new.now)

abbrev pub invariant-lay_copies-loop-name : goal.invariant-lay_copies-loop-name
invariant-lay_copies-loop-name l = record {
  whole : lay_all (members_view l.name-iterator) (members_of l.fields) ≡ lay_all (members_of l.others) (members_of l.initial.fields);
  fewer : members_size (members_view l.name-iterator) ≤ members_size (members_of l.others);
}
