use Rattle.std.proofs.Common.{◌≡◌, ◌≤◌, ◌*◌, ◌+◌}
use Rattle.vrl_value.specs.View.{members_of, members_view, tree_of}
use Rattle.fn_list.specs.Flatten.{leaves, put_leaves}
use Rattle.vrl_builtin.proofs.Sizes.{members_size, size_of}
use Rattle.fn_list.proofs.flatten.+leaves.Given as goal

abbrev pub decreases-put_fields : goal.decreases-put_fields
decreases-put_fields l = 2 * members_size (members_of l.fields.now) + 1

abbrev pub decreases-put_value : goal.decreases-put_value
decreases-put_value l = 2 * size_of (tree_of l.value.now)

abbrev pub invariant-put_fields-loop-name : goal.invariant-put_fields-loop-name
invariant-put_fields-loop-name l = record {
  whole : put_leaves l.start l.separator (leaves (members_view l.name-iterator)) (members_of l.out) ≡ put_leaves l.start l.separator (leaves (members_of l.fields)) (members_of l.initial.out);
  fewer : members_size (members_view l.name-iterator) ≤ members_size (members_of l.fields);
}
