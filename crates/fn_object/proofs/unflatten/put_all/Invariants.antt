use Rattle.std.proofs.Common.{◌≡◌}
use Rattle.vrl_value.specs.Tree.{no_members, object}
use Rattle.vrl_value.specs.View.{members_of, members_view, tree_of}
use Rattle.fn_object.specs.Unflatten.{put_paths}
use Rattle.fn_object.proofs.unflatten.put_all.Given as goal

abbrev pub invariant-loop-name : goal.invariant-loop-name
invariant-loop-name l = put_paths l.separator (members_view l.name-iterator) (tree_of l.value) ≡ put_paths l.separator (members_of l.fields) (object no_members)
