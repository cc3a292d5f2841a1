use Rattle.std.proofs.Common.{◌≡◌, drop, map}
use Rattle.vrl_value.specs.Tree.{no_members}
use Rattle.vrl_value.specs.View.{members_of, tree_of}
use Rattle.fn_object.specs.ObjectFromArray.{put_entries}
use Rattle.fn_object.proofs.object_from_array.object.Given as goal

abbrev pub invariant-loop-element : goal.invariant-loop-element
invariant-loop-element l = put_entries (map tree_of (drop l.element-index l.elements)) (members_of l.fields) ≡ put_entries (map tree_of l.elements) no_members
