use Rattle.std.proofs.Common.{◌≡◌, ◌++◌, map}
use Rattle.vrl_value.specs.Tree.{string}
use Rattle.vrl_value.specs.View.{members_of, members_view, tree_of}
use Rattle.vrl_builtin.specs.Listed.{entries_in}
use Rattle.fn_object.proofs.keys.names.Given as goal

abbrev pub invariant-loop-name : goal.invariant-loop-name
invariant-loop-name l =
    map tree_of l.names.items ++ map (λ e. string e.0) (entries_in (members_view l.name-iterator)) ≡ map (λ e. string e.0) (entries_in (members_of l.fields))
