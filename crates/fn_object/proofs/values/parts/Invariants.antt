use Rattle.std.proofs.Common.{◌≡◌, ◌++◌, map}
use Rattle.vrl_value.specs.View.{members_of, members_view, tree_of}
use Rattle.vrl_builtin.specs.Listed.{entries_in}
use Rattle.fn_object.proofs.values.parts.Given as goal

abbrev pub invariant-loop-name : goal.invariant-loop-name
invariant-loop-name l = map tree_of l.parts.items ++ map (λ e. e.1) (entries_in (members_view l._name-iterator)) ≡ map (λ e. e.1) (entries_in (members_of l.fields))
