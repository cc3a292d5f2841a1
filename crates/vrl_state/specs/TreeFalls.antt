-- Each side of a node has fewer entries than the node.
use Rattle.std.specs.Prelude.{◌≤◌, ◌∷◌, Option, Some, None}
use Rattle.std.proofs.Common.{arith, length-append}
use Rattle.std.specs.declared.alloc.Global.{Global}
use Rattle.std.specs.declared.rc.Rc.{Rc}
use Rattle.vrl_state.specs.EntryView.{entry_of}
use Rattle.vrl_state.specs.Ordered.{tree_size}
use Rattle.vrl_state.specs.declared.tree.Node.{Node}
use Rattle.vrl_state.specs.declared.tree.NameTree.TheDeep.{deep-NameTree}
use Rattle.vrl_state.specs.TreeView.{ordered_of}

pub tree_falls : (n : Option (Rc Node Global)) → deep-NameTree (record { node = n }) ≤ tree_size (ordered_of n)
tree_falls None = omega arith
tree_falls (Some held) =
    omega (arith, length-append held.value.left.entries (entry_of held.value.entry ∷ held.value.right.entries))
