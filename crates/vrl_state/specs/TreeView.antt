-- What a node of the tree is seen as, and what holds of it.
use Rattle.std.specs.Prelude.{◌≡◌, ◌+◌, max, [], ◌∷◌, ◌++◌, Option, Some, None, ⊤}
use Rattle.std.specs.declared.alloc.Global.{Global}
use Rattle.std.specs.declared.rc.Rc.{Rc}
use Rattle.vrl_state.specs.EntryView.{entry_of}
use Rattle.vrl_state.specs.Ordered.{DifferByAtMost, IsSorted, Ordered}
use Rattle.vrl_state.specs.declared.tree.Node.{Node}

abbrev pub ordered_of : Option (Rc Node Global) → Ordered
ordered_of None = record { entries = []; height = 0 }
ordered_of (Some held) = record {
  entries = held.value.left.entries ++ entry_of held.value.entry
      ∷ held.value.right.entries;
  height = held.value.height;
}

-- the names rise, the height is right, and the sides differ by at most one
abbrev pub IsBalanced : Option (Rc Node Global) → Type 0
IsBalanced None = ⊤
IsBalanced (Some held) =
    IsSorted (held.value.left.entries ++ entry_of held.value.entry ∷ held.value.right.entries)
    × (held.value.height ≡ max held.value.left.height held.value.right.height + 1)
    × DifferByAtMost 1 held.value.left.height held.value.right.height
