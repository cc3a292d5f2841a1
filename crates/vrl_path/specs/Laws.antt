-- Laws of reading, setting and removing at paths.
use Rattle.std.specs.Prelude.{◌≡◌, ◌≢◌, List, [], ◌∷◌, IfNone, IfSome, OnSome}
use Rattle.vrl_value.specs.Look.{there, raw_at}
use Rattle.vrl_value.specs.Tree.{Tree, IsOrdered}
use Rattle.vrl_path.specs.FromEnd.{front_padded, part_behind, step_in, steps_in}
use Rattle.vrl_path.specs.Read.{read_at}
use Rattle.vrl_path.specs.Remove.{removable_at, IsRemoved}
use Rattle.vrl_path.specs.Trees.{remove_tree, set_tree}
use Rattle.vrl_path.specs.Write.{IsAsDeep, IsPlainSet, IsSet}
use Rattle.vrl_path.specs.declared.path.Step.{Step}

-- what a read finds is what look-up finds at the steps that the path stands for
abbrev pub ReadsAreLookUps : Type 0
ReadsAreLookUps = (t : Tree) (p : List Step) → IfSome (read_at t p) (λ u. raw_at t (steps_in t p) ≡ there u)

-- a set is one of one step, to the part behind the first step with a set at the rest of the path
abbrev pub SetsGoOn : Type 0
SetsGoOn = (v : Tree) (s : Step) (p : List Step) (n w : Tree) → IsSet v (s ∷ p) n w
    → (t : Tree) × IsSet (part_behind v s) p n t × IsPlainSet (front_padded v s) (step_in v s ∷ []) t w

-- among the trees in order a set has one result
abbrev pub SetsAreOne : Type 0
SetsAreOne =
    (v : Tree) (p : List Step) (n w u : Tree) → IsSet v p n w → IsSet v p n u → IsOrdered w → IsOrdered u → w ≡ u

-- among the trees in order a removal at a path of one step at least has one result
abbrev pub RemovalsAreOne : Type 0
RemovalsAreOne = (v : Tree) (p : List Step) (w u : Tree) → p ≢ [] → IsRemoved v p w → IsRemoved v p u → IsOrdered w
    → IsOrdered u → w ≡ u

-- how deep the result of a set is; so where v is within a limit, the result is over it exactly
-- where the path and n are together
abbrev pub SetsDeepen : Type 0
SetsDeepen =
    (v : Tree) (p : List Step) (n w : Tree) → IsSet v p n w → IsOrdered v → IsOrdered n → IsOrdered w → IsAsDeep v p n w

-- `set_tree` is a set, is as deep as one, and keeps trees in order
abbrev pub SetTreesAreSets : Type 0
SetTreesAreSets = (v : Tree) (p : List Step) (n : Tree) → IsSet v p n (set_tree v p n)
    × IsAsDeep v p n (set_tree v p n) × (IsOrdered v → IsOrdered n → IsOrdered (set_tree v p n))

-- `remove_tree` is a removal where there is something to remove, else it leaves the tree; and it
-- keeps trees in order
abbrev pub RemovedTreesAreRemovals : Type 0
RemovedTreesAreRemovals = (v : Tree) (p : List Step) → OnSome (removable_at v p) (IsRemoved v p (remove_tree v p))
    × IfNone (removable_at v p) (remove_tree v p ≡ v) × (IsOrdered v → IsOrdered (remove_tree v p))
