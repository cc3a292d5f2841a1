-- What the public calls promise, from what the walks compute.
use Rattle.std.proofs.Common.{◌≡◌, ◌<◌, List, Option, Some, None, sym, ◌∙◌, subst, option_map, IfNone, OnSome, Result, Ok, Err, OnOk, OnErr, arith}
use Rattle.vrl_value.specs.Depth.{depth_of}
use Rattle.vrl_value.specs.Laws.{ItemsAreLists, MembersAreMaps, TreesAreTold, TreesStayInOrder}
use Rattle.vrl_value.specs.Tree.{Tree, IsOrdered}
use Rattle.vrl_path.specs.FromEnd.{padded, steps_in}
use Rattle.vrl_path.specs.Laws.{SetsDeepen}
use Rattle.vrl_path.specs.Trees.{set_tree, remove_tree}
use Rattle.vrl_path.specs.Remove.{removable_at, IsRemoved}
use Rattle.vrl_path.specs.Write.{depth_limit, IsAsDeep, IsSet, IsTooDeep}
use Rattle.vrl_path.specs.declared.path.Step.{Step}
use Rattle.vrl_path.proofs.Depths.{set_deep, set_shallow}
use Rattle.vrl_path.proofs.FromEnd.{nothing_removed, removable_stands, remove_plain, set_padded}
use Rattle.vrl_path.proofs.OneResult.{one_set}
use Rattle.vrl_path.proofs.Order.{set_ordered}
use Rattle.vrl_path.proofs.Removed.{is_removed}
use Rattle.vrl_path.proofs.Sets.{is_set}

-- the walk sets
pub set_is : MembersAreMaps → ItemsAreLists → (v : Tree) (p : List Step) (n : Tree) → IsSet v p n (set_tree v p n)
set_is maps lists v p n = subst (IsSet v p n) (sym (set_padded maps lists v p n)) (is_set maps lists (padded v p) (steps_in v p) n)

pub as_deep : (v : Tree) (p : List Step) (n w : Tree) → w ≡ set_tree v p n → IsAsDeep v p n w
as_deep v p n w is =
    let least = set_deep v p n in
    let greatest = set_shallow v p n in
    subst (IsAsDeep v p n) (sym is) (record { least = omega arith; greatest = omega arith })

pub set_as_deep : MembersAreMaps → ItemsAreLists → TreesStayInOrder → TreesAreTold → SetsDeepen
set_as_deep maps lists stay told v p n w set old new ordered = as_deep v p n w (one_set told v p n w (set_tree v p n) set (set_is maps lists v p n) ordered (set_ordered stay v p n old new))

pub is_set_at : MembersAreMaps → ItemsAreLists → (v : Tree) (p : List Step) (n w : Tree) → w ≡ set_tree v p n → IsSet v p n w
is_set_at maps lists v p n w is = subst (IsSet v p n) (sym is) (set_is maps lists v p n)

pub set_ordered_at : TreesStayInOrder → (v : Tree) (p : List Step) (n w : Tree) → w ≡ set_tree v p n → IsOrdered v → IsOrdered n → IsOrdered w
set_ordered_at stay v p n w is old new = subst IsOrdered (sym is) (set_ordered stay v p n old new)

pub too_deep : MembersAreMaps → ItemsAreLists → TreesStayInOrder → (v : Tree) (p : List Step) (n : Tree) → depth_limit < depth_of (set_tree v p n) → IsTooDeep v p n
too_deep maps lists stay v p n deeper = record { result = set_tree v p n; is_set = set_is maps lists v p n; ordered = set_ordered stay v p n; deeper = deeper }

pub removed_some : MembersAreMaps → ItemsAreLists → (o : Option Tree) (v : Tree) (p : List Step) (w : Tree) → removable_at v p ≡ o → w ≡ remove_tree v p → OnSome o (IsRemoved v p w)
removed_some maps lists None v p w is rest = tt
removed_some maps lists (Some x) v p w is rest = subst (IsRemoved v p) (sym (rest ∙ remove_plain v p x is)) (is_removed maps lists v (steps_in v p) x (removable_stands v p x is))

pub removed_none : (o : Option Tree) (v : Tree) (p : List Step) (w : Tree) → removable_at v p ≡ o → w ≡ remove_tree v p → IfNone o (w ≡ v)
removed_none None v p w is rest = rest ∙ nothing_removed v p is
removed_none (Some x) v p w is rest = tt

-- a fact for a value's tree is one for the value
pub on_some_map : {T : Type 0} (o : Option T) (f : T → Tree) (P : Type 0) → OnSome (option_map f o) P → OnSome o P
on_some_map None f P h = tt
on_some_map (Some x) f P h = h

pub if_none_map : {T : Type 0} (o : Option T) (f : T → Tree) (P : Type 0) → IfNone (option_map f o) P → IfNone o P
if_none_map None f P h = h
if_none_map (Some x) f P h = tt

-- in order after a set, and where it failed
pub result_ordered : {T E : Type 0} (stay : TreesStayInOrder) (r : Result T E) (v : Tree) (p : List Step) (n w : Tree) → OnOk r (w ≡ set_tree v p n) → OnErr r (w ≡ v) → IsOrdered v → IsOrdered n → IsOrdered w
result_ordered stay (Ok x) v p n w set same old new = set_ordered_at stay v p n w set old new
result_ordered stay (Err e) v p n w set same old new = subst IsOrdered (sym same) old
