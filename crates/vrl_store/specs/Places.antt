-- Reading, writing and removing at the paths of a store.
--
-- A write is `set_tree`, which the laws of paths tie to what look-up finds at every path, and a
-- removal is `remove_tree`.
use Rattle.std.specs.Prelude.{Bool, List, [], ◌∷◌, Option, Some, None, is_some, unwrap_or, nat_le, if◌then◌else◌}
use Rattle.vrl_value.specs.Depth.{depth_of}
use Rattle.vrl_value.specs.Tree.{Tree, null}
use Rattle.vrl_path.specs.Read.{read_at}
use Rattle.vrl_path.specs.Trees.{remove_tree, set_tree}
use Rattle.vrl_path.specs.Write.{depth_limit}
use Rattle.vrl_path.specs.declared.path.Step.{Step}
use Rattle.vrl_syntax.specs.Stores.{Store, left_in, value_of, with_value}
use Rattle.vrl_syntax.specs.declared.root.Root.{Root}
use Rattle.vrl_syntax.specs.declared.root.Target.{Target}
use Rattle.vrl_syntax.specs.declared.root.Target.TheVariants.{Nowhere, Place}
use Rattle.vrl_store.specs.Outcomes.{Ended, deep, ends}

-- a root; null where a variable isn't there
abbrev pub root_value : Root → Store → Tree
root_value root store = unwrap_or (value_of root store) null

-- what stands at a path of a value; null where nothing does
abbrev pub part_of : Tree → List Step → Tree
part_of v path = unwrap_or (read_at v path) null

abbrev pub read_in : Root → List Step → Store → Tree
read_in root path store = part_of (root_value root store) path

-- whether something stands at a path, be it null; a root always does
abbrev pub is_there : Root → List Step → Store → Bool
is_there root path store = is_some (read_at (root_value root store) path)

-- the value is within the limit of depth
abbrev pub is_within : Tree → Bool
is_within v = nat_le (depth_of v) depth_limit

-- a root with a value at a path
abbrev pub root_with : Root → List Step → Tree → Store → Tree
root_with root path v store = set_tree (root_value root store) path v

-- What follows once the value stands at the path. A write by which a root would be too deep isn't
-- done, and ends all.
abbrev pub writes : Root → List Step → Tree → Store → (Store → Ended) → Ended
writes root path v store next =
    let w = root_with root path v store in (if is_within w then next (with_value root w store) else ends deep store)

-- a target `_` takes nothing
abbrev pub writes_to : Target → Tree → Store → (Store → Ended) → Ended
writes_to Nowhere v store next = next store
writes_to (Place span root path) v store next = writes root path v store next

-- what stands at a target; null in `_`
abbrev pub target_value : Target → Store → Tree
target_value Nowhere store = null
target_value (Place span root path) store = read_in root path store

-- a root without what stands at a path; a variable that isn't there stays so
abbrev pub root_without : Root → List Step → Option Tree → Store → Store
root_without root path None store = store
root_without root path (Some v) store = with_value root (remove_tree v path) store

-- the store without what stands at a path
abbrev pub removed : Root → List Step → Store → Store
removed root [] store = with_value root (left_in root) store
removed root (step ∷ path) store = root_without root (step ∷ path) (value_of root store) store
