-- Removals: a store from which something was taken out fits what is known behind the removal.
use Rattle.std.proofs.Common.{◌≡◌, List, [], ◌∷◌, Option, Some, None, IfSome, IfNone, IsTrue, MatchOption, OnSome, option_map, refl, ◌∙◌}
use Rattle.vrl_value.specs.Look.{Step, raw_at, tag_found}
use Rattle.vrl_value.specs.Tree.{Tree}
use Rattle.vrl_value.specs.declared.value.Tag.{Tag}
use Rattle.vrl_path.specs.Remove.{IsRemoved, removable_at}
use Rattle.vrl_path.specs.Trees.{remove_tree}
use Rattle.vrl_path.specs.declared.path.Step.{Step as CodeStep}
use Rattle.vrl_syntax.specs.declared.root.Root.{Root}
use Rattle.vrl_kind.specs.KindTree.{KindTree}
use Rattle.vrl_kind.specs.Kinds.{found_at, option_tags, tags_at, Inhabits}
use Rattle.vrl_kind.specs.Tags.{Tags}
use Rattle.vrl_state.specs.States.{with_kind, IsCutOf, IsWritten, RootMap}
use Rattle.vrl_state.specs.Stores.{value_of, with_value, FitsKnown, IsWithout, Store}
use Rattle.vrl_syntax.specs.Stores.{left_in}
use Rattle.vrl_store.specs.Places.{removed, root_value, root_without}
use Rattle.vrl_judge.specs.Rules.{IsDeleted}
use Rattle.vrl_compile.proofs.SoundValues.{same_tag-itself}
use Rattle.vrl_compile.specs.SoundLaws.{Laws}

-- ---- a root

found_in : (found : Option Tag) (T : Tags) → ((t : Tag) → T t ≡ option_tags found t) → IfSome found (λ t. IsTrue (T t))
found_in None T same = tt
found_in (Some t) T same = same t ∙ same_tag-itself t

-- a value is of the kind that has its tags alone
of_its_tags : (v : Tree) (K : KindTree) → ((p : List Step) (t : Tag) → tags_at K p t ≡ found_at v p t) → Inhabits v K
of_its_tags v K same p = found_in (tag_found (raw_at v p)) (tags_at K p) (same p)

-- the state in which a root has a kind, as a write of the whole root
whole_written : (root : Root) (v : Tree) (K : KindTree) (known after : Option RootMap) (is : IsCutOf (found_at v) K) → after ≡ option_map (with_kind root K) known → IsWritten root [] is.whole known after
whole_written root v K None after is same = same
whole_written root v K (Some roots) after is same = (K, record { whole = is.whole; canonical = is.canonical; write = λ p t. refl; cut = is.cut }, same)

-- what is left in a root stands there
root_left : Laws → (root : Root) (K : KindTree) (known after : Option RootMap) (store : Store) → IsCutOf (found_at (left_in root)) K → after ≡ option_map (with_kind root K) known → FitsKnown store known
    → FitsKnown (with_value root (left_in root) store) after
root_left laws root K known after store cut same fits =
    let set = laws.sets (root_value root store) [] (left_in root) in
    laws.writes root [] cut.whole (left_in root) known after store (with_value root (left_in root) store) (whole_written root (left_in root) K known after cut same) fits
    (of_its_tags (left_in root) cut.whole cut.tags) (record { value = left_in root; set = set.0; store = refl })

-- ---- a part

-- a removal, whether there is something to remove or not
without_by : (v : Tree) (p : List CodeStep) (w : Tree) (found : Option Tree) → OnSome found (IsRemoved v p w) → IfNone found (w ≡ v) → MatchOption found (w ≡ v) (λ t. IsRemoved v p w)
without_by v p w None some none = none
without_by v p w (Some t) some none = some

is_without : Laws → (v : Tree) (p : List CodeStep) → IsWithout v p (remove_tree v p)
is_without laws v p =
    let removed = laws.removed v p in
    without_by v p (remove_tree v p) (removable_at v p) removed.0 removed.1

-- the root without what stands at the path, where it is there
taken_by : Laws → (root : Root) (path : List CodeStep) (store : Store) (v : Option Tree)
    → MatchOption v (root_without root path v store ≡ store) (λ u. (w : Tree) × IsWithout u path w × (root_without root path v store ≡ with_value root w store))
taken_by laws root path store None = refl
taken_by laws root path store (Some u) = (remove_tree u path, is_without laws u path, refl)

-- ---- what is judged to be left

pub removal_fits : Laws → (root : Root) (path : List CodeStep) (known after : Option RootMap) (store : Store) → IsDeleted root path known after → FitsKnown store known → FitsKnown (removed root path store) after
removal_fits laws root [] known after store is fits = root_left laws root is.0 known after store is.1 is.2 fits
removal_fits laws root (step ∷ path) known after store is fits =
    laws.removals root (step ∷ path) known after store (removed root (step ∷ path) store) is fits (taken_by laws root (step ∷ path) store (value_of root store))
