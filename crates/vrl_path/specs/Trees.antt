-- Setting and removing on trees, step by step. What they give is what look-up tells of a set and of
-- a removal at every path: the laws say so.
use Rattle.std.specs.Prelude.{ℕ, List, [], ◌∷◌, Option, Some, None}
use Rattle.vrl_value.specs.Look.{Found, there, missing, no_place, item_at}
use Rattle.vrl_value.specs.Parts.{put_item, replace, replace_item}
use Rattle.vrl_value.specs.Tree.{Tree, null, array, object, Items, Members, find, put}
use Rattle.vrl_path.specs.FromEnd.{front_padded, part_behind, step_in}
use Rattle.vrl_path.specs.Parts.{replace_part, set_part, without_part}
use Rattle.vrl_path.specs.Read.{read_at, signed_part_at}
use Rattle.vrl_path.specs.Remove.{removable_at}
use Rattle.vrl_path.specs.declared.path.Step.{Step}

-- t with n at the path
abbrev pub set_tree : Tree → List Step → Tree → Tree
set_tree t [] n = n
set_tree t (s ∷ p) n = set_part (step_in t s) (set_tree (part_behind t s) p n) (front_padded t s)

-- the members with n at the path in the one at the key k
abbrev pub members_if : Option Tree → (Tree → Members) → Members → Members
members_if None found other = other
members_if (Some u) found other = found u

abbrev pub set_in_fields : List ℕ → Members → List Step → Tree → Members
set_in_fields k ms p n = members_if (find k ms) (λ u. replace k (set_tree u p n) ms) (put k (set_tree null p n) ms)

-- the items with n at the path in the one at the place i
abbrev pub items_if : Option Tree → (Tree → Items) → Items → Items
items_if None found other = other
items_if (Some u) found other = found u

abbrev pub set_in_items : ℕ → Items → List Step → Tree → Items
set_in_items i ts p n =
    items_if (item_at i ts) (λ u. replace_item i (set_tree u p n) ts) (put_item i (set_tree null p n) ts)

-- the members of an object, and the items of an array
abbrev pub members_if_object : Tree → Option Members
members_if_object (object ms) = Some ms
members_if_object t = None

abbrev pub items_if_array : Tree → Option Items
items_if_array (array ts) = Some ts
items_if_array t = None

-- one tree where a sub-tree was found, made of it, and another where none was
abbrev pub if_there : Found → (Tree → Tree) → Tree → Tree
if_there (there u) found other = found u
if_there missing found other = other
if_there no_place found other = other

-- t without what stands at the path
abbrev pub remove_tree : Tree → List Step → Tree
remove_tree t [] = t
remove_tree t (s ∷ []) = if_there (signed_part_at t s) (λ u. without_part (step_in t s) t) t
remove_tree t (s ∷ r ∷ p) =
    if_there (signed_part_at t s) (λ u. replace_part (step_in t s) (remove_tree u (r ∷ p)) t) t

abbrev pub remove_in_fields : List ℕ → Members → List Step → Members
remove_in_fields k ms p = members_if (find k ms) (λ u. replace k (remove_tree u p) ms) ms

abbrev pub remove_in_items : ℕ → Items → List Step → Items
remove_in_items i ts p = items_if (item_at i ts) (λ u. replace_item i (remove_tree u p) ts) ts

-- what a read at the path finds in a tree, if there is one
abbrev pub read_in : Option Tree → List Step → Option Tree
read_in None p = None
read_in (Some u) p = read_at u p

-- what a removal at the path takes out of a tree, if there is one
abbrev pub removable_in : Option Tree → List Step → Option Tree
removable_in None p = None
removable_in (Some u) p = removable_at u p
