-- What stands in a store from which something was taken out.
use Rattle.std.proofs.Common.{◌≡◌, ℕ, ◌<◌, ◌≤◌, List, [], ◌∷◌, length, get_or, set, Option, Some, None, refl, sym, ap, ◌∙◌, subst, arith}
use Rattle.vrl_value.specs.Depth.{depth_of}
use Rattle.vrl_value.specs.Tree.{null}
use Rattle.vrl_value.specs.View.{tree_of}
use Rattle.vrl_value.specs.declared.value.Value.{Value}
use Rattle.vrl_value.specs.declared.value.Value.TheVariants as value
use Rattle.vrl_path.specs.Trees.{remove_tree}
use Rattle.vrl_path.specs.Write.{depth_limit}
use Rattle.vrl_path.specs.declared.path.Step.{Step}
use Rattle.vrl_syntax.specs.Stores.{left_in, with_value}
use Rattle.vrl_store.specs.Places.{part_of, read_in, removed, root_without}
use Rattle.vrl_store.specs.Kept.{IsShallow}
use Rattle.vrl_store.specs.StoreView.{root_of, store_in, AreNames, Names}
use Rattle.vrl_store.specs.declared.target_path.Base.TheVariants as base
use Rattle.vrl_store.specs.declared.store.Store.{Store as CodeStore}
use Rattle.vrl_store.proofs.Removal.{removed_depth}
use Rattle.vrl_store.proofs.Started.{null_tree}
use Rattle.vrl_store.proofs.StoreReads.{root_variable, seen, variable_given, variable_value}
use Rattle.vrl_store.proofs.Written.{set_same}

-- ---- depth

pub shallow_left : (w u : Value) (path : List Step) → IsShallow (tree_of w) → tree_of u ≡ remove_tree (tree_of w) path → IsShallow (tree_of u)
shallow_left w u path shallow rest =
    let less : depth_of (tree_of u) ≤ depth_of (tree_of w) = subst (λ v. depth_of v ≤ depth_of (tree_of w)) (sym rest) (removed_depth (tree_of w) path) in
    omega arith

pub null_shallow : IsShallow (tree_of value.Null)
null_shallow = subst IsShallow (sym null_tree) (let none : 0 ≤ depth_limit = omega arith in none)

-- ---- a part

pub part_there : (names : Names) (s : CodeStore) (n : ℕ) (path : List Step) (w : Value) → AreNames names s → n < length s.variables.items → Some w ≡ get_or s.variables.items n (Some w)
    → part_of (tree_of w) path ≡ read_in (root_of names (base.Variable n)) path (store_in names s)
part_there names s n path w are within is = ap (λ v. part_of v path) (sym (root_variable names s n (Some w) are within is))

pub left_there : (names : Names) (s : CodeStore) (n : ℕ) (path : List Step) (w u : Value) → AreNames names s → 0 < length path → n < length s.variables.items
    → Some w ≡ get_or s.variables.items n (Some w) → tree_of u ≡ remove_tree (tree_of w) path
    → seen names s.event (set s.variables.items n (Some u)) ≡ removed (root_of names (base.Variable n)) path (store_in names s)
left_there names s n [] w u are part within is rest = absurd (omega arith)
left_there names s n (step ∷ path) w u are part within is rest =
    let root = root_of names (base.Variable n) in
    variable_given names s (set s.variables.items n (Some u)) n u are within refl
    ∙ ap (λ v. with_value root v (store_in names s)) rest
    ∙ ap (λ v. root_without root (step ∷ path) v (store_in names s)) (sym (variable_value names s n (Some w) are within is))

-- ---- of a variable that isn't there

no_part : (path : List Step) → part_of null path ≡ null
no_part [] = refl
no_part (step ∷ path) = refl

pub nothing_there : (names : Names) (s : CodeStore) (n : ℕ) (path : List Step) → AreNames names s → n < length s.variables.items → None ≡ get_or s.variables.items n None
    → tree_of value.Null ≡ read_in (root_of names (base.Variable n)) path (store_in names s)
nothing_there names s n path are within is = null_tree ∙ sym (no_part path) ∙ ap (λ v. part_of v path) (sym (root_variable names s n None are within is))

pub same_absent : (names : Names) (s : CodeStore) (n : ℕ) (path : List Step) (x : Option Value) → AreNames names s → 0 < length path → n < length s.variables.items
    → None ≡ get_or s.variables.items n None → x ≡ None → seen names s.event (set s.variables.items n x) ≡ removed (root_of names (base.Variable n)) path (store_in names s)
same_absent names s n [] x are part within is none = absurd (omega arith)
same_absent names s n (step ∷ path) x are part within is none =
    let root = root_of names (base.Variable n) in
    ap (λ v. seen names s.event (set s.variables.items n v)) none
    ∙ ap (seen names s.event) (set_same s.variables.items n None is)
    ∙ ap (λ v. root_without root (step ∷ path) v (store_in names s)) (sym (variable_value names s n None are within is))

-- ---- a whole root

pub root_left : (names : Names) (s : CodeStore) (items : List (Option Value)) (n : ℕ) (u : Value) → AreNames names s → n < length s.variables.items → items ≡ set s.variables.items n (Some u)
    → tree_of u ≡ left_in (root_of names (base.Variable n)) → seen names s.event items ≡ removed (root_of names (base.Variable n)) [] (store_in names s)
root_left names s items n u are within made left =
    variable_given names s items n u are within made ∙ ap (λ v. with_value (root_of names (base.Variable n)) v (store_in names s)) left
