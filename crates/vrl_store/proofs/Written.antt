-- What stands in a store whose variable got a value at a path.
use Rattle.std.proofs.Common.{◌≡◌, ℕ, zero, suc, ◌<◌, Bool, true, false, List, [], ◌∷◌, length, get_or, set, Option, Some, None, is_some, option_map, unwrap_or, OnOk, OnErr, refl, sym, ap, ◌∙◌, subst, arith}
use Rattle.std.proofs.lemmas.Bool.Decides.{nat_tests}
use Rattle.std.proofs.lemmas.List.{set-get_or}
use Rattle.std.specs.Prelude.{IfSome}
use Rattle.std.specs.declared.result.Result.{Result}
use Rattle.std.specs.declared.result.Result.TheVariants.{Ok, Err}
use Rattle.vrl_value.specs.Depth.{depth_of}
use Rattle.vrl_value.specs.Tree.{Tree, null}
use Rattle.vrl_value.specs.View.{tree_of}
use Rattle.vrl_value.specs.declared.value.Value.{Value}
use Rattle.vrl_path.specs.Trees.{set_tree}
use Rattle.vrl_path.specs.Write.{depth_limit}
use Rattle.vrl_path.specs.declared.fault.SetFault.{SetFault}
use Rattle.vrl_path.specs.declared.fault.SetFault.TheVariants as fault
use Rattle.vrl_path.specs.declared.path.Step.{Step}
use Rattle.vrl_syntax.specs.Stores.{with_value}
use Rattle.vrl_store.specs.Places.{is_within, root_with}
use Rattle.vrl_store.specs.Kept.{is_numbered, trees_of, AreKept, AreShallow, IsShallow}
use Rattle.vrl_store.specs.StoreView.{root_of, store_in, variables_of, AreNames, IsWritten, Names}
use Rattle.vrl_store.specs.declared.target_path.Base.TheVariants as base
use Rattle.vrl_store.specs.declared.store.Store.{Store as CodeStore}
use Rattle.vrl_store.proofs.Kept.{kept_set}
use Rattle.vrl_store.proofs.StoreReads.{found_map, map_set, root_variable, seen, variable_given}

-- what is put where it stands changes nothing
pub set_same : {A : Type 0} (xs : List A) (n : ℕ) (x : A) → x ≡ get_or xs n x → set xs n x ≡ xs
set_same xs n x is = ap (set xs n) is ∙ set-get_or xs n x

-- ---- depth

pub shallow_at : (vs : List (Option Value)) (n : ℕ) (v : Value) → n < length vs → Some v ≡ get_or vs n (Some v) → AreShallow (trees_of vs) → IsShallow (tree_of v)
shallow_at [] n v within is are = absurd (omega arith)
shallow_at (None ∷ vs) zero v within is are = cc
shallow_at (Some w ∷ vs) zero v within is are = subst (λ u. IsShallow (tree_of u)) (let one : w ≡ v = cc in one) are.0
shallow_at (w ∷ vs) (suc n) v within is are = shallow_at vs n v (omega arith) is are.1

-- what stood in a variable
pub shallow_found : (vs : List (Option Value)) (n : ℕ) (x : Option Value) → n < length vs → x ≡ get_or vs n x → AreShallow (trees_of vs) → IfSome (option_map tree_of x) IsShallow
shallow_found vs n None within is are = tt
shallow_found vs n (Some v) within is are = shallow_at vs n v within is are

is_within-true : (v : Tree) → IsShallow v → is_within v ≡ true
is_within-true v is = grind (arith, nat_tests)

is_within-false : (v : Tree) → depth_limit < depth_of v → is_within v ≡ false
is_within-false v is = grind (arith, nat_tests)

-- ---- which variables are there

pub numbered_at : (vs : List (Option Value)) (n : ℕ) (x : Option Value) → n < length vs → x ≡ get_or vs n x → is_numbered (trees_of vs) n ≡ is_some (option_map tree_of x)
numbered_at vs n x within is = ap is_some (found_map vs n x within is)

pub absent_at : (vs : List (Option Value)) (n : ℕ) → n < length vs → is_numbered (trees_of vs) n ≡ false → None ≡ get_or vs n None
absent_at [] n within is = absurd (omega arith)
absent_at (None ∷ vs) zero within is = refl
absent_at (Some v ∷ vs) zero within is = cc
absent_at (v ∷ vs) (suc n) within is = absent_at vs n (omega arith) is

-- a variable that was there has another value
pub kept_there : (shallow : Bool) (items : List (Option Value)) (ps : List ℕ) (n : ℕ) (w v : Value) → AreKept shallow (trees_of items) ps → n < length items → Some w ≡ get_or items n (Some w)
    → (shallow ≡ true → IsShallow (tree_of v)) → AreKept shallow (trees_of (set items n (Some v))) ps
kept_there shallow items ps n w v kept within is within_limit = kept_set shallow shallow items ps n v (λ same. same) kept (numbered_at items n (Some w) within is) within_limit

-- ---- what was written

-- what stands in a variable, null where it isn't there
abbrev pub held_in : Option Value → Tree
held_in x = unwrap_or (option_map tree_of x) null

pub written_there : (names : Names) (s : CodeStore) (items : List (Option Value)) (n : ℕ) (path : List Step) (v : Tree) (x : Option Value) (u : Value) → AreNames names s
    → n < length s.variables.items → x ≡ get_or s.variables.items n x → items ≡ set s.variables.items n (Some u)
    → tree_of u ≡ set_tree (held_in x) path v → IsShallow (tree_of u)
    → (is_within (root_with (root_of names (base.Variable n)) path v (store_in names s)) ≡ true)
    × (seen names s.event items ≡ with_value (root_of names (base.Variable n)) (root_with (root_of names (base.Variable n)) path v (store_in names s)) (store_in names s))
written_there names s items n path v x u are within is variables one shallow =
    let root = root_of names (base.Variable n) in
    let made : tree_of u ≡ root_with root path v (store_in names s) = one ∙ ap (λ w. set_tree w path v) (sym (root_variable names s n x are within is)) in (
      subst (λ w. is_within w ≡ true) made (is_within-true (tree_of u) shallow),
      variable_given names s items n u are within variables ∙ ap (λ w. with_value root w (store_in names s)) made,
    )

too_deep_there : (names : Names) (s : CodeStore) (n : ℕ) (path : List Step) (v : Tree) (x : Option Value) → AreNames names s → n < length s.variables.items
    → x ≡ get_or s.variables.items n x → depth_limit < depth_of (set_tree (held_in x) path v)
    → is_within (root_with (root_of names (base.Variable n)) path v (store_in names s)) ≡ false
too_deep_there names s n path v x are within is deep =
    let made = ap (λ w. set_tree w path v) (sym (root_variable names s n x are within is)) in
    subst (λ w. is_within w ≡ false) made (is_within-false (set_tree (held_in x) path v) deep)

-- a variable that looks as it did
same_there : (items : List (Option Value)) (n : ℕ) (w u : Value) → n < length items → Some w ≡ get_or items n (Some w) → tree_of u ≡ tree_of w
    → trees_of (set items n (Some u)) ≡ trees_of items
same_there items n w u within is one =
    map_set items n (Some u) ∙ ap (λ x. set (trees_of items) n (Some x)) one ∙ sym (map_set items n (Some w)) ∙ ap trees_of (set_same items n (Some w) is)

unchanged_there : (names : Names) (s : CodeStore) (n : ℕ) (w u : Value) → n < length s.variables.items → Some w ≡ get_or s.variables.items n (Some w) → tree_of u ≡ tree_of w
    → seen names s.event (set s.variables.items n (Some u)) ≡ store_in names s
unchanged_there names s n w u within is one = ap (λ vs. record { event = tree_of s.event; variables = variables_of names vs }) (same_there s.variables.items n w u within is one)

-- in place
pub written_in : (names : Names) (s : CodeStore) (n : ℕ) (path : List Step) (v : Tree) (w u : Value) (result : Result (Unit {0}) SetFault) → AreNames names s
    → n < length s.variables.items → Some w ≡ get_or s.variables.items n (Some w)
    → OnOk result (tree_of u ≡ set_tree (tree_of w) path v) → OnOk result (IsShallow (tree_of u))
    → (result ≡ Err fault.TooDeep → depth_limit < depth_of (set_tree (tree_of w) path v)) → OnErr result (tree_of u ≡ tree_of w)
    → IsWritten (root_of names (base.Variable n)) path v (store_in names s) (seen names s.event (set s.variables.items n (Some u))) result
written_in names s n path v w u (Ok done) are within is ok shallow deep err = written_there names s (set s.variables.items n (Some u)) n path v (Some w) u are within is refl ok shallow
written_in names s n path v w u (Err fault.TooDeep) are within is ok shallow deep err =
    (too_deep_there names s n path v (Some w) are within is (deep refl), unchanged_there names s n w u within is err)
written_in names s n path v w u (Err fault.Memory) are within is ok shallow deep err = unchanged_there names s n w u within is err

pub shallow_written : (w u : Tree) (result : Result (Unit {0}) SetFault) → IsShallow w → OnOk result (IsShallow u) → OnErr result (u ≡ w) → IsShallow u
shallow_written w u (Ok done) shallow ok err = ok
shallow_written w u (Err f) shallow ok err = subst IsShallow (sym err) shallow

-- in a variable that isn't there, and isn't then either
pub unwritten_in : (names : Names) (s : CodeStore) (n : ℕ) (path : List Step) (v : Tree) (f : SetFault) → AreNames names s → n < length s.variables.items
    → is_numbered (trees_of s.variables.items) n ≡ false → (f ≡ fault.TooDeep → depth_limit < depth_of (set_tree null path v))
    → IsWritten (root_of names (base.Variable n)) path v (store_in names s) (store_in names s) (Err f)
unwritten_in names s n path v fault.TooDeep are within absent deep = (too_deep_there names s n path v None are within (absent_at s.variables.items n within absent) (deep refl), refl)
unwritten_in names s n path v fault.Memory are within absent deep = refl

-- want of memory is told of a write that could be done
pub within_there : (names : Names) (s : CodeStore) (n : ℕ) (path : List Step) (v : Tree) (x : Option Value) → AreNames names s → n < length s.variables.items
    → x ≡ get_or s.variables.items n x → IsShallow (set_tree (held_in x) path v)
    → is_within (root_with (root_of names (base.Variable n)) path v (store_in names s)) ≡ true
within_there names s n path v x are within is shallow =
    let made = ap (λ w. set_tree w path v) (sym (root_variable names s n x are within is)) in
    subst (λ w. is_within w ≡ true) made (is_within-true (set_tree (held_in x) path v) shallow)
