-- What stands in the roots of a store, by numbers and by names.
use Rattle.std.proofs.Common.{◌≡◌, ℕ, zero, suc, ◌<◌, List, [], ◌∷◌, length, get_or, set, Option, Some, None, option_map, slice_get, unwrap_or, refl, sym, ap, ◌∙◌, arith}
use Rattle.std.specs.FinMap as finite
use Rattle.vrl_value.specs.Tree.{null}
use Rattle.vrl_value.specs.View.{tree_of}
use Rattle.vrl_value.specs.declared.value.Value.{Value}
use Rattle.vrl_syntax.specs.Stores.{Store, value_of, with_value}
use Rattle.vrl_store.specs.Places.{root_value}
use Rattle.vrl_store.specs.Kept.{trees_of}
use Rattle.vrl_store.specs.StoreView.{name_at, root_of, store_in, variables_of, AreNames, Names}
use Rattle.vrl_store.specs.declared.target_path.Base.TheVariants as base
use Rattle.vrl_store.specs.declared.store.Store.{Store as CodeStore}
use Rattle.vrl_store.proofs.Variables.{found_at, variable_at, variables_set}

-- what is read at an index, as a tree
pub found_map : (vs : List (Option Value)) (n : ℕ) (x : Option Value) → n < length vs → x ≡ get_or vs n x → unwrap_or (slice_get (trees_of vs) n) None ≡ option_map tree_of x
found_map [] n x within is = absurd (omega arith)
found_map (v ∷ vs) zero x within is = ap (option_map tree_of) (sym is)
found_map (v ∷ vs) (suc n) x within is = found_map vs n x (omega arith) is

pub length_map : (vs : List (Option Value)) → length (trees_of vs) ≡ length vs
length_map [] = refl
length_map (v ∷ vs) = ap suc (length_map vs)

pub map_set : (vs : List (Option Value)) (n : ℕ) (x : Option Value) → trees_of (set vs n x) ≡ set (trees_of vs) n (option_map tree_of x)
map_set [] n x = refl
map_set (v ∷ vs) zero x = refl
map_set (v ∷ vs) (suc n) x = ap (λ ws. option_map tree_of v ∷ ws) (map_set vs n x)

-- the variable with a number
pub variable_value : (names : Names) (s : CodeStore) (n : ℕ) (x : Option Value) → AreNames names s → n < length s.variables.items → x ≡ get_or s.variables.items n x
    → value_of (root_of names (base.Variable n)) (store_in names s) ≡ option_map tree_of x
variable_value names s n x store within is =
    let as_many = store.as_many in
    let mapped = length_map s.variables.items in
    variable_at names (trees_of s.variables.items) n store.distinct (omega arith) (omega arith) ∙ found_map s.variables.items n x within is

pub variable_found : (names : Names) (s : CodeStore) (n : ℕ) → AreNames names s → n < length s.variables.items → value_of (root_of names (base.Variable n)) (store_in names s) ≡ found_at (trees_of s.variables.items) n
variable_found names s n store within =
    let as_many = store.as_many in
    let mapped = length_map s.variables.items in
    variable_at names (trees_of s.variables.items) n store.distinct (omega arith) (omega arith)

pub root_variable : (names : Names) (s : CodeStore) (n : ℕ) (x : Option Value) → AreNames names s → n < length s.variables.items → x ≡ get_or s.variables.items n x
    → root_value (root_of names (base.Variable n)) (store_in names s) ≡ unwrap_or (option_map tree_of x) null
root_variable names s n x store within is = ap (λ v. unwrap_or v null) (variable_value names s n x store within is)

-- a store with this event and these variables
abbrev pub seen : Names → Value → List (Option Value) → Store
seen names event items = record { event = tree_of event; variables = variables_of names (trees_of items) }

-- a store whose variable with a number got a value
pub variable_given : (names : Names) (s : CodeStore) (items : List (Option Value)) (n : ℕ) (v : Value) → AreNames names s → n < length s.variables.items
    → items ≡ set s.variables.items n (Some v) → seen names s.event items ≡ with_value (root_of names (base.Variable n)) (tree_of v) (store_in names s)
variable_given names s items n v store within variables =
    let as_many = store.as_many in
    let mapped = length_map s.variables.items in
    let made : variables_of names (trees_of items) ≡ finite.insert (variables_of names (trees_of s.variables.items)) (name_at names n) (tree_of v)
    = ap (λ vs. variables_of names (trees_of vs)) variables ∙ ap (variables_of names) (map_set s.variables.items n (Some v)) ∙ variables_set names (trees_of s.variables.items) n (tree_of v) store.distinct (omega arith) (omega arith) in
    λ i. record { event = tree_of s.event; variables = made i }
