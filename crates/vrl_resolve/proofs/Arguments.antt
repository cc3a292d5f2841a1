-- The values of a call's arguments: those that were run, and those behind that are looked at where they stand.
use Rattle.std.proofs.Common.{◌≡◌, true, false, ℕ, zero, suc, ◌<◌, ◌≤◌, List, [], ◌∷◌, ◌++◌, length, map, drop, get_or, Some, None, unwrap_or, refl, sym, ap, ◌∙◌, subst, arith}
use Rattle.vrl_value.specs.Look.{item_at}
use Rattle.vrl_value.specs.Tree.{Tree, null}
use Rattle.vrl_value.specs.View.{items_of_trees, tree_of}
use Rattle.vrl_value.specs.declared.value.Value.{Value}
use Rattle.vrl_syntax.specs.Stores.{Store}
use Rattle.vrl_store.specs.StoreView.{Names}
use Rattle.vrl_resolve.specs.Linked.{Linked, literal, read, linked_of}
use Rattle.vrl_resolve.specs.Looks.{argument_values, AreReadable, IsReadable}
use Rattle.vrl_resolve.specs.Plain.{is_plain, plain_value, plain_values, AllPlain}
use Rattle.vrl_resolve.specs.declared.node.Node.{Node}

-- ---- the value at a place

-- one of those that were run
pub ran_at : (run : List Value) (others : List Tree) (place : ℕ) (v : Value) → place < length run → v ≡ get_or run place v
    → item_at place (items_of_trees (map tree_of run ++ others)) ≡ Some (tree_of v)
ran_at [] others place v within is = absurd (omega arith)
ran_at (w ∷ run) others zero v within is = ap (λ u. Some (tree_of u)) (sym is)
ran_at (w ∷ run) others (suc place) v within is = ran_at run others place v (omega arith) is

plain_some : (names : Names) (n : Linked) (store : Store) → is_plain n ≡ true → Some (unwrap_or (plain_value names n store) null) ≡ plain_value names n store
plain_some names (literal v) store is = refl
plain_some names (read place) store is = refl
plain_some names n store is = let wrong : false ≡ true = is in absurd (cc)

looked_at : (names : Names) (store : Store) (args : List Node) (place : ℕ) (node : Node) → place < length args → node ≡ get_or args place node → AllPlain (map linked_of args)
    → item_at place (items_of_trees (plain_values names (map linked_of args) store)) ≡ plain_value names (linked_of node) store
looked_at names store [] place node within is are = absurd (omega arith)
looked_at names store (a ∷ args) zero node within is are = plain_some names (linked_of a) store are.0 ∙ ap (λ n. plain_value names (linked_of n) store) (sym is)
looked_at names store (a ∷ args) (suc place) node within is are = looked_at names store args place node (omega arith) is are.1

-- one of those behind
pub behind_at : (names : Names) (store : Store) (run : List Value) (args : List Node) (place : ℕ) (node : Node) → length run ≤ place → place < length args → node ≡ get_or args place node
    → AllPlain (map linked_of (drop (length run) args)) → item_at place (argument_values names store run args) ≡ plain_value names (linked_of node) store
behind_at names store [] args place node behind within is are = looked_at names store args place node within is are
behind_at names store (v ∷ run) [] place node behind within is are = absurd (omega arith)
behind_at names store (v ∷ run) (a ∷ args) zero node behind within is are = absurd (omega arith)
behind_at names store (v ∷ run) (a ∷ args) (suc place) node behind within is are = behind_at names store run args place node (omega arith) (omega arith) is are

none_looked : (names : Names) (store : Store) (args : List Node) (place : ℕ) → length args ≤ place → item_at place (items_of_trees (plain_values names (map linked_of args) store)) ≡ None
none_looked names store [] place past = refl
none_looked names store (a ∷ args) zero past = absurd (omega arith)
none_looked names store (a ∷ args) (suc place) past = none_looked names store args place (omega arith)

none_ran : (run : List Value) (place : ℕ) → length run ≤ place → item_at place (items_of_trees (map tree_of run ++ [])) ≡ None
none_ran [] place past = refl
none_ran (v ∷ run) zero past = absurd (omega arith)
none_ran (v ∷ run) (suc place) past = none_ran run place (omega arith)

-- none
pub none_at : (names : Names) (store : Store) (run : List Value) (args : List Node) (place : ℕ) → length run ≤ place → length args ≤ place
    → item_at place (argument_values names store run args) ≡ None
none_at names store [] args place behind past = none_looked names store args place past
none_at names store (v ∷ run) args zero behind past = absurd (omega arith)
none_at names store (v ∷ run) [] (suc place) behind past = none_ran run place (omega arith)
none_at names store (v ∷ run) (a ∷ args) (suc place) behind past = none_at names store run args place (omega arith) (omega arith)

pub readable_at : (count : ℕ) (args : List Node) (place : ℕ) (node : Node) → place < length args → node ≡ get_or args place node → AreReadable count (map linked_of args)
    → IsReadable count (linked_of node)
readable_at count [] place node within is are = absurd (omega arith)
readable_at count (a ∷ args) zero node within is are = subst (λ n. IsReadable count (linked_of n)) (sym is) are.0
readable_at count (a ∷ args) (suc place) node within is are = readable_at count args place node (omega arith) is are.1
