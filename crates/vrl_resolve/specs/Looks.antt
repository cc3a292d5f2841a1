-- The arguments of a call, of which the first were run, and those behind are looked at where they
-- stand.
use Rattle.std.specs.Prelude.{◌≡◌, ℕ, List, [], ◌∷◌, ◌++◌, map, length, drop, ⊤}
use Rattle.vrl_value.specs.Tree.{Tree, Items}
use Rattle.vrl_value.specs.View.{items_of_trees, tree_of}
use Rattle.vrl_value.specs.declared.value.Value.{Value}
use Rattle.vrl_syntax.specs.Stores.{Store}
use Rattle.vrl_store.specs.StoreView.{IsKnown, Names}
use Rattle.vrl_resolve.specs.Linked.{Linked, literal, read, linked_of}
use Rattle.vrl_resolve.specs.Plain.{plain_values}
use Rattle.vrl_resolve.specs.declared.node.Node.{Node}

-- a path begins at the event, or at one of so many variables
abbrev pub IsReadable : ℕ → Linked → Type 0
IsReadable count (read place) = IsKnown count place.base
IsReadable count other = ⊤

abbrev pub AreReadable : ℕ → List Linked → Type 0
AreReadable count [] = ⊤
AreReadable count (n ∷ ns) = IsReadable count n × AreReadable count ns

-- the values of all arguments
abbrev pub argument_values : Names → Store → List Value → List Node → Items
argument_values names store run args =
    items_of_trees (map tree_of run ++ plain_values names (map linked_of (drop (length run) args)) store)

-- a value that an expression gave: that of a literal is the literal
abbrev pub IsOf : Linked → Tree → Type 0
IsOf (literal v) w = w ≡ v
IsOf other w = ⊤

-- the same of expressions in order, of which the first have values
abbrev pub AreOf : List Linked → List Tree → Type 0
AreOf [] [] = ⊤
AreOf [] (v ∷ vs) = ⊥
AreOf (n ∷ ns) [] = ⊤
AreOf (n ∷ ns) (v ∷ vs) = IsOf n v × AreOf ns vs
