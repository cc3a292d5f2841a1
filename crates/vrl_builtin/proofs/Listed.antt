-- The parts of values as lists and as trees, and what holds of each.
use Rattle.std.specs.Prelude.{◌≡◌, ℕ, List, [], ◌∷◌, ◌++◌, map, refl}
use Rattle.std.proofs.Common.{ap}
use Rattle.vrl_value.specs.Tree.{Tree, string, Items, no_items, item, Members, no_members, member}
use Rattle.vrl_value.specs.View.{items_of_trees}
use Rattle.vrl_builtin.specs.Listed.{entries_in, trees_in}
use Rattle.vrl_builtin.proofs.Containers.{EachItem, EachMember}

pub listed : (ts : List Tree) → trees_in (items_of_trees ts) ≡ ts
listed [] = refl
listed (t ∷ ts) = ap (λ us. t ∷ us) (listed ts)

pub listed_again : (ts : Items) → items_of_trees (trees_in ts) ≡ ts
listed_again no_items = refl
listed_again (item t ts) = ap (item t) (listed_again ts)

pub each_list : (P : Tree → Type 0) (ts : Items) → EachItem P ts → EachItem P (items_of_trees (trees_in ts))
each_list P no_items each = tt
each_list P (item t ts) each = (each.0, each_list P ts each.1)

pub each_joined : (P : Tree → Type 0) (ts us : List Tree) → EachItem P (items_of_trees ts) → EachItem P (items_of_trees us) → EachItem P (items_of_trees (ts ++ us))
each_joined P [] us first second = second
each_joined P (t ∷ ts) us first second = (first.0, each_joined P ts us first.1 second)

pub each_value : (P : Tree → Type 0) (ms : Members) → EachMember P ms → EachItem P (items_of_trees (map (λ e. e.1) (entries_in ms)))
each_value P no_members each = tt
each_value P (member k t ms) each = (each.0, each_value P ms each.1)

pub each_key : (P : Tree → Type 0) (ms : Members) → ((s : List ℕ) → P (string s)) → EachItem P (items_of_trees (map (λ e. string e.0) (entries_in ms)))
each_key P no_members so = tt
each_key P (member k t ms) so = (so k, each_key P ms so)
