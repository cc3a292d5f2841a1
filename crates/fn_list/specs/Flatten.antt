-- `flatten`: the arrays inside an array opened, or the objects inside an object.
use Rattle.std.specs.Prelude.{ℕ, false, List, [], ◌∷◌, ◌++◌, map, Option, Some, None, codes}
use Rattle.vrl_value.specs.Tree.{Tree, array, object, Items, no_items, item, Members, no_members, member, put}
use Rattle.vrl_value.specs.View.{items_of_trees}
use Rattle.vrl_builtin.specs.Rows.{Row, value, any_literal, kind_at, optional_parameter, parameter, text_at, value_at}
use Rattle.vrl_builtin.specs.TagSets.{containers, strings}
use Rattle.vrl_builtin.specs.AnyParts.{any_of, containers_in}

-- ---- arrays: what stands in them, in order, at every depth of arrays

abbrev mutual
  pub opened : Items → List Tree
  opened no_items = []
  opened (item t ts) = opened_part t ++ opened ts

  pub opened_part : Tree → List Tree
  opened_part (array ts) = opened ts
  opened_part t = t ∷ []

-- ---- objects: what stands in them, at every depth of objects, each with the names that lead to it

pub record Leaf : Type 0 where
  pub first : List ℕ
  pub others : List (List ℕ)
  pub held : Tree

-- the same under one name more
abbrev pub under : List ℕ → Leaf → Leaf
under k leaf = record { first = k; others = leaf.first ∷ leaf.others; held = leaf.held }

-- an empty object is a leaf too
abbrev mutual
  pub leaves : Members → List Leaf
  leaves no_members = []
  leaves (member k t ms) = leaves_at k t ++ leaves ms

  pub leaves_at : List ℕ → Tree → List Leaf
  leaves_at k (object (member l t ms)) = map (under k) (leaves (member l t ms))
  leaves_at k t = record { first = k; others = []; held = t } ∷ []

-- the members of an object that has some
abbrev pub inner_of : Tree → Option Members
inner_of (object (member k t ms)) = Some (member k t ms)
inner_of t = None

-- names, joined by the separator
abbrev pub path_text : List ℕ → List ℕ → List (List ℕ) → List ℕ
path_text separator k [] = k
path_text separator k (l ∷ others) = k ++ (separator ++ path_text separator l others)

-- the leaves put at their joined names, behind a text; of equal ones the later in the walk counts
abbrev pub put_leaves : List ℕ → List ℕ → List Leaf → Members → Members
put_leaves start separator [] ms = ms
put_leaves start separator (leaf ∷ others) ms =
    put_leaves start separator others (put (start ++ path_text separator leaf.first leaf.others) leaf.held ms)

abbrev pub flattened : List ℕ → Tree → Tree
flattened separator (array ts) = array (items_of_trees (opened ts))
flattened separator (object ms) = object (put_leaves [] separator (leaves ms) no_members)
flattened separator v = v

abbrev pub flatten_row : Row
flatten_row = record {
  name = codes "flatten";
  parameters = parameter (codes "value") containers ∷ optional_parameter (codes "separator") strings ∷ [];
  accepts = any_literal;
  kind = λ givens sources. any_of (containers_in (kind_at 0 givens));
  may_fail = λ givens. false;
  means = λ arguments setting. value (flattened (text_at 1 (codes ".") arguments) (value_at 0 arguments));
}
