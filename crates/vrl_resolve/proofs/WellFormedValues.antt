-- Well-formed values stay so: what is read of them, what is written or removed in them, and what operators make of them.
use Rattle.std.specs.Prelude.{◌≡◌, ℕ, zero, suc, ◌-◌, ℤ, unsigned_abs, Bool, true, false, if◌then◌else◌, is_some, List, [], ◌∷◌, ◌++◌, Option, Some, None, IfSome, IsTrue, unwrap_or, refl}
use Rattle.std.proofs.lemmas.Bool.{and_from}
use Rattle.vrl_value.specs.Laws.{RegexesStayBelow, TreesStayInOrder}
use Rattle.vrl_value.specs.Look.{Step, field, place, Found, there, missing, no_place, item_at, found_behind, found_if, part_at, IfThere}
use Rattle.vrl_value.specs.Parts.{count_of}
use Rattle.vrl_value.specs.Regexes.{regexes_below, items_regexes_below}
use Rattle.vrl_value.specs.Tree.{Tree, string, integer, boolean, null, timestamp, array, object, Items, no_items, Members, no_members, find, put, IsOrdered, ItemsAreOrdered}
use Rattle.vrl_value.specs.View.{items_of_trees}
use Rattle.vrl_kind.specs.Laws.{AnyHoldsAll}
use Rattle.vrl_path.specs.FromEnd.{behind_nulls, front_padded, part_behind, step_in}
use Rattle.vrl_path.specs.Parts.{items_in, members_in, placed, replace_part, tree_or_null, with_part, without_part}
use Rattle.vrl_path.specs.Read.{item_if, place_of, read_at, signed_part_at, signed_raw_at, tree_found}
use Rattle.vrl_path.specs.Trees.{if_there, remove_tree, set_tree}
use Rattle.vrl_path.specs.declared.path.Step.{Step as CodeStep}
use Rattle.vrl_path.specs.declared.path.Step.TheVariants as step
use Rattle.vrl_table.specs.Table.{FunctionsKeepLaw}
use Rattle.vrl_store.specs.WellFormed.{AreWellFormed, IsWellFormed}

-- laws of the crates below
pub record Laws : Type 0 where
  pub order : TreesStayInOrder
  pub below : RegexesStayBelow
  pub any : AnyHoldsAll
  pub rows : FunctionsKeepLaw

-- ---- values without parts

pub null_is : (count : ℕ) → IsWellFormed count null
null_is count = record { ordered = tt; below = refl }

pub text_is : (count : ℕ) (s : List ℕ) → IsWellFormed count (string s)
text_is count s = record { ordered = tt; below = refl }

pub number_is : (count : ℕ) (n : ℤ) → IsWellFormed count (integer n)
number_is count n = record { ordered = tt; below = refl }

pub boolean_is : (count : ℕ) (b : Bool) → IsWellFormed count (boolean b)
boolean_is count b = record { ordered = tt; below = refl }

pub moment_is : (count : ℕ) (n : ℤ) → IsWellFormed count (timestamp n)
moment_is count n = record { ordered = tt; below = refl }

pub no_members_is : (count : ℕ) → IsWellFormed count (object no_members)
no_members_is count = record { ordered = tt; below = refl }

pub no_items_is : (count : ℕ) → IsWellFormed count (array no_items)
no_items_is count = record { ordered = tt; below = refl }

-- ---- what is read

pub found : (count : ℕ) (v : Option Tree) → IfSome v IsOrdered → IfSome v (λ t. IsTrue (regexes_below count t)) → IfSome v (IsWellFormed count)
found count None ordered below = tt
found count (Some v) ordered below = record { ordered = ordered; below = below }

found_there : (count : ℕ) (v : Option Tree) → IfSome v (IsWellFormed count) → IfThere (found_if v) (IsWellFormed count)
found_there count None is = tt
found_there count (Some v) is = is

pub found_item : (laws : Laws) (count i : ℕ) (ts : Items) → IsWellFormed count (array ts) → IfSome (item_at i ts) (IsWellFormed count)
found_item laws count i ts is = found count (item_at i ts) (laws.order.ordered_item i ts is.ordered) (laws.below.below_item count i ts is.below)

pub found_member : (laws : Laws) (count : ℕ) (k : List ℕ) (ms : Members) → IsWellFormed count (object ms) → IfSome (find k ms) (IsWellFormed count)
found_member laws count k ms is = found count (find k ms) (laws.order.ordered_find k ms is.ordered) (laws.below.below_find count k ms is.below)

item_found : (laws : Laws) (count : ℕ) (i : Option ℕ) (ts : Items) → IsWellFormed count (array ts) → IfThere (item_if i ts) (IsWellFormed count)
item_found laws count None ts is = tt
item_found laws count (Some i) ts is = found_there count (item_at i ts) (found_item laws count i ts is)

read_part : (laws : Laws) (count : ℕ) (v : Tree) (s : CodeStep) → IsWellFormed count v → IfThere (signed_part_at v s) (IsWellFormed count)
read_part laws count (object ms) (step.Field k) is = found_there count (find k ms) (found_member laws count k ms is)
read_part laws count (array ts) (step.Place i) is = item_found laws count (place_of _ i) ts is
read_part laws count v s is = tt

read_behind : (count : ℕ) (f : Found) (path : List CodeStep) → IfThere f (IsWellFormed count) →
    ((v : Tree) → IsWellFormed count v → IfThere (signed_raw_at v path) (IsWellFormed count)) → IfThere (found_behind f path (λ v. signed_raw_at v path)) (IsWellFormed count)
read_behind count (there v) path is next = next v is
read_behind count missing [] is next = tt
read_behind count missing (s ∷ path) is next = tt
read_behind count no_place path is next = tt

read_raw : (laws : Laws) (count : ℕ) (path : List CodeStep) (v : Tree) → IsWellFormed count v → IfThere (signed_raw_at v path) (IsWellFormed count)
read_raw laws count [] v is = is
read_raw laws count (s ∷ path) v is = read_behind count (signed_part_at v s) path (read_part laws count v s is) (read_raw laws count path)

tree_there : (count : ℕ) (f : Found) → IfThere f (IsWellFormed count) → IfSome (tree_found f) (IsWellFormed count)
tree_there count (there v) is = is
tree_there count missing is = tt
tree_there count no_place is = tt

pub read_is : (laws : Laws) (count : ℕ) (path : List CodeStep) (v : Tree) → IsWellFormed count v → IfSome (read_at v path) (IsWellFormed count)
read_is laws count path v is = tree_there count (signed_raw_at v path) (read_raw laws count path v is)

pub or_null : (count : ℕ) (v : Option Tree) → IfSome v (IsWellFormed count) → IsWellFormed count (unwrap_or v null)
or_null count None is = null_is count
or_null count (Some v) is = is

-- ---- what is written and removed

part_is : (laws : Laws) (count : ℕ) (v : Tree) (s : Step) → IsWellFormed count v → IfThere (part_at v s) (IsWellFormed count)
part_is laws count (object ms) (field k) is = found_there count (find k ms) (found_member laws count k ms is)
part_is laws count (array ts) (place i) is = found_there count (item_at i ts) (found_item laws count i ts is)
part_is laws count v s is = tt

members_are : (count : ℕ) (v : Tree) → IsWellFormed count v → IsWellFormed count (object (members_in (there v)))
members_are count (object ms) is = is
members_are count v is = no_members_is count

items_are : (count : ℕ) (v : Tree) → IsWellFormed count v → IsWellFormed count (array (items_in (there v)))
items_are count (array ts) is = is
items_are count v is = no_items_is count

pub put_is : (laws : Laws) (count : ℕ) (k : List ℕ) (v : Tree) (ms : Members) → IsWellFormed count v → IsWellFormed count (object ms) → IsWellFormed count (object (put k v ms))
put_is laws count k v ms part is = record {
  ordered = laws.order.ordered_put k v ms part.ordered is.ordered;
  below = laws.below.below_put count k v ms part.below is.below;
}

with_is : (laws : Laws) (count : ℕ) (s : Step) (part v : Tree) → IsWellFormed count part → IsWellFormed count v → IsWellFormed count (with_part s part v)
with_is laws count (field k) part v new is = put_is laws count k part (members_in (there v)) new (members_are count v is)
with_is laws count (place i) part v new is = let whole = items_are count v is in record {
  ordered = laws.order.ordered_put_item i part (items_in (there v)) new.ordered whole.ordered;
  below = laws.below.below_put_item count i part (items_in (there v)) new.below whole.below;
}

replaced_is : (laws : Laws) (count : ℕ) (s : Step) (part v : Tree) → IsWellFormed count part → IsWellFormed count v → IsWellFormed count (replace_part s part v)
replaced_is laws count (field k) part (object ms) new is = record {
  ordered = laws.order.ordered_replace k part ms new.ordered is.ordered;
  below = laws.below.below_replace count k part ms new.below is.below;
}
replaced_is laws count (place i) part (array ts) new is = record {
  ordered = laws.order.ordered_replace_item i part ts new.ordered is.ordered;
  below = laws.below.below_replace_item count i part ts new.below is.below;
}
replaced_is laws count s part v new is = is

without_is : (laws : Laws) (count : ℕ) (s : Step) (v : Tree) → IsWellFormed count v → IsWellFormed count (without_part s v)
without_is laws count (field k) (object ms) is = record {
  ordered = laws.order.ordered_without k ms is.ordered;
  below = laws.below.below_without count k ms is.below;
}
without_is laws count (place i) (array ts) is = record {
  ordered = laws.order.ordered_without_item i ts is.ordered;
  below = laws.below.below_without_item count i ts is.below;
}
without_is laws count s v is = is

placed_is : (laws : Laws) (count : ℕ) (f : Found) (s : Step) (part v : Tree) → IsWellFormed count part → IsWellFormed count v → IsWellFormed count (placed f s part v)
placed_is laws count (there u) s part v new is = replaced_is laws count s part v new is
placed_is laws count missing s part v new is = with_is laws count s part v new is
placed_is laws count no_place s part v new is = with_is laws count s part v new is

nulls_ordered : (k : ℕ) (ts : Items) → ItemsAreOrdered ts → ItemsAreOrdered (behind_nulls k ts)
nulls_ordered zero ts are = are
nulls_ordered (suc k) ts are = (tt, nulls_ordered k ts are)

nulls_below : (count k : ℕ) (ts : Items) → items_regexes_below count ts ≡ true → items_regexes_below count (behind_nulls k ts) ≡ true
nulls_below count zero ts are = are
nulls_below count (suc k) ts are = nulls_below count k ts are

padded_if : (count : ℕ) (b : Bool) (k : ℕ) (v : Tree) → IsWellFormed count v → IsWellFormed count (if b then v else array (behind_nulls k (items_in (there v))))
padded_if count true k v is = is
padded_if count false k v is = let whole = items_are count v is in record {
  ordered = nulls_ordered k (items_in (there v)) whole.ordered;
  below = nulls_below count k (items_in (there v)) whole.below;
}

padded_is : (count : ℕ) (v : Tree) (s : CodeStep) → IsWellFormed count v → IsWellFormed count (front_padded v s)
padded_is count v (step.Field k) is = is
padded_is count v (step.Place i) is =
    let many = count_of (items_in (there v)) in padded_if count (is_some (place_of many i)) (unsigned_abs i - many) v is

found_or_null : (count : ℕ) (f : Found) → IfThere f (IsWellFormed count) → IsWellFormed count (tree_or_null f)
found_or_null count (there v) is = is
found_or_null count missing is = null_is count
found_or_null count no_place is = null_is count

there_is : (count : ℕ) (f : Found) (next : Tree → Tree) (other : Tree) → IfThere f (IsWellFormed count) → ((v : Tree) → IsWellFormed count v → IsWellFormed count (next v)) → IsWellFormed count other →
    IsWellFormed count (if_there f next other)
there_is count (there v) next other is then_is else_is = then_is v is
there_is count missing next other is then_is else_is = else_is
there_is count no_place next other is then_is else_is = else_is

pub set_is : (laws : Laws) (count : ℕ) (path : List CodeStep) (v new : Tree) → IsWellFormed count v → IsWellFormed count new → IsWellFormed count (set_tree v path new)
set_is laws count [] v new is part = part
set_is laws count (s ∷ path) v new is part =
    let u = front_padded v s in
    let whole = padded_is count v s is in
    let inner = found_or_null count (part_at u (step_in v s)) (part_is laws count u (step_in v s) whole) in
    placed_is laws count (part_at u (step_in v s)) (step_in v s) (set_tree (part_behind v s) path new) u (set_is laws count path (part_behind v s) new inner part) whole

pub remove_is : (laws : Laws) (count : ℕ) (path : List CodeStep) (v : Tree) → IsWellFormed count v → IsWellFormed count (remove_tree v path)
remove_is laws count [] v is = is
remove_is laws count (s ∷ []) v is =
    there_is count (signed_part_at v s) (λ u. without_part (step_in v s) v) v
    (read_part laws count v s is)
    (λ u inner. without_is laws count (step_in v s) v is)
    is
remove_is laws count (s ∷ r ∷ path) v is =
    there_is count (signed_part_at v s) (λ u. replace_part (step_in v s) (remove_tree u (r ∷ path)) v) v
    (read_part laws count v s is)
    (λ u inner. replaced_is laws count (step_in v s) (remove_tree u (r ∷ path)) v (remove_is laws count (r ∷ path) u inner) is)
    is

-- ---- arrays of values

items_ordered : (count : ℕ) (vs : List Tree) → AreWellFormed count vs → ItemsAreOrdered (items_of_trees vs)
items_ordered count [] are = tt
items_ordered count (v ∷ vs) are = (are.0.ordered, items_ordered count vs are.1)

items_below : (count : ℕ) (vs : List Tree) → AreWellFormed count vs → items_regexes_below count (items_of_trees vs) ≡ true
items_below count [] are = refl
items_below count (v ∷ vs) are = and_from _ _ are.0.below (items_below count vs are.1)

pub array_is : (count : ℕ) (vs : List Tree) → AreWellFormed count vs → IsWellFormed count (array (items_of_trees vs))
array_is count vs are = record { ordered = items_ordered count vs are; below = items_below count vs are }

pub one_more : (count : ℕ) (vs : List Tree) (v : Tree) → AreWellFormed count vs → IsWellFormed count v → AreWellFormed count (vs ++ v ∷ [])
one_more count [] v are is = (is, tt)
one_more count (u ∷ vs) v are is = (are.0, one_more count vs v are.1 is)
