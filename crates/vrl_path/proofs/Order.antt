-- Trees stay in order where a part is set or taken out.
use Rattle.std.proofs.Common.{ℕ, zero, suc, ◌-◌, Bool, true, false, if◌then◌else◌, is_some, unsigned_abs, List, [], ◌∷◌, Option, Some, None, IfSome, sym, subst}
use Rattle.vrl_value.specs.Laws.{TreesStayInOrder}
use Rattle.vrl_value.specs.Look.{Step, field, place, Found, there, missing, no_place, found_if, item_at, part_at}
use Rattle.vrl_value.specs.Parts.{count_of}
use Rattle.vrl_value.specs.Tree.{Tree, array, object, Items, Members, find, IsOrdered, ItemsAreOrdered, MembersAreOrdered}
use Rattle.vrl_path.specs.FromEnd.{behind_nulls, front_padded, part_behind, step_in}
use Rattle.vrl_path.specs.Parts.{items_in, members_in, replace_part, set_part, tree_or_null, without_part}
use Rattle.vrl_path.specs.Read.{item_if, place_of, signed_part_at}
use Rattle.vrl_path.specs.Trees.{if_there, remove_tree, set_tree}
use Rattle.vrl_path.specs.declared.path.Step.{Step as CodeStep}
use Rattle.vrl_path.specs.declared.path.Step.TheVariants.{Field, Place}
use Rattle.vrl_path.proofs.Placed.{member_if, placed-field, placed-place}

-- what was found in a tree in order is in order
abbrev FoundInOrder : Found → Type 0
FoundInOrder f = IsOrdered (tree_or_null f)

found_if_ordered : (o : Option Tree) → IfSome o IsOrdered → FoundInOrder (found_if o)
found_if_ordered None old = tt
found_if_ordered (Some t) old = old

part_ordered : (stay : TreesStayInOrder) (v : Tree) (s : Step) → IsOrdered v → FoundInOrder (part_at v s)
part_ordered stay (object ms) (field k) old = found_if_ordered (find k ms) (stay.ordered_find k ms old)
part_ordered stay (array ts) (place i) old = found_if_ordered (item_at i ts) (stay.ordered_item i ts old)
part_ordered stay v s old = tt

members_in_ordered : (v : Tree) → IsOrdered v → MembersAreOrdered (members_in (there v))
members_in_ordered (object ms) old = old
members_in_ordered v old = tt

items_in_ordered : (v : Tree) → IsOrdered v → ItemsAreOrdered (items_in (there v))
items_in_ordered (array ts) old = old
items_in_ordered v old = tt

member_if_ordered : (stay : TreesStayInOrder) (o : Option Tree) (k : List ℕ) (t : Tree) (ms : Members) → IsOrdered t → MembersAreOrdered ms → MembersAreOrdered (member_if o k t ms)
member_if_ordered stay None k t ms new old = stay.ordered_put k t ms new old
member_if_ordered stay (Some u) k t ms new old = stay.ordered_replace k t ms new old

set_part_ordered : (stay : TreesStayInOrder) (s : Step) (t v : Tree) → IsOrdered t → IsOrdered v → IsOrdered (set_part s t v)
set_part_ordered stay (field k) t v new old =
    subst IsOrdered (sym (placed-field v k t)) (member_if_ordered stay (find k (members_in (there v))) k t (members_in (there v)) new (members_in_ordered v old))
set_part_ordered stay (place i) t v new old = subst IsOrdered (sym (placed-place v i t)) (stay.ordered_put_item i t (items_in (there v)) new (items_in_ordered v old))

behind_nulls_ordered : (k : ℕ) (ts : Items) → ItemsAreOrdered ts → ItemsAreOrdered (behind_nulls k ts)
behind_nulls_ordered zero ts old = old
behind_nulls_ordered (suc k) ts old = (tt, behind_nulls_ordered k ts old)

padded_ordered_if : (b : Bool) (k : ℕ) (v : Tree) → IsOrdered v → IsOrdered (if b then v else array (behind_nulls k (items_in (there v))))
padded_ordered_if true k v old = old
padded_ordered_if false k v old = behind_nulls_ordered k (items_in (there v)) (items_in_ordered v old)

padded_ordered : (v : Tree) (s : CodeStep) → IsOrdered v → IsOrdered (front_padded v s)
padded_ordered v (Field k) old = old
padded_ordered v (Place i) old =
    let count = count_of (items_in (there v)) in
    padded_ordered_if (is_some (place_of count i)) (unsigned_abs i - count) v old

-- a tree in order set in another is in order
pub set_ordered : (stay : TreesStayInOrder) (v : Tree) (p : List CodeStep) (n : Tree) → IsOrdered v → IsOrdered n → IsOrdered (set_tree v p n)
set_ordered stay v [] n old new = new
set_ordered stay v (s ∷ p) n old new =
    let whole = padded_ordered v s old in
    set_part_ordered stay (step_in v s) (set_tree (part_behind v s) p n) (front_padded v s) (set_ordered stay (part_behind v s) p n (part_ordered stay (front_padded v s) (step_in v s) whole) new) whole

without_part_ordered : (stay : TreesStayInOrder) (s : Step) (v : Tree) → IsOrdered v → IsOrdered (without_part s v)
without_part_ordered stay (field k) (object ms) old = stay.ordered_without k ms old
without_part_ordered stay (place i) (array ts) old = stay.ordered_without_item i ts old
without_part_ordered stay s v old = old

replace_part_ordered : (stay : TreesStayInOrder) (s : Step) (t v : Tree) → IsOrdered t → IsOrdered v → IsOrdered (replace_part s t v)
replace_part_ordered stay (field k) t (object ms) new old = stay.ordered_replace k t ms new old
replace_part_ordered stay (place i) t (array ts) new old = stay.ordered_replace_item i t ts new old
replace_part_ordered stay s t v new old = old

item_ordered : (stay : TreesStayInOrder) (o : Option ℕ) (ts : Items) → ItemsAreOrdered ts → FoundInOrder (item_if o ts)
item_ordered stay None ts old = tt
item_ordered stay (Some i) ts old = found_if_ordered (item_at i ts) (stay.ordered_item i ts old)

signed_ordered : (stay : TreesStayInOrder) (v : Tree) (s : CodeStep) → IsOrdered v → FoundInOrder (signed_part_at v s)
signed_ordered stay (object ms) (Field k) old = found_if_ordered (find k ms) (stay.ordered_find k ms old)
signed_ordered stay (array ts) (Place i) old = item_ordered stay (place_of (count_of ts) i) ts old
signed_ordered stay v s old = tt

last_ordered : (f : Found) (v w : Tree) → IsOrdered v → IsOrdered w → IsOrdered (if_there f (λ u. w) v)
last_ordered (there u) v w old new = new
last_ordered missing v w old new = old
last_ordered no_place v w old new = old

removed_at : (stay : TreesStayInOrder) (f : Found) (s : Step) (v : Tree) (each : Tree → Tree) → FoundInOrder f → IsOrdered v → ((u : Tree) → IsOrdered u → IsOrdered (each u)) → IsOrdered (if_there f (λ u. replace_part s (each u) v) v)
removed_at stay (there u) s v each part old later = replace_part_ordered stay s (each u) v (later u part) old
removed_at stay missing s v each part old later = old
removed_at stay no_place s v each part old later = old

-- so is one of which a part was taken out
pub removed_ordered : (stay : TreesStayInOrder) (v : Tree) (p : List CodeStep) → IsOrdered v → IsOrdered (remove_tree v p)
removed_ordered stay v [] old = old
removed_ordered stay v (s ∷ []) old = last_ordered (signed_part_at v s) v (without_part (step_in v s) v) old (without_part_ordered stay (step_in v s) v old)
removed_ordered stay v (s ∷ r ∷ p) old = removed_at stay (signed_part_at v s) (step_in v s) v (λ u. remove_tree u (r ∷ p)) (signed_ordered stay v s old) old (λ u part. removed_ordered stay u (r ∷ p) part)
