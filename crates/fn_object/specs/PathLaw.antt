-- What is answered at paths: trees that are set and removed.
use Rattle.std.specs.Prelude.{◌≡◌, ℕ, zero, suc, ◌-◌, unsigned_abs, Bool, true, false, if◌then◌else◌, List, [], ◌∷◌, Option, Some, None, is_some, IfSome, refl}
use Rattle.std.proofs.Common.{ap}
use Rattle.vrl_value.specs.Look.{Step, field, place, Found, there, missing, no_place, found_if, item_at, part_at, IfThere}
use Rattle.vrl_value.specs.Tag.{tag_of}
use Rattle.vrl_value.specs.Tree.{Tree, string, integer, boolean, null, timestamp, regex, array, object, Items, Members, find, put}
use Rattle.vrl_value.specs.Parts.{count_of, put_item, replace, replace_item}
use Rattle.vrl_value.specs.declared.value.Tag.TheVariants as tag
use Rattle.vrl_value.proofs.Order.{put_ordered, replace_ordered, without_ordered}
use Rattle.vrl_path.specs.FromEnd.{behind_nulls, front_padded, part_behind, step_in}
use Rattle.vrl_path.specs.Parts.{items_in, members_in, placed, replace_part, set_part, tree_or_null, with_part, without_part}
use Rattle.vrl_path.specs.Read.{item_if, place_of, signed_part_at}
use Rattle.vrl_path.specs.Trees.{if_there, remove_tree, set_tree}
use Rattle.vrl_path.specs.declared.path.Step.{Step as CodeStep}
use Rattle.vrl_path.specs.declared.path.Step.TheVariants.{Field, Place}
use Rattle.vrl_builtin.specs.TagSets.{allows, containers}
use Rattle.vrl_builtin.proofs.AnswerParts.{array_part, everything, item_parts, member_parts, object_part, AreParts, IsPart}
use Rattle.vrl_builtin.proofs.Containers.{each_at, each_found, each_put, plain_part, EachItem}
use Rattle.fn_object.specs.EachChanged.{each_put_item, each_replaced, each_replaced_item, each_without, each_without_item}

-- ---- parts put and taken out at a step

null_part : (arguments : List (Option Tree)) → IsPart arguments null
null_part arguments = plain_part everything arguments null tt refl

members_are : (arguments : List (Option Tree)) (u : Tree) → IsPart arguments u
    → AreParts arguments (members_in (there u))
members_are arguments (object ms) part = member_parts arguments ms part
members_are arguments (string s) part = record { each = tt; ordered = tt }
members_are arguments (integer n) part = record { each = tt; ordered = tt }
members_are arguments (boolean b) part = record { each = tt; ordered = tt }
members_are arguments null part = record { each = tt; ordered = tt }
members_are arguments (timestamp n) part = record { each = tt; ordered = tt }
members_are arguments (regex n) part = record { each = tt; ordered = tt }
members_are arguments (array ts) part = record { each = tt; ordered = tt }

items_are : (arguments : List (Option Tree)) (u : Tree) → IsPart arguments u
    → EachItem (IsPart arguments) (items_in (there u))
items_are arguments (array ts) part = item_parts arguments ts part
items_are arguments (string s) part = tt
items_are arguments (integer n) part = tt
items_are arguments (boolean b) part = tt
items_are arguments null part = tt
items_are arguments (timestamp n) part = tt
items_are arguments (regex n) part = tt
items_are arguments (object ms) part = tt

with_is : (arguments : List (Option Tree)) (s : Step) (t u : Tree) → IsPart arguments t → IsPart arguments u
    → IsPart arguments (with_part s t u)
with_is arguments (field k) t u new old =
    let are = members_are arguments u old in
    object_part arguments (put k t (members_in (there u)))
    (record {
      each = each_put (IsPart arguments) k t (members_in (there u)) new are.each;
      ordered = put_ordered k t
          (members_in (there u)) new.ordered are.ordered;
    })
with_is arguments (place i) t u new old = array_part arguments (put_item i t (items_in (there u)))
    (each_put_item (IsPart arguments) i t (items_in (there u)) (null_part arguments) new (items_are arguments u old))

replaced_is : (arguments : List (Option Tree)) (s : Step) (t u : Tree) → IsPart arguments t → IsPart arguments u
    → IsPart arguments (replace_part s t u)
replaced_is arguments (field k) t (object ms) new old =
    let are = member_parts arguments ms old in object_part arguments (replace k t ms)
    (record {
      each = each_replaced
          (IsPart arguments) k t ms new are.each;
      ordered = replace_ordered k t ms new.ordered are.ordered;
    })
replaced_is arguments (place i) t (array ts) new old = array_part arguments (replace_item i t ts)
    (each_replaced_item (IsPart arguments) i t ts new (item_parts arguments ts old))
replaced_is arguments s t u new old = old

without_is : (arguments : List (Option Tree)) (s : Step) (u : Tree) → IsPart arguments u
    → IsPart arguments (without_part s u)
without_is arguments (field k) (object ms) old =
    let are = member_parts arguments ms old in object_part arguments _
    (record { each = each_without (IsPart arguments) k ms are.each; ordered = without_ordered k ms are.ordered })
without_is arguments (place i) (array ts) old =
    array_part arguments _ (each_without_item (IsPart arguments) i ts (item_parts arguments ts old))
without_is arguments s u old = old

pub there_if : (P : Tree → Type 0) (o : Option Tree) → IfSome o P → IfThere (found_if o) P
there_if P None is = tt
there_if P (Some t) is = is

part_is : (arguments : List (Option Tree)) (t : Tree) (s : Step) → IsPart arguments t
    → IfThere (part_at t s) (IsPart arguments)
part_is arguments (object ms) (field k) part =
    there_if (IsPart arguments) (find k ms) (each_found (IsPart arguments) k ms (member_parts arguments ms part).each)
part_is arguments (array ts) (place i) part =
    there_if (IsPart arguments) (item_at i ts) (each_at (IsPart arguments) ts i (item_parts arguments ts part))
part_is arguments t s part = tt

-- ---- trees that are set and removed

placed_is : (arguments : List (Option Tree)) (F : Found) (s : Step) (t u : Tree) → IsPart arguments t
    → IsPart arguments u → IsPart arguments (placed F s t u)
placed_is arguments (there old) s t u new part = replaced_is arguments s t u new part
placed_is arguments missing s t u new part = with_is arguments s t u new part
placed_is arguments no_place s t u new part = with_is arguments s t u new part

each_null : (arguments : List (Option Tree)) (k : ℕ) (ts : Items) → EachItem (IsPart arguments) ts
    → EachItem (IsPart arguments) (behind_nulls k ts)
each_null arguments zero ts each = each
each_null arguments (suc k) ts each = (null_part arguments, each_null arguments k ts each)

padded_if : (arguments : List (Option Tree)) (b : Bool) (k : ℕ) (t : Tree) → IsPart arguments t
    → IsPart arguments (if b then t else array (behind_nulls k (items_in (there t))))
padded_if arguments true k t old = old
padded_if arguments false k t old = array_part arguments _
    (each_null arguments k (items_in (there t)) (items_are arguments t old))

padded_is : (arguments : List (Option Tree)) (t : Tree) (s : CodeStep) → IsPart arguments t
    → IsPart arguments (front_padded t s)
padded_is arguments t (Field k) old = old
padded_is arguments t (Place i) old =
    let count = count_of (items_in (there t)) in
    padded_if arguments (is_some (place_of count i)) (unsigned_abs i - count) t old

found_or_null : (arguments : List (Option Tree)) (F : Found) → IfThere F (IsPart arguments)
    → IsPart arguments (tree_or_null F)
found_or_null arguments (there t) is = is
found_or_null arguments missing is = null_part arguments
found_or_null arguments no_place is = null_part arguments

pub set_is : (arguments : List (Option Tree)) (t : Tree) (p : List CodeStep) (n : Tree) → IsPart arguments t
    → IsPart arguments n → IsPart arguments (set_tree t p n)
set_is arguments t [] n old new = new
set_is arguments t (s ∷ p) n old new =
    let u = front_padded t s in
    let whole = padded_is arguments t s old in
    let part = found_or_null arguments (part_at u (step_in t s)) (part_is arguments u (step_in t s) whole) in
    placed_is arguments (part_at u (step_in t s)) (step_in t s) (set_tree (part_behind t s) p n) u
    (set_is arguments (part_behind t s) p n part new) whole

item_is : (arguments : List (Option Tree)) (o : Option ℕ) (ts : Items) → IsPart arguments (array ts)
    → IfThere (item_if o ts) (IsPart arguments)
item_is arguments None ts part = tt
item_is arguments (Some i) ts part = part_is arguments (array ts) (place i) part

signed_is : (arguments : List (Option Tree)) (t : Tree) (s : CodeStep) → IsPart arguments t
    → IfThere (signed_part_at t s) (IsPart arguments)
signed_is arguments (object ms) (Field k) part = part_is arguments (object ms) (field k) part
signed_is arguments (array ts) (Place i) part = item_is arguments (place_of (count_of ts) i) ts part
signed_is arguments t s part = tt

if_found : (arguments : List (Option Tree)) (F : Found) (f : Tree → Tree) (w : Tree) → IfThere F (IsPart arguments)
    → ((u : Tree) → IsPart arguments u → IsPart arguments (f u)) → IsPart arguments w
    → IsPart arguments (if_there F f w)
if_found arguments (there u) f w found so other = so u found
if_found arguments missing f w found so other = other
if_found arguments no_place f w found so other = other

pub removed_is : (arguments : List (Option Tree)) (t : Tree) (p : List CodeStep) → IsPart arguments t
    → IsPart arguments (remove_tree t p)
removed_is arguments t [] old = old
removed_is arguments t (s ∷ []) old =
    if_found arguments (signed_part_at t s) (λ u. without_part (step_in t s) t) t (signed_is arguments t s old)
    (λ u part. without_is arguments (step_in t s) t old) old
removed_is arguments t (s ∷ r ∷ p) old =
    if_found arguments (signed_part_at t s) (λ u. replace_part (step_in t s) (remove_tree u (r ∷ p)) t) t
    (signed_is arguments t s old)
    (λ u part. replaced_is arguments (step_in t s) (remove_tree u (r ∷ p)) t
    (removed_is arguments u (r ∷ p) part) old) old

-- ---- their tags

by_member : (o : Option Tree) (k : List ℕ) (t : Tree) (ms : Members)
    → tag_of (placed (found_if o) (field k) t (object ms)) ≡ tag.Object
by_member None k t ms = refl
by_member (Some u) k t ms = refl

by_item : (o : Option Tree) (i : ℕ) (t : Tree) (ts : Items)
    → tag_of (placed (found_if o) (place i) t (array ts)) ≡ tag.List
by_item None i t ts = refl
by_item (Some u) i t ts = refl

-- what has a field set is an object
pub field_tag : (k : List ℕ) (t u : Tree) → tag_of (set_part (field k) t u) ≡ tag.Object
field_tag k t (object ms) = by_member (find k ms) k t ms
field_tag k t u = refl

place_tag : (i : ℕ) (t u : Tree) → tag_of (set_part (place i) t u) ≡ tag.List
place_tag i t (array ts) = by_item (item_at i ts) i t ts
place_tag i t u = refl

part_tag : (s : Step) (t u : Tree) → allows containers (tag_of (set_part s t u)) ≡ true
part_tag (field k) t u = ap (allows containers) (field_tag k t u)
part_tag (place i) t u = ap (allows containers) (place_tag i t u)

pub set_tag : (t : Tree) (s : CodeStep) (p : List CodeStep) (n : Tree)
    → allows containers (tag_of (set_tree t (s ∷ p) n)) ≡ true
set_tag t s p n = part_tag (step_in t s) (set_tree (part_behind t s) p n) (front_padded t s)

replaced_tag : (s : Step) (t u : Tree) → tag_of (replace_part s t u) ≡ tag_of u
replaced_tag (field k) t (object ms) = refl
replaced_tag (place i) t (array ts) = refl
replaced_tag s t u = refl

without_tag : (s : Step) (u : Tree) → tag_of (without_part s u) ≡ tag_of u
without_tag (field k) (object ms) = refl
without_tag (place i) (array ts) = refl
without_tag s u = refl

found_tag : (F : Found) (f : Tree → Tree) (t : Tree) → ((u : Tree) → tag_of (f u) ≡ tag_of t)
    → tag_of (if_there F f t) ≡ tag_of t
found_tag (there u) f t same = same u
found_tag missing f t same = refl
found_tag no_place f t same = refl

pub removed_tag : (t : Tree) (p : List CodeStep) → tag_of (remove_tree t p) ≡ tag_of t
removed_tag t [] = refl
removed_tag t (s ∷ []) = found_tag (signed_part_at t s) (λ u. without_part (step_in t s) t) t
    (λ u. without_tag (step_in t s) t)
removed_tag t (s ∷ r ∷ p) = found_tag (signed_part_at t s)
    (λ u. replace_part (step_in t s) (remove_tree u (r ∷ p)) t) t
    (λ u. replaced_tag (step_in t s) (remove_tree u (r ∷ p)) t)
