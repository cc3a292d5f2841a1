-- One step of a set: the container with its new part.
use Rattle.std.proofs.Common.{◌≡◌, ◌≢◌, ℕ, zero, suc, List, [], ◌∷◌, Option, Some, None, Ordering, Less, Equal, Greater, nat_cmp, refl, sym, ap, ◌∙◌}
use Rattle.std.proofs.lemmas.Cmp.{nat_list_cmp_total, tied_itself}
use Rattle.std.specs.Cmp.Lexicographic.{slice_cmp}
use Rattle.std.specs.Ordering.{match_ordering}
use Rattle.vrl_value.specs.Laws.{ItemsAreLists, MembersAreMaps}
use Rattle.vrl_value.specs.Look.{Step, field, place, there, found_if, item_at, part_at}
use Rattle.vrl_value.specs.Parts.{put_item, replace, replace_item}
use Rattle.vrl_value.specs.Tree.{Tree, null, array, object, Items, no_items, item, Members, no_members, member, find, put}
use Rattle.vrl_path.specs.Parts.{items_in, members_in, part_or_null, placed, set_part}

-- the tree with n at a path without negative places
abbrev pub plain_set_tree : Tree → List Step → Tree → Tree
plain_set_tree t [] n = n
plain_set_tree t (s ∷ p) n = set_part s (plain_set_tree (part_or_null t s) p n) t

-- the members with t at the key, by whether something is there
abbrev pub member_if : Option Tree → List ℕ → Tree → Members → Members
member_if None k t ms = put k t ms
member_if (Some u) k t ms = replace k t ms

abbrev pub placed_member : List ℕ → Tree → Members → Members
placed_member k t ms = member_if (find k ms) k t ms

object_at : (o : Option Tree) (k : List ℕ) (t : Tree) (ms : Members) → placed (found_if o) (field k) t (object ms) ≡ object (member_if o k t ms)
object_at None k t ms = refl
object_at (Some u) k t ms = refl

pub placed-field : (v : Tree) (k : List ℕ) (t : Tree) → set_part (field k) t v ≡ object (placed_member k t (members_in (there v)))
placed-field (object ms) k t = object_at (find k ms) k t ms
placed-field v k t = refl

-- to replace what is there is to put
pub replace_item-found : (i : ℕ) (t w : Tree) (ts : Items) → item_at i ts ≡ Some w → replace_item i t ts ≡ put_item i t ts
replace_item-found i t w no_items found = absurd cc
replace_item-found zero t w (item u ts) found = refl
replace_item-found (suc i) t w (item u ts) found = ap (item u) (replace_item-found i t w ts found)

array_at : (o : Option Tree) (i : ℕ) (t : Tree) (ts : Items) → item_at i ts ≡ o → placed (found_if o) (place i) t (array ts) ≡ array (put_item i t ts)
array_at None i t ts found = refl
array_at (Some u) i t ts found = ap array (replace_item-found i t u ts found)

pub placed-place : (v : Tree) (i : ℕ) (t : Tree) → set_part (place i) t v ≡ array (put_item i t (items_in (there v)))
placed-place (array ts) i t = array_at (item_at i ts) i t ts refl
placed-place v i t = refl

find_at : (maps : MembersAreMaps) (o : Option Tree) (k : List ℕ) (t : Tree) (ms : Members) → find k ms ≡ o → find k (member_if o k t ms) ≡ Some t
find_at maps None k t ms found = maps.find_put k t ms
find_at maps (Some u) k t ms found = maps.find_replace k t u ms found

pub find-placed : (maps : MembersAreMaps) (k : List ℕ) (t : Tree) (ms : Members) → find k (placed_member k t ms) ≡ Some t
find-placed maps k t ms = find_at maps (find k ms) k t ms refl

find_other_at : (maps : MembersAreMaps) (o : Option Tree) (l k : List ℕ) (t : Tree) (ms : Members) → l ≢ k → find l (member_if o k t ms) ≡ find l ms
find_other_at maps None l k t ms other = maps.find_put_other l k t ms other
find_other_at maps (Some u) l k t ms other = maps.find_replace_other l k t ms other

pub find-placed_other : (maps : MembersAreMaps) (l k : List ℕ) (t : Tree) (ms : Members) → l ≢ k → find l (placed_member k t ms) ≡ find l ms
find-placed_other maps l k t ms other = find_other_at maps (find k ms) l k t ms other

pub part_at-set_part : (maps : MembersAreMaps) (lists : ItemsAreLists) (s : Step) (t v : Tree) → part_at (set_part s t v) s ≡ there t
part_at-set_part maps lists (field k) t v = ap (λ w. part_at w (field k)) (placed-field v k t) ∙ ap found_if (find-placed maps k t (members_in (there v)))
part_at-set_part maps lists (place i) t v = ap (λ w. part_at w (place i)) (placed-place v i t) ∙ ap found_if (lists.item_put i t (items_in (there v)))

-- what was put and then replaced
replace_put_at : (o : Ordering) (k l : List ℕ) (x y u : Tree) (ms : Members) → slice_cmp nat_cmp k l ≡ o → replace k y (put k x ms) ≡ put k y ms
    → replace k y (match_ordering o (member k x (member l u ms)) (member l x ms) (member l u (put k x ms))) ≡ match_ordering o (member k y (member l u ms)) (member l y ms) (member l u (put k y ms))
replace_put_at Less k l x y u ms is later = rw (tied_itself nat_list_cmp_total k) refl
replace_put_at Equal k l x y u ms is later = rw is refl
replace_put_at Greater k l x y u ms is later = rw is (ap (member l u) later)

replace_put : (k : List ℕ) (x y : Tree) (ms : Members) → replace k y (put k x ms) ≡ put k y ms
replace_put k x y no_members = rw (tied_itself nat_list_cmp_total k) refl
replace_put k x y (member l u ms) = replace_put_at (slice_cmp nat_cmp k l) k l x y u ms refl (replace_put k x y ms)

replace_twice_at : (o : Ordering) (k l : List ℕ) (x y u : Tree) (ms : Members) → slice_cmp nat_cmp k l ≡ o → replace k y (replace k x ms) ≡ replace k y ms
    → replace k y (match_ordering o (member l u (replace k x ms)) (member l x ms) (member l u (replace k x ms))) ≡ match_ordering o (member l u (replace k y ms)) (member l y ms) (member l u (replace k y ms))
replace_twice_at Less k l x y u ms is later = rw is (ap (member l u) later)
replace_twice_at Equal k l x y u ms is later = rw is refl
replace_twice_at Greater k l x y u ms is later = rw is (ap (member l u) later)

replace_twice : (k : List ℕ) (x y : Tree) (ms : Members) → replace k y (replace k x ms) ≡ replace k y ms
replace_twice k x y no_members = refl
replace_twice k x y (member l u ms) = replace_twice_at (slice_cmp nat_cmp k l) k l x y u ms refl (replace_twice k x y ms)

member_twice : (o : Option Tree) (k : List ℕ) (x y : Tree) (ms : Members) → replace k y (member_if o k x ms) ≡ member_if o k y ms
member_twice None k x y ms = replace_put k x y ms
member_twice (Some u) k x y ms = replace_twice k x y ms

item_twice : (i : ℕ) (x y : Tree) (ts : Items) → put_item i y (put_item i x ts) ≡ put_item i y ts
item_twice zero x y no_items = refl
item_twice zero x y (item u ts) = refl
item_twice (suc i) x y no_items = ap (item null) (item_twice i x y no_items)
item_twice (suc i) x y (item u ts) = ap (item u) (item_twice i x y ts)

-- of two parts set at a step the last one stays
pub set_part-twice : (maps : MembersAreMaps) (s : Step) (x y v : Tree) → set_part s y (set_part s x v) ≡ set_part s y v
set_part-twice maps (field k) x y v =
    let ms = members_in (there v) in
    let once = placed_member k x ms in
    ap (set_part (field k) y) (placed-field v k x) ∙ placed-field (object once) k y
    ∙ ap (λ o. object (member_if o k y once)) (find-placed maps k x ms) ∙ ap object (member_twice (find k ms) k x y ms) ∙ sym (placed-field v k y)
set_part-twice maps (place i) x y v =
    let ts = items_in (there v) in
    ap (set_part (place i) y) (placed-place v i x) ∙ placed-place (array (put_item i x ts)) i y ∙ ap array (item_twice i x y ts) ∙ sym (placed-place v i y)
