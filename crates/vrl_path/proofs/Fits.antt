-- Whether a tree is within a limit of depth with another set in it: by what stands beside the path.
use Rattle.std.proofs.Common.{◌≡◌, ◌≢◌, ℕ, ℤ, zero, suc, ◌+◌, ◌-◌, ◌<◌, ◌≤◌, ◌↔◌, List, [], ◌∷◌, ◌++◌, length, max, get_or, Bool, true, false, Option, Some, None, String, Global, Ordering, Less, Equal, Greater, nat_cmp, string_cmp, string_bytes, bytes_eq, is_eq, IsTrue, unsigned_abs, refl, sym, ap, ◌∙◌, subst, arith, ⊎_elim}
use Rattle.std.proofs.lemmas.Bool.{true≢false, cases_lt}
use Rattle.std.proofs.lemmas.Map.Text.{is_eq-slice_cmp}
use Rattle.std.proofs.lemmas.Slice.Eq.{bytes_eq-Decides}
use Rattle.std.proofs.lemmas.Cmp.{nat_list_cmp_total, tied_itself}
use Rattle.std.specs.Cmp.Lexicographic.{slice_cmp}
use Rattle.std.specs.List.{AllByRecursion}
use Rattle.std.specs.List.Sorted.{IsStrictlySortedBy}
use Rattle.std.specs.Map.{keys_of}
use Rattle.std.specs.Ordering.{match_ordering}
use Rattle.vrl_value.specs.Depth.{depth_of, items_depth, members_depth}
use Rattle.vrl_value.specs.Laws.{MembersAreMaps}
use Rattle.vrl_value.specs.Look.{item_at}
use Rattle.vrl_value.specs.Parts.{count_of, put_item, replace, replace_item, without}
use Rattle.vrl_value.specs.Tree.{Tree, null, array, object, Items, no_items, item, Members, no_members, member, find, put, IsBefore}
use Rattle.vrl_value.specs.View.{items_view, members_view, tree_of}
use Rattle.vrl_value.specs.declared.value.Value.{Value}
use Rattle.vrl_path.specs.Read.{place_of}
use Rattle.vrl_path.specs.declared.path.Step.{Step as CodeStep}
use Rattle.vrl_path.specs.declared.path.Step.TheVariants.{Field, Place}
use Rattle.vrl_path.specs.Trees.{items_if, items_if_array, members_if, members_if_object, set_in_fields, set_in_items, set_tree}
use Rattle.vrl_path.proofs.Depths.{behind_nulls_depth, below_placed, put_within, set_shallow}
use Rattle.vrl_path.proofs.Placed.{member_if, replace_item-found}
use Rattle.vrl_path.proofs.Places.{set_at_place, set_before_first, set_no_array}

-- the keys of the members ascend
abbrev pub KeysAscend : Members → Type 0
KeysAscend no_members = Unit {0}
KeysAscend (member k t ms) = IsBefore k ms × KeysAscend ms

key_before : (key : String Global) (es : List (String Global × Value)) → AllByRecursion (λ k. string_cmp key k ≡ Less) (keys_of es) → IsBefore (string_bytes key) (members_view es)
key_before key [] before = tt
key_before key (e ∷ es) before = (before.0, key_before key es before.1)

pub keys_ascend : (es : List (String Global × Value)) → IsStrictlySortedBy string_cmp (keys_of es) → KeysAscend (members_view es)
unfolding IsStrictlySortedBy
keys_ascend [] sorted = tt
keys_ascend (e ∷ es) sorted = (key_before e.0 es sorted.0, keys_ascend es sorted.1)

without_le_at : (o : Ordering) (l : List ℕ) (u : Tree) (ms rest : Members) → members_depth rest ≤ members_depth ms → members_depth (match_ordering o (member l u rest) rest (member l u rest)) ≤ max (depth_of u) (members_depth ms)
without_le_at Less l u ms rest later = omega arith
without_le_at Equal l u ms rest later = omega arith
without_le_at Greater l u ms rest later = omega arith

without_le : (k : List ℕ) (ms : Members) → members_depth (without k ms) ≤ members_depth ms
without_le k no_members = omega arith
without_le k (member l u ms) = without_le_at (slice_cmp nat_cmp k l) l u ms (without k ms) (without_le k ms)

-- two keys in order are the same
same_keys : (k l : List ℕ) → slice_cmp nat_cmp k l ≡ Equal → k ≡ l
same_keys k l equal = (bytes_eq-Decides k l).0 (sym (is_eq-slice_cmp k l) ∙ ap is_eq equal)

-- at a key before all of the members there is nothing to take out
without-before : (k : List ℕ) (ms : Members) → IsBefore k ms → without k ms ≡ ms
without-before k no_members before = refl
without-before k (member l u ms) before = rw before.0 (ap (member l u) (without-before k ms before.1))

-- what was replaced is no deeper than the new part and the others
replace_le_at : (o : Ordering) (k l : List ℕ) (t u : Tree) (ms : Members) → slice_cmp nat_cmp k l ≡ o → KeysAscend (member l u ms) → members_depth (replace k t ms) ≤ max (depth_of t) (members_depth (without k ms))
    → members_depth (match_ordering o (member l u (replace k t ms)) (member l t ms) (member l u (replace k t ms))) ≤ max (depth_of t) (members_depth (match_ordering o (member l u (without k ms)) (without k ms) (member l u (without k ms))))
replace_le_at Less k l t u ms is ascend later = omega arith
replace_le_at Equal k l t u ms is ascend later =
    let e : members_depth (without k ms) ≡ members_depth ms = ap members_depth (without-before k ms (subst (λ q. IsBefore q ms) (sym (same_keys k l is)) ascend.0)) in
    omega arith
replace_le_at Greater k l t u ms is ascend later = omega arith

replace_le : (k : List ℕ) (t : Tree) (ms : Members) → KeysAscend ms → members_depth (replace k t ms) ≤ max (depth_of t) (members_depth (without k ms))
replace_le k t no_members ascend = omega arith
replace_le k t (member l u ms) ascend = replace_le_at (slice_cmp nat_cmp k l) k l t u ms refl ascend (replace_le k t ms ascend.1)

-- and the others are no deeper than the whole
others_replace_at : (o : Ordering) (l : List ℕ) (t u : Tree) (ms rest left : Members) → members_depth left ≤ members_depth rest → members_depth left ≤ members_depth ms
    → members_depth (match_ordering o (member l u left) left (member l u left)) ≤ members_depth (match_ordering o (member l u rest) (member l t ms) (member l u rest))
others_replace_at Less l t u ms rest left later below = omega arith
others_replace_at Equal l t u ms rest left later below = omega arith
others_replace_at Greater l t u ms rest left later below = omega arith

others_replace : (k : List ℕ) (t : Tree) (ms : Members) → members_depth (without k ms) ≤ members_depth (replace k t ms)
others_replace k t no_members = omega arith
others_replace k t (member l u ms) = others_replace_at (slice_cmp nat_cmp k l) l t u ms (replace k t ms) (without k ms) (others_replace k t ms) (without_le k ms)

others_put_at : (o : Ordering) (k l : List ℕ) (t u : Tree) (ms rest left : Members) → members_depth left ≤ members_depth rest → members_depth left ≤ members_depth ms
    → members_depth (match_ordering o (member l u left) left (member l u left)) ≤ members_depth (match_ordering o (member k t (member l u ms)) (member l t ms) (member l u rest))
others_put_at Less k l t u ms rest left later below = omega arith
others_put_at Equal k l t u ms rest left later below = omega arith
others_put_at Greater k l t u ms rest left later below = omega arith

others_put : (k : List ℕ) (t : Tree) (ms : Members) → members_depth (without k ms) ≤ members_depth (put k t ms)
others_put k t no_members = omega arith
others_put k t (member l u ms) = others_put_at (slice_cmp nat_cmp k l) k l t u ms (put k t ms) (without k ms) (others_put k t ms) (without_le k ms)

fields_at : (maps : MembersAreMaps) (o : Option Tree) (k : List ℕ) (t : Tree) (ms : Members) (limit : ℕ) → find k ms ≡ o → KeysAscend ms → depth_of t ≤ limit
    → (members_depth (without k ms) ≤ limit) ↔ (members_depth (member_if o k t ms) ≤ limit)
fields_at maps None k t ms limit is ascend new =
    let e : members_depth (without k ms) ≡ members_depth ms = ap members_depth (maps.without_none k ms is) in
    let within = put_within k t ms in
    let others = others_put k t ms in
    (λ h. omega arith, λ h. omega arith)
fields_at maps (Some u) k t ms limit is ascend new =
    let within = replace_le k t ms ascend in
    let others = others_replace k t ms in
    (λ h. omega arith, λ h. omega arith)

part_alone : (o : Option Tree) (k : List ℕ) (t : Tree) (ms : Members) → members_if o (λ u. replace k t ms) (put k t ms) ≡ member_if o k t ms
part_alone None k t ms = refl
part_alone (Some u) k t ms = refl

-- fields fit with a new part where the others do
pub fields_within : (maps : MembersAreMaps) (k : List ℕ) (t : Tree) (ms : Members) (limit : ℕ) → KeysAscend ms → depth_of t ≤ limit → (members_depth (without k ms) ≤ limit) ↔ (members_depth (set_in_fields k ms [] t) ≤ limit)
fields_within maps k t ms limit ascend new = rw (part_alone (find k ms) k t ms) (fields_at maps (find k ms) k t ms limit refl ascend new)

-- a limit below the new part is a limit below the fields
pub part_of_fields : (k : List ℕ) (t : Tree) (ms : Members) → depth_of t ≤ members_depth (set_in_fields k ms [] t)
part_of_fields k t ms = rw (part_alone (find k ms) k t ms) (below_placed k t ms)

depth_joined_at : (o : Ordering) (l : List ℕ) (u : Tree) (front whole back : Members) → members_depth whole ≡ max (members_depth front) (members_depth back)
    → members_depth (match_ordering o (member l u whole) whole (member l u whole)) ≡ max (members_depth (match_ordering o (member l u front) front (member l u front))) (members_depth back)
depth_joined_at Less l u front whole back later = omega arith
depth_joined_at Equal l u front whole back later = omega arith
depth_joined_at Greater l u front whole back later = omega arith

-- the depth of two runs of entries without a name
pub depth_joined : (k : List ℕ) (done left : List (String Global × Value)) → members_depth (without k (members_view (done ++ left))) ≡ max (members_depth (without k (members_view done))) (members_depth (without k (members_view left)))
depth_joined k [] left = omega arith
depth_joined k (e ∷ done) left = depth_joined_at (slice_cmp nat_cmp k (string_bytes e.0)) (string_bytes e.0) (tree_of e.1) (without k (members_view done)) (without k (members_view (done ++ left))) (without k (members_view left)) (depth_joined k done left)

one_entry_at : (o : Ordering) (l : List ℕ) (u : Tree) (limit : ℕ) → (o ≢ Equal → depth_of u ≤ limit) → members_depth (match_ordering o (member l u no_members) no_members (member l u no_members)) ≤ limit
one_entry_at Less l u limit fits = let h : depth_of u ≤ limit = fits (λ e. absurd cc) in omega arith
one_entry_at Equal l u limit fits = omega arith
one_entry_at Greater l u limit fits = let h : depth_of u ≤ limit = fits (λ e. absurd cc) in omega arith

equal_keys : (k l : List ℕ) → k ≡ l → slice_cmp nat_cmp k l ≡ Equal
equal_keys k l same = subst (λ q. slice_cmp nat_cmp k q ≡ Equal) same (tied_itself nat_list_cmp_total k)

deep_entry_at : (o : Ordering) (l : List ℕ) (u : Tree) (rest : Members) → o ≢ Equal → depth_of u ≤ members_depth (match_ordering o (member l u rest) rest (member l u rest))
deep_entry_at Less l u rest other = omega arith
deep_entry_at Equal l u rest other = absurd (other refl)
deep_entry_at Greater l u rest other = omega arith

each_within : (vs : List Value) (limit : ℕ) → ((k : ℕ) (d : Value) → k < length vs → depth_of (tree_of (get_or vs k d)) ≤ limit) → items_depth (items_view vs) ≤ limit
each_within [] limit each = omega arith
each_within (v ∷ vs) limit each =
    let first = each 0 v (omega arith) in
    let h = each_within vs limit (λ k d within. each (suc k) d (omega arith)) in
    omega arith

item_below : (vs : List Value) (k : ℕ) (d : Value) → k < length vs → depth_of (tree_of (get_or vs k d)) ≤ items_depth (items_view vs)
item_below [] k d within = absurd (omega arith)
item_below (v ∷ vs) zero d within = omega arith
item_below (v ∷ vs) (suc k) d within = let h = item_below vs k d (omega arith) in omega arith

-- items fit with a new part where the others do
pub items_within : (i : ℕ) (t : Tree) (vs : List Value) (limit : ℕ) → depth_of t ≤ limit → ((k : ℕ) (d : Value) → k < length vs → k ≢ i → depth_of (tree_of (get_or vs k d)) ≤ limit) → items_depth (put_item i t (items_view vs)) ≤ limit
items_within zero t [] limit new others = omega arith
items_within (suc i) t [] limit new others = let h = items_within i t [] limit new (λ k d within other. absurd (omega arith)) in omega arith
items_within zero t (v ∷ vs) limit new others = let h = each_within vs limit (λ k d within. others (suc k) d (omega arith) (λ e. absurd (omega arith))) in omega arith
items_within (suc i) t (v ∷ vs) limit new others =
    let first = others 0 v (omega arith) (λ e. absurd (omega arith)) in
    let h = items_within i t vs limit new (λ k d within other. others (suc k) d (omega arith) (λ e. other (omega arith))) in
    omega arith

-- and one that is deeper than the limit is one too many
pub item_over : (i : ℕ) (t : Tree) (vs : List Value) (k : ℕ) (d : Value) → k < length vs → k ≢ i → depth_of (tree_of (get_or vs k d)) ≤ items_depth (put_item i t (items_view vs))
item_over i t [] k d within other = absurd (omega arith)
item_over zero t (v ∷ vs) zero d within other = absurd (other refl)
item_over zero t (v ∷ vs) (suc k) d within other = let h = item_below vs k d (omega arith) in omega arith
item_over (suc i) t (v ∷ vs) zero d within other = omega arith
item_over (suc i) t (v ∷ vs) (suc k) d within other = let h = item_over i t vs k d (omega arith) (λ e. other (ap suc e)) in omega arith

-- the new part that a set leaves in a field
pub set_in_fields-part : (k : List ℕ) (ms : Members) (p : List CodeStep) (n u : Tree) → Some u ≡ find k ms → set_in_fields k ms p n ≡ set_in_fields k ms [] (set_tree u p n)
set_in_fields-part k ms p n u found = rw (← found) refl

pub set_in_fields-new : (k : List ℕ) (ms : Members) (p : List CodeStep) (n : Tree) → None ≡ find k ms → set_in_fields k ms p n ≡ set_in_fields k ms [] (set_tree null p n)
set_in_fields-new k ms p n none = rw (← none) refl

items_part_at : (o : Option Tree) (i : ℕ) (ts : Items) (p : List CodeStep) (n u : Tree) → item_at i ts ≡ o → Some u ≡ o → items_if o (λ u. replace_item i (set_tree u p n) ts) (put_item i (set_tree null p n) ts) ≡ put_item i (set_tree u p n) ts
items_part_at None i ts p n u is found = absurd cc
items_part_at (Some w) i ts p n u is found = let e : w ≡ u = cc in ap (λ x. replace_item i (set_tree x p n) ts) e ∙ replace_item-found i (set_tree u p n) w ts is

pub set_in_items-part : (i : ℕ) (ts : Items) (p : List CodeStep) (n u : Tree) → Some u ≡ item_at i ts → set_in_items i ts p n ≡ put_item i (set_tree u p n) ts
set_in_items-part i ts p n u found = items_part_at (item_at i ts) i ts p n u refl found

pub set_in_items-new : (i : ℕ) (ts : Items) (p : List CodeStep) (n : Tree) → None ≡ item_at i ts → set_in_items i ts p n ≡ put_item i (set_tree null p n) ts
set_in_items-new i ts p n none = rw (← none) refl

-- what is new is as deep as its path is long and its end deep
pub new_shallow : (p : List CodeStep) (n : Tree) → depth_of (set_tree null p n) ≤ length p + depth_of n
new_shallow p n = let h = set_shallow null p n in omega arith

-- a fact that a test decides, by the test
pub over : (b : Bool) (d limit : ℕ) → (IsTrue b ↔ (d ≤ limit)) → b ≡ false → limit < d
over b d limit decides fails = ⊎_elim (λ h. h) (λ h. absurd (true≢false (sym (decides.1 h) ∙ fails))) (cases_lt limit d)

-- where a part is over the limit, so is the whole
pub over_whole : (b : Bool) (d whole limit : ℕ) → (IsTrue b ↔ (d ≤ limit)) → b ≡ false → d ≤ whole → IsTrue b ↔ (whole ≤ limit)
over_whole b d whole limit decides fails below = let h = over b d limit decides fails in (λ yes. absurd (true≢false (sym yes ∙ fails)), λ fits. absurd (omega arith))

set_no_object : (v : Tree) (k : List ℕ) (p : List CodeStep) (n : Tree) → None ≡ members_if_object v → set_tree v (Field k ∷ p) n ≡ set_tree null (Field k ∷ p) n
set_no_object (object ms) k p n none = absurd cc
set_no_object v k p n none = refl

-- a set in what isn't the container that the first step fits: the limit has room for the path and the new part
pub no_object_fits : (v : Tree) (steps : List CodeStep) (s : CodeStep) (name : List ℕ) (n : Tree) (limit : ℕ) → s ≡ get_or steps 0 s → s ≡ Field name → 1 ≤ length steps → None ≡ members_if_object v
    → length steps + depth_of n ≤ limit → depth_of (set_tree v steps n) ≤ limit
no_object_fits v [] s name n limit is field_is some none room = absurd (omega arith)
no_object_fits v (q ∷ rest) s name n limit is field_is some none room =
    let h = new_shallow (Field name ∷ rest) n in
    let e = ap depth_of (ap (λ x. set_tree v (x ∷ rest) n) (sym is ∙ field_is) ∙ set_no_object v name rest n none) in
    omega arith

pub no_array_fits : (v : Tree) (steps : List CodeStep) (s : CodeStep) (i : ℤ) (n : Tree) (limit : ℕ) → s ≡ get_or steps 0 s → s ≡ Place i → 1 ≤ length steps → None ≡ items_if_array v
    → length steps + depth_of n ≤ limit → depth_of (set_tree v steps n) ≤ limit
no_array_fits v [] s i n limit is place_is some none room = absurd (omega arith)
no_array_fits v (q ∷ rest) s i n limit is place_is some none room =
    let h = new_shallow (Place i ∷ rest) n in
    let e = ap depth_of (ap (λ x. set_tree v (x ∷ rest) n) (sym is ∙ place_is) ∙ set_no_array v i rest n none) in
    omega arith

-- a null behind the last item makes items no deeper
null_behind : (ts : Items) → items_depth (put_item (count_of ts) null ts) ≡ items_depth ts
null_behind no_items = omega arith
null_behind (item u ts) = let h = null_behind ts in omega arith

-- an array fits with a new part where its items do
pub place_fits : (test : Bool) (ts : Items) (z : ℤ) (i : ℕ) (p : List CodeStep) (n : Tree) (limit : ℕ) → place_of (count_of ts) z ≡ Some i → 0 < limit
    → (IsTrue test ↔ (items_depth (set_in_items i ts p n) ≤ limit - 1)) → (IsTrue test ↔ (depth_of (set_tree (array ts) (Place z ∷ p) n) ≤ limit))
place_fits test ts z i p n limit is some decides =
    let e = ap depth_of (set_at_place ts z i p n is) in
    (λ yes. let h = decides.0 yes in omega arith, λ fits. decides.1 (omega arith))

pub front_fits : (test : Bool) (ts : Items) (z : ℤ) (p : List CodeStep) (n : Tree) (limit : ℕ) → place_of (count_of ts) z ≡ None → length p + depth_of n < limit
    → (IsTrue test ↔ (items_depth (put_item (count_of ts) null ts) ≤ limit - 1)) → (IsTrue test ↔ (depth_of (set_tree (array ts) (Place z ∷ p) n) ≤ limit))
front_fits test ts z p n limit none room decides =
    let e = ap depth_of (set_before_first ts z p n none) in
    let part = new_shallow p n in
    let nulls = behind_nulls_depth (unsigned_abs z - count_of ts - 1) ts in
    let same = null_behind ts in
    (λ yes. let h = decides.0 yes in omega arith, λ fits. decides.1 (omega arith))

-- an entry at the name always fits
pub entry_at_name : (key name : List ℕ) (u : Tree) (limit : ℕ) → bytes_eq key name ≡ true → members_depth (without name (member key u no_members)) ≤ limit
entry_at_name key name u limit is = one_entry_at (slice_cmp nat_cmp name key) key u limit (λ other. absurd (other (equal_keys name key (sym ((bytes_eq-Decides key name).0 is)))))

-- another one where it is within the limit
pub entry_elsewhere : (key name : List ℕ) (u : Tree) (limit : ℕ) → bytes_eq key name ≡ false → (depth_of u ≤ limit) ↔ (members_depth (without name (member key u no_members)) ≤ limit)
entry_elsewhere key name u limit is =
    let other : key ≢ name = λ e. true≢false (sym ((bytes_eq-Decides key name).1 e) ∙ is) in
    let apart = λ (e : slice_cmp nat_cmp name key ≡ Equal). other (sym (same_keys name key e)) in
    (λ h. one_entry_at (slice_cmp nat_cmp name key) key u limit (λ _. h), λ h. let deep = deep_entry_at (slice_cmp nat_cmp name key) key u no_members apart in omega arith)
