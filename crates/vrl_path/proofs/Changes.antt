-- One step of a change in place: what the container is with the part changed.
use Rattle.std.proofs.Common.{◌≡◌, ℕ, zero, suc, ◌≤◌, List, Some, None, ap, refl, arith, Ordering, Less, Equal, Greater, nat_cmp}
use Rattle.std.specs.Cmp.Lexicographic.{slice_cmp}
use Rattle.std.specs.Ordering.{match_ordering}
use Rattle.vrl_value.specs.Look.{item_at}
use Rattle.vrl_value.specs.Parts.{count_of, replace, replace_item}
use Rattle.vrl_value.specs.Tree.{Tree, Items, Members, no_items, item, no_members, member, find}
use Rattle.vrl_path.specs.declared.path.Step.{Step}
use Rattle.vrl_path.specs.Trees.{set_tree, set_in_fields, set_in_items, remove_tree, remove_in_fields, remove_in_items}

-- a value set in the field that was found
pub set_found_field : (k : List ℕ) (ms : Members) (p : List Step) (n t w : Tree) → Some t ≡ find k ms → w ≡ set_tree t p n → replace k w ms ≡ set_in_fields k ms p n
set_found_field k ms p n t w found set = rw (← found) (ap (λ u. replace k u ms) set)

-- a value set in the item that was found
pub set_found_item : (i : ℕ) (ts : Items) (p : List Step) (n t w : Tree) → Some t ≡ item_at i ts → w ≡ set_tree t p n → replace_item i w ts ≡ set_in_items i ts p n
set_found_item i ts p n t w found set = rw (← found) (ap (λ u. replace_item i u ts) set)

pub removed_in_field : (k : List ℕ) (ms : Members) (p : List Step) (t w : Tree) → Some t ≡ find k ms → w ≡ remove_tree t p → replace k w ms ≡ remove_in_fields k ms p
removed_in_field k ms p t w found removed = rw (← found) (ap (λ u. replace k u ms) removed)

pub removed_in_item : (i : ℕ) (ts : Items) (p : List Step) (t w : Tree) → Some t ≡ item_at i ts → w ≡ remove_tree t p → replace_item i w ts ≡ remove_in_items i ts p
removed_in_item i ts p t w found removed = rw (← found) (ap (λ u. replace_item i u ts) removed)

-- a part replaced by itself
pub same_item : (i : ℕ) (ts : Items) (t w : Tree) → Some t ≡ item_at i ts → w ≡ t → replace_item i w ts ≡ ts
same_item i no_items t w found same = refl
same_item zero (item u ts) t w found same = let e : w ≡ u = cc in ap (λ x. item x ts) e
same_item (suc i) (item u ts) t w found same = ap (item u) (same_item i ts t w found same)

-- where nothing is found, the place is behind the last
pub count_of-missing : (i : ℕ) (ts : Items) → None ≡ item_at i ts → count_of ts ≤ i
count_of-missing i no_items none = omega arith
count_of-missing zero (item u ts) none = absurd cc
count_of-missing (suc i) (item u ts) none = let later = count_of-missing i ts none in omega arith

-- the step of `same_member`, at the order of the key and the first one
same_member_at : (o : Ordering) (k l : List ℕ) (t u w : Tree) (ms : Members) → Some t ≡ match_ordering o (find k ms) (Some u) (find k ms) → w ≡ t → (Some t ≡ find k ms → replace k w ms ≡ ms)
    → match_ordering o (member l u (replace k w ms)) (member l w ms) (member l u (replace k w ms)) ≡ member l u ms
same_member_at Less k l t u w ms found same later = ap (member l u) (later found)
same_member_at Equal k l t u w ms found same later = let e : w ≡ u = cc in ap (λ x. member l x ms) e
same_member_at Greater k l t u w ms found same later = ap (member l u) (later found)

pub same_member : (k : List ℕ) (ms : Members) (t w : Tree) → Some t ≡ find k ms → w ≡ t → replace k w ms ≡ ms
same_member k no_members t w found same = refl
same_member k (member l u ms) t w found same = same_member_at (slice_cmp nat_cmp k l) k l t u w ms found same (λ f. same_member k ms t w f same)
