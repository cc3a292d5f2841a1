-- What look-up finds in a tree in which another was set.
use Rattle.std.proofs.Common.{◌≡◌, ◌≢◌, ℕ, ◌<◌, List, [], ◌∷◌, ◌++◌, Option, Some, None, unwrap_or, refl, sym, ap, ◌∙◌, subst}
use Rattle.vrl_value.specs.Laws.{ItemsAreLists, MembersAreMaps}
use Rattle.vrl_value.specs.Look.{Step, field, place, Found, there, missing, no_place, found_if, found_behind, item_at, part_at, raw_at}
use Rattle.vrl_value.specs.Parts.{put_item}
use Rattle.vrl_value.specs.Tree.{Tree, null, array, object}
use Rattle.vrl_path.specs.Parts.{items_in, members_in, part_or_null, tree_or_null}
use Rattle.vrl_path.specs.Write.{or_null, Holds, IsPlainSet}
use Rattle.vrl_path.proofs.Placed.{placed_member, plain_set_tree, placed-field, placed-place, find-placed_other, part_at-set_part}

-- what the steps behind find in what was found
abbrev pub behind : List Step → Found → Found
behind b f = found_behind f b (λ u. raw_at u b)

-- the part that a set leaves at its first step
abbrev pub part_set : Tree → Step → List Step → Tree → Tree
part_set v s p n = plain_set_tree (part_or_null v s) p n

pub set_in_object : (v : Tree) (k : List ℕ) (p : List Step) (n : Tree) → plain_set_tree v (field k ∷ p) n ≡ object (placed_member k (part_set v (field k) p n) (members_in (there v)))
set_in_object v k p n = placed-field v k (part_set v (field k) p n)

pub set_in_array : (v : Tree) (i : ℕ) (p : List Step) (n : Tree) → plain_set_tree v (place i ∷ p) n ≡ array (put_item i (part_set v (place i) p n) (items_in (there v)))
set_in_array v i p n = placed-place v i (part_set v (place i) p n)

-- behind the first step of a set look-up goes on in its part
onward : (maps : MembersAreMaps) (lists : ItemsAreLists) (v : Tree) (s : Step) (p : List Step) (n : Tree) (q : List Step) → raw_at (plain_set_tree v (s ∷ p) n) (s ∷ q) ≡ raw_at (part_set v s p n) q
onward maps lists v s p n q = ap (behind q) (part_at-set_part maps lists s (part_set v s p n) v)

set_within : (maps : MembersAreMaps) (lists : ItemsAreLists) (v : Tree) (p : List Step) (n : Tree) (r : List Step) → raw_at (plain_set_tree v p n) (p ++ r) ≡ raw_at n r
set_within maps lists v [] n r = refl
set_within maps lists v (s ∷ p) n r = onward maps lists v s p n (p ++ r) ∙ set_within maps lists (tree_or_null (part_at v s)) p n r

holds : (v : Tree) (s : Step) (p : List Step) (n : Tree) → Holds s (there (plain_set_tree v (s ∷ p) n))
holds v (field k) p n = subst (λ w. there w ≡ there (object (members_in (there w)))) (sym (set_in_object v k p n)) refl
holds v (place i) p n = subst (λ w. there w ≡ there (array (items_in (there w)))) (sym (set_in_array v i p n)) refl

set_above : (maps : MembersAreMaps) (lists : ItemsAreLists) (v : Tree) (a : List Step) (s : Step) (r : List Step) (n : Tree) → Holds s (raw_at (plain_set_tree v (a ++ s ∷ r) n) a)
set_above maps lists v [] s r n = holds v s r n
set_above maps lists v (b ∷ a) s r n = subst (Holds s) (sym (onward maps lists v b (a ++ s ∷ r) n a)) (set_above maps lists (tree_or_null (part_at v b)) a s r n)

-- in null there is no more than where nothing was found
pub members_in-behind : (f : Found) (a : List Step) → members_in (raw_at (tree_or_null f) a) ≡ members_in (behind a f)
members_in-behind (there u) a = refl
members_in-behind missing [] = refl
members_in-behind missing (field k ∷ a) = refl
members_in-behind missing (place i ∷ a) = refl
members_in-behind no_place [] = refl
members_in-behind no_place (field k ∷ a) = refl
members_in-behind no_place (place i ∷ a) = refl

pub items_in-behind : (f : Found) (a : List Step) → items_in (raw_at (tree_or_null f) a) ≡ items_in (behind a f)
items_in-behind (there u) a = refl
items_in-behind missing [] = refl
items_in-behind missing (field k ∷ a) = refl
items_in-behind missing (place i ∷ a) = refl
items_in-behind no_place [] = refl
items_in-behind no_place (field k ∷ a) = refl
items_in-behind no_place (place i ∷ a) = refl

pub or_null-behind : (f : Found) (a : List Step) (j : ℕ) → or_null (raw_at (tree_or_null f) (a ++ place j ∷ [])) ≡ or_null (behind (a ++ place j ∷ []) f)
or_null-behind (there u) a j = refl
or_null-behind missing [] j = refl
or_null-behind missing (field k ∷ a) j = refl
or_null-behind missing (place i ∷ a) j = refl
or_null-behind no_place [] j = refl
or_null-behind no_place (field k ∷ a) j = refl
or_null-behind no_place (place i ∷ a) j = refl

set_beside_field : (maps : MembersAreMaps) (lists : ItemsAreLists) (v : Tree) (a : List Step) (k l : List ℕ) (r b : List Step) (n : Tree) → l ≢ k
    → raw_at (plain_set_tree v (a ++ field k ∷ r) n) (a ++ field l ∷ b) ≡ raw_at (object (members_in (raw_at v a))) (field l ∷ b)
set_beside_field maps lists v [] k l r b n other =
    ap (λ w. raw_at w (field l ∷ b)) (set_in_object v k r n) ∙ ap (λ o. behind b (found_if o)) (find-placed_other maps l k (part_set v (field k) r n) (members_in (there v)) other)
set_beside_field maps lists v (c ∷ a) k l r b n other =
    onward maps lists v c (a ++ field k ∷ r) n (a ++ field l ∷ b)
    ∙ set_beside_field maps lists (tree_or_null (part_at v c)) a k l r b n other
    ∙ ap (λ ms. raw_at (object ms) (field l ∷ b)) (members_in-behind (part_at v c) a)

found_or_null : (o : Option Tree) → there (unwrap_or o null) ≡ or_null (behind [] (found_if o))
found_or_null None = refl
found_or_null (Some t) = refl

-- a place of an array, or null
pub place_or_null : (v : Tree) (j : ℕ) → there (unwrap_or (item_at j (items_in (there v))) null) ≡ or_null (raw_at v (place j ∷ []))
place_or_null (array ts) j = found_or_null (item_at j ts)
place_or_null v j = refl

set_before_place : (maps : MembersAreMaps) (lists : ItemsAreLists) (v : Tree) (a : List Step) (i j : ℕ) (r b : List Step) (n : Tree) → j < i
    → raw_at (plain_set_tree v (a ++ place i ∷ r) n) (a ++ place j ∷ b) ≡ behind b (or_null (raw_at v (a ++ place j ∷ [])))
set_before_place maps lists v [] i j r b n lower =
    ap (λ w. raw_at w (place j ∷ b)) (set_in_array v i r n)
    ∙ ap (λ o. behind b (found_if o)) (lists.item_put_before i j (part_set v (place i) r n) (items_in (there v)) lower)
    ∙ ap (behind b) (place_or_null v j)
set_before_place maps lists v (c ∷ a) i j r b n lower =
    onward maps lists v c (a ++ place i ∷ r) n (a ++ place j ∷ b)
    ∙ set_before_place maps lists (tree_or_null (part_at v c)) a i j r b n lower
    ∙ ap (behind b) (or_null-behind (part_at v c) a j)

set_behind_place : (maps : MembersAreMaps) (lists : ItemsAreLists) (v : Tree) (a : List Step) (i j : ℕ) (r b : List Step) (n : Tree) → i < j
    → raw_at (plain_set_tree v (a ++ place i ∷ r) n) (a ++ place j ∷ b) ≡ raw_at (array (items_in (raw_at v a))) (place j ∷ b)
set_behind_place maps lists v [] i j r b n higher =
    ap (λ w. raw_at w (place j ∷ b)) (set_in_array v i r n) ∙ ap (λ o. behind b (found_if o)) (lists.item_put_behind i j (part_set v (place i) r n) (items_in (there v)) higher)
set_behind_place maps lists v (c ∷ a) i j r b n higher =
    onward maps lists v c (a ++ place i ∷ r) n (a ++ place j ∷ b)
    ∙ set_behind_place maps lists (tree_or_null (part_at v c)) a i j r b n higher
    ∙ ap (λ ts. raw_at (array ts) (place j ∷ b)) (items_in-behind (part_at v c) a)

set_place_at_field : (maps : MembersAreMaps) (lists : ItemsAreLists) (v : Tree) (a : List Step) (k : List ℕ) (j : ℕ) (r b : List Step) (n : Tree) → raw_at (plain_set_tree v (a ++ field k ∷ r) n) (a ++ place j ∷ b) ≡ no_place
set_place_at_field maps lists v [] k j r b n = ap (λ w. raw_at w (place j ∷ b)) (set_in_object v k r n)
set_place_at_field maps lists v (c ∷ a) k j r b n = onward maps lists v c (a ++ field k ∷ r) n (a ++ place j ∷ b) ∙ set_place_at_field maps lists (tree_or_null (part_at v c)) a k j r b n

set_field_at_place : (maps : MembersAreMaps) (lists : ItemsAreLists) (v : Tree) (a : List Step) (i : ℕ) (l : List ℕ) (r b : List Step) (n : Tree) → raw_at (plain_set_tree v (a ++ place i ∷ r) n) (a ++ field l ∷ b) ≡ no_place
set_field_at_place maps lists v [] i l r b n = ap (λ w. raw_at w (field l ∷ b)) (set_in_array v i r n)
set_field_at_place maps lists v (c ∷ a) i l r b n = onward maps lists v c (a ++ place i ∷ r) n (a ++ field l ∷ b) ∙ set_field_at_place maps lists (tree_or_null (part_at v c)) a i l r b n

-- the walk sets
pub is_set : (maps : MembersAreMaps) (lists : ItemsAreLists) (v : Tree) (p : List Step) (n : Tree) → IsPlainSet v p n (plain_set_tree v p n)
is_set maps lists v p n = record {
  within = set_within maps lists v p n;
  above = λ a s r e. subst (λ q. Holds s (raw_at (plain_set_tree v q n) a)) (sym e) (set_above maps lists v a s r n);
  beside_field = λ a k l r b e other. ap (λ q. raw_at (plain_set_tree v q n) (a ++ field l ∷ b)) e ∙ set_beside_field maps lists v a k l r b n other;
  before_place = λ a i j r b e lower. ap (λ q. raw_at (plain_set_tree v q n) (a ++ place j ∷ b)) e ∙ set_before_place maps lists v a i j r b n lower;
  behind_place = λ a i j r b e higher. ap (λ q. raw_at (plain_set_tree v q n) (a ++ place j ∷ b)) e ∙ set_behind_place maps lists v a i j r b n higher;
  place_at_field = λ a k j r b e. ap (λ q. raw_at (plain_set_tree v q n) (a ++ place j ∷ b)) e ∙ set_place_at_field maps lists v a k j r b n;
  field_at_place = λ a i l r b e. ap (λ q. raw_at (plain_set_tree v q n) (a ++ field l ∷ b)) e ∙ set_field_at_place maps lists v a i l r b n;
}
