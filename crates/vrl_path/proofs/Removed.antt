-- What look-up finds in a tree from which a sub-tree was taken out.
use Rattle.std.proofs.Common.{◌≡◌, ◌≢◌, ℕ, suc, ◌<◌, ◌≤◌, List, [], ◌∷◌, ◌++◌, Option, Some, None, refl, sym, ap, ◌∙◌, subst}
use Rattle.vrl_value.specs.Laws.{ItemsAreLists, MembersAreMaps}
use Rattle.vrl_value.specs.Look.{Step, field, place, Found, there, missing, no_place, found_if, item_at, part_at, raw_at}
use Rattle.vrl_value.specs.Tree.{Tree, array, object, Items, Members, find}
use Rattle.vrl_path.specs.Parts.{replace_part, without_part}
use Rattle.vrl_path.specs.Remove.{IsPlainRemoval}
use Rattle.vrl_path.specs.Trees.{if_there}
use Rattle.vrl_path.specs.Write.{Holds}
use Rattle.vrl_path.proofs.Changes.{same_item, same_member}
use Rattle.vrl_path.proofs.Sets.{behind}

-- the tree without what stands at a path without negative places
abbrev pub plain_remove_tree : Tree → List Step → Tree
plain_remove_tree t [] = t
plain_remove_tree t (s ∷ []) = without_part s t
plain_remove_tree t (s ∷ r ∷ p) = if_there (part_at t s) (λ u. replace_part s (plain_remove_tree u (r ∷ p)) t) t

if_found : (o : Option Tree) (u : Tree) → found_if o ≡ there u → o ≡ Some u
if_found None u is = absurd cc
if_found (Some t) u is = cc

-- what has a field is an object
in_object : (k : List ℕ) (u : Tree) (P : Tree → Type 0) → ((ms : Members) → find k ms ≡ Some u → P (object ms)) → (v : Tree) → part_at v (field k) ≡ there u → P v
in_object k u P each (object ms) is = each ms (if_found (find k ms) u is)
in_object k u P each v is = absurd cc

-- what has an item is an array
in_array : (i : ℕ) (u : Tree) (P : Tree → Type 0) → ((ts : Items) → item_at i ts ≡ Some u → P (array ts)) → (v : Tree) → part_at v (place i) ≡ there u → P v
in_array i u P each (array ts) is = each ts (if_found (item_at i ts) u is)
in_array i u P each v is = absurd cc

part_at-replace : (maps : MembersAreMaps) (lists : ItemsAreLists) (s : Step) (v u t : Tree) → part_at v s ≡ there u → part_at (replace_part s t v) s ≡ there t
part_at-replace maps lists (field k) v u t is = in_object k u (λ x. part_at (replace_part (field k) t x) (field k) ≡ there t) (λ ms found. ap found_if (maps.find_replace k t u ms found)) v is
part_at-replace maps lists (place i) v u t is = in_array i u (λ x. part_at (replace_part (place i) t x) (place i) ≡ there t) (λ ts found. ap found_if (lists.item_replace i t u ts found)) v is

part_at-replace_other : (maps : MembersAreMaps) (lists : ItemsAreLists) (s q : Step) (v u t : Tree) → part_at v s ≡ there u → q ≢ s → part_at (replace_part s t v) q ≡ part_at v q
part_at-replace_other maps lists (field k) (field l) v u t is other =
    in_object k u (λ x. part_at (replace_part (field k) t x) (field l) ≡ part_at x (field l)) (λ ms found. ap found_if (maps.find_replace_other l k t ms (λ e. other (ap field e)))) v is
part_at-replace_other maps lists (field k) (place j) v u t is other = in_object k u (λ x. part_at (replace_part (field k) t x) (place j) ≡ part_at x (place j)) (λ ms found. refl) v is
part_at-replace_other maps lists (place i) (place j) v u t is other =
    in_array i u (λ x. part_at (replace_part (place i) t x) (place j) ≡ part_at x (place j)) (λ ts found. ap found_if (lists.item_replace_other i j t ts (λ e. other (ap place e)))) v is
part_at-replace_other maps lists (place i) (field l) v u t is other = in_array i u (λ x. part_at (replace_part (place i) t x) (field l) ≡ part_at x (field l)) (λ ts found. refl) v is

holds_replace : (s : Step) (v u t : Tree) → part_at v s ≡ there u → Holds s (there (replace_part s t v))
holds_replace (field k) v u t is = in_object k u (λ x. Holds (field k) (there (replace_part (field k) t x))) (λ ms found. refl) v is
holds_replace (place i) v u t is = in_array i u (λ x. Holds (place i) (there (replace_part (place i) t x))) (λ ts found. refl) v is

holds_without : (s : Step) (v u : Tree) → part_at v s ≡ there u → Holds s (there (without_part s v))
holds_without (field k) v u is = in_object k u (λ x. Holds (field k) (there (without_part (field k) x))) (λ ms found. refl) v is
holds_without (place i) v u is = in_array i u (λ x. Holds (place i) (there (without_part (place i) x))) (λ ts found. refl) v is

field_gone_at : (maps : MembersAreMaps) (lists : ItemsAreLists) (k : List ℕ) (v u : Tree) → part_at v (field k) ≡ there u → part_at (without_part (field k) v) (field k) ≡ missing
field_gone_at maps lists k v u is = in_object k u (λ x. part_at (without_part (field k) x) (field k) ≡ missing) (λ ms found. ap found_if (maps.find_without k ms)) v is

beside_field_at : (maps : MembersAreMaps) (lists : ItemsAreLists) (k : List ℕ) (q : Step) (v u : Tree) → part_at v (field k) ≡ there u → q ≢ field k → part_at (without_part (field k) v) q ≡ part_at v q
beside_field_at maps lists k (field l) v u is other =
    in_object k u (λ x. part_at (without_part (field k) x) (field l) ≡ part_at x (field l)) (λ ms found. ap found_if (maps.find_without_other l k ms (λ e. other (ap field e)))) v is
beside_field_at maps lists k (place j) v u is other = in_object k u (λ x. part_at (without_part (field k) x) (place j) ≡ part_at x (place j)) (λ ms found. refl) v is

before_place_at : (maps : MembersAreMaps) (lists : ItemsAreLists) (i j : ℕ) (v u : Tree) → part_at v (place i) ≡ there u → j < i → part_at (without_part (place i) v) (place j) ≡ part_at v (place j)
before_place_at maps lists i j v u is lower = in_array i u (λ x. part_at (without_part (place i) x) (place j) ≡ part_at x (place j)) (λ ts found. ap found_if (lists.item_without_before i j ts lower)) v is

behind_place_at : (maps : MembersAreMaps) (lists : ItemsAreLists) (i j : ℕ) (v u : Tree) → part_at v (place i) ≡ there u → i ≤ j → part_at (without_part (place i) v) (place j) ≡ part_at v (place (suc j))
behind_place_at maps lists i j v u is higher = in_array i u (λ x. part_at (without_part (place i) x) (place j) ≡ part_at x (place (suc j))) (λ ts found. ap found_if (lists.item_without_behind i j ts higher)) v is

field_at_place_at : (i : ℕ) (l : List ℕ) (v u : Tree) → part_at v (place i) ≡ there u → part_at (without_part (place i) v) (field l) ≡ part_at v (field l)
field_at_place_at i l v u is = in_array i u (λ x. part_at (without_part (place i) x) (field l) ≡ part_at x (field l)) (λ ts found. refl) v is

-- the first step of a path of at least two, behind which x stands: the removal goes on in the part there
record Opened (v : Tree) (c : Step) (p : List Step) (x : Tree) : Type 0 where
  part : Tree
  is : part_at v c ≡ there part
  found : raw_at part p ≡ there x
  removed : plain_remove_tree v (c ∷ p) ≡ replace_part c (plain_remove_tree part p) v

opened_at : (f : Found) (v : Tree) (c s : Step) (r : List Step) (x : Tree) → part_at v c ≡ f → behind (s ∷ r) f ≡ there x → Opened v c (s ∷ r) x
opened_at (there u) v c s r x is found = record { part = u; is = is; found = found; removed = ap (λ f. if_there f (λ t. replace_part c (plain_remove_tree t (s ∷ r)) v) v) is }
opened_at missing v c s r x is found = absurd cc
opened_at no_place v c s r x is found = absurd cc

opened : (v : Tree) (c : Step) (a : List Step) (s : Step) (r : List Step) (x : Tree) → raw_at v (c ∷ (a ++ s ∷ r)) ≡ there x → Opened v c (a ++ s ∷ r) x
opened v c [] s r x found = opened_at (part_at v c) v c s r x refl found
opened v c (b ∷ a) s r x found = opened_at (part_at v c) v c b (a ++ s ∷ r) x refl found

last_at : (f : Found) (x : Tree) → behind [] f ≡ there x → f ≡ there x
last_at (there u) x found = found
last_at missing x found = absurd cc
last_at no_place x found = absurd cc

pub last : (v : Tree) (s : Step) (x : Tree) → raw_at v (s ∷ []) ≡ there x → part_at v s ≡ there x
last v s x found = last_at (part_at v s) x found

module _ (maps : MembersAreMaps) (lists : ItemsAreLists) (v : Tree) (c : Step) (p : List Step) (x : Tree) (o : Opened v c p x) where
  -- behind the first step look-up goes on in the part, before and after
  after : (q : List Step) → raw_at (plain_remove_tree v (c ∷ p)) (c ∷ q) ≡ raw_at (plain_remove_tree o.part p) q
  after q = ap (λ w. raw_at w (c ∷ q)) o.removed ∙ ap (behind q) (part_at-replace maps lists c v o.part (plain_remove_tree o.part p) o.is)

  before : (q : List Step) → raw_at o.part q ≡ raw_at v (c ∷ q)
  before q = sym (ap (behind q) o.is)

removed_above : (maps : MembersAreMaps) (lists : ItemsAreLists) (a : List Step) (v : Tree) (s : Step) (r : List Step) (x : Tree) → raw_at v (a ++ s ∷ r) ≡ there x → Holds s (raw_at (plain_remove_tree v (a ++ s ∷ r)) a)
removed_above maps lists [] v s [] x found = holds_without s v x (last v s x found)
removed_above maps lists [] v s (b ∷ r) x found =
    let o = opened v s [] b r x found in
    subst (λ w. Holds s (there w)) (sym o.removed) (holds_replace s v o.part (plain_remove_tree o.part (b ∷ r)) o.is)
removed_above maps lists (c ∷ a) v s r x found =
    let o = opened v c a s r x found in
    subst (Holds s) (sym (after maps lists v c (a ++ s ∷ r) x o a)) (removed_above maps lists a o.part s r x o.found)

removed_beside : (maps : MembersAreMaps) (lists : ItemsAreLists) (a : List Step) (v : Tree) (s t u : Step) (r b : List Step) (x : Tree) → raw_at v (a ++ s ∷ u ∷ r) ≡ there x → t ≢ s → raw_at (plain_remove_tree v (a ++ s ∷ u ∷ r)) (a ++ t ∷ b) ≡ raw_at v (a ++ t ∷ b)
removed_beside maps lists [] v s t u r b x found other =
    let o = opened v s [] u r x found in
    ap (λ w. raw_at w (t ∷ b)) o.removed ∙ ap (behind b) (part_at-replace_other maps lists s t v o.part (plain_remove_tree o.part (u ∷ r)) o.is other)
removed_beside maps lists (c ∷ a) v s t u r b x found other =
    let o = opened v c a s (u ∷ r) x found in
    after maps lists v c (a ++ s ∷ u ∷ r) x o (a ++ t ∷ b) ∙ removed_beside maps lists a o.part s t u r b x o.found other ∙ before maps lists v c (a ++ s ∷ u ∷ r) x o (a ++ t ∷ b)

removed_field_gone : (maps : MembersAreMaps) (lists : ItemsAreLists) (a : List Step) (v : Tree) (k : List ℕ) (b : List Step) (x : Tree) → raw_at v (a ++ field k ∷ []) ≡ there x → raw_at (plain_remove_tree v (a ++ field k ∷ [])) (a ++ field k ∷ b) ≡ behind b missing
removed_field_gone maps lists [] v k b x found = ap (behind b) (field_gone_at maps lists k v x (last v (field k) x found))
removed_field_gone maps lists (c ∷ a) v k b x found =
    let o = opened v c a (field k) [] x found in
    after maps lists v c (a ++ field k ∷ []) x o (a ++ field k ∷ b) ∙ removed_field_gone maps lists a o.part k b x o.found

removed_beside_field : (maps : MembersAreMaps) (lists : ItemsAreLists) (a : List Step) (v : Tree) (k : List ℕ) (t : Step) (b : List Step) (x : Tree) → raw_at v (a ++ field k ∷ []) ≡ there x → t ≢ field k
    → raw_at (plain_remove_tree v (a ++ field k ∷ [])) (a ++ t ∷ b) ≡ raw_at v (a ++ t ∷ b)
removed_beside_field maps lists [] v k t b x found other = ap (behind b) (beside_field_at maps lists k t v x (last v (field k) x found) other)
removed_beside_field maps lists (c ∷ a) v k t b x found other =
    let o = opened v c a (field k) [] x found in
    after maps lists v c (a ++ field k ∷ []) x o (a ++ t ∷ b) ∙ removed_beside_field maps lists a o.part k t b x o.found other ∙ before maps lists v c (a ++ field k ∷ []) x o (a ++ t ∷ b)

removed_before_place : (maps : MembersAreMaps) (lists : ItemsAreLists) (a : List Step) (v : Tree) (i j : ℕ) (b : List Step) (x : Tree) → raw_at v (a ++ place i ∷ []) ≡ there x → j < i
    → raw_at (plain_remove_tree v (a ++ place i ∷ [])) (a ++ place j ∷ b) ≡ raw_at v (a ++ place j ∷ b)
removed_before_place maps lists [] v i j b x found lower = ap (behind b) (before_place_at maps lists i j v x (last v (place i) x found) lower)
removed_before_place maps lists (c ∷ a) v i j b x found lower =
    let o = opened v c a (place i) [] x found in
    after maps lists v c (a ++ place i ∷ []) x o (a ++ place j ∷ b) ∙ removed_before_place maps lists a o.part i j b x o.found lower ∙ before maps lists v c (a ++ place i ∷ []) x o (a ++ place j ∷ b)

removed_behind_place : (maps : MembersAreMaps) (lists : ItemsAreLists) (a : List Step) (v : Tree) (i j : ℕ) (b : List Step) (x : Tree) → raw_at v (a ++ place i ∷ []) ≡ there x → i ≤ j
    → raw_at (plain_remove_tree v (a ++ place i ∷ [])) (a ++ place j ∷ b) ≡ raw_at v (a ++ place (suc j) ∷ b)
removed_behind_place maps lists [] v i j b x found higher = ap (behind b) (behind_place_at maps lists i j v x (last v (place i) x found) higher)
removed_behind_place maps lists (c ∷ a) v i j b x found higher =
    let o = opened v c a (place i) [] x found in
    after maps lists v c (a ++ place i ∷ []) x o (a ++ place j ∷ b) ∙ removed_behind_place maps lists a o.part i j b x o.found higher ∙ before maps lists v c (a ++ place i ∷ []) x o (a ++ place (suc j) ∷ b)

removed_field_at_place : (maps : MembersAreMaps) (lists : ItemsAreLists) (a : List Step) (v : Tree) (i : ℕ) (l : List ℕ) (b : List Step) (x : Tree) → raw_at v (a ++ place i ∷ []) ≡ there x
    → raw_at (plain_remove_tree v (a ++ place i ∷ [])) (a ++ field l ∷ b) ≡ raw_at v (a ++ field l ∷ b)
removed_field_at_place maps lists [] v i l b x found = ap (behind b) (field_at_place_at i l v x (last v (place i) x found))
removed_field_at_place maps lists (c ∷ a) v i l b x found =
    let o = opened v c a (place i) [] x found in
    after maps lists v c (a ++ place i ∷ []) x o (a ++ field l ∷ b) ∙ removed_field_at_place maps lists a o.part i l b x o.found ∙ before maps lists v c (a ++ place i ∷ []) x o (a ++ field l ∷ b)

-- the walk removes
pub is_removed : (maps : MembersAreMaps) (lists : ItemsAreLists) (v : Tree) (p : List Step) (x : Tree) → raw_at v p ≡ there x → IsPlainRemoval v p (plain_remove_tree v p)
is_removed maps lists v p x found =
    let at_path = λ (q : List Step) (e : p ≡ q). ap (raw_at v) (sym e) ∙ found in
    let moved = λ (q b : List Step) (e : p ≡ q). ap (λ q. raw_at (plain_remove_tree v q) b) e in
    record {
      above = λ a s r e. subst (λ q. Holds s (raw_at (plain_remove_tree v q) a)) (sym e) (removed_above maps lists a v s r x (at_path (a ++ s ∷ r) e));
      beside = λ a s t u r b e other. moved (a ++ s ∷ u ∷ r) (a ++ t ∷ b) e ∙ removed_beside maps lists a v s t u r b x (at_path (a ++ s ∷ u ∷ r) e) other;
      field_gone = λ a k b e. moved (a ++ field k ∷ []) (a ++ field k ∷ b) e ∙ removed_field_gone maps lists a v k b x (at_path (a ++ field k ∷ []) e);
      beside_field = λ a k t b e other. moved (a ++ field k ∷ []) (a ++ t ∷ b) e ∙ removed_beside_field maps lists a v k t b x (at_path (a ++ field k ∷ []) e) other;
      before_place = λ a i j b e lower. moved (a ++ place i ∷ []) (a ++ place j ∷ b) e ∙ removed_before_place maps lists a v i j b x (at_path (a ++ place i ∷ []) e) lower;
      behind_place = λ a i j b e higher. moved (a ++ place i ∷ []) (a ++ place j ∷ b) e ∙ removed_behind_place maps lists a v i j b x (at_path (a ++ place i ∷ []) e) higher;
      field_at_place = λ a i l b e. moved (a ++ place i ∷ []) (a ++ field l ∷ b) e ∙ removed_field_at_place maps lists a v i l b x (at_path (a ++ place i ∷ []) e);
    }

pub replaced_same : (s : Step) (v u : Tree) → part_at v s ≡ there u → replace_part s u v ≡ v
replaced_same (field k) v u is = in_object k u (λ x. replace_part (field k) u x ≡ x) (λ ms found. ap object (same_member k ms u u (sym found) refl)) v is
replaced_same (place i) v u is = in_array i u (λ x. replace_part (place i) u x ≡ x) (λ ts found. ap array (same_item i ts u u (sym found) refl)) v is
