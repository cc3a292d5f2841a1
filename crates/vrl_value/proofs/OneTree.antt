-- Two trees in order of which look-up tells the same at every path are the same.
use Rattle.std.proofs.Common.{◌≡◌, ◌≢◌, ℕ, suc, List, [], ◌∷◌, Bool, true, false, Option, Some, None, Ordering, Less, Equal, Greater, nat_cmp, bytes_eq, refl, sym, ap, ◌∙◌, subst}
use Rattle.std.proofs.lemmas.Bool.{true≢false}
use Rattle.std.proofs.lemmas.Cmp.{nat_list_cmp_total, tied_itself}
use Rattle.std.proofs.lemmas.Slice.Eq.{bytes_eq-Decides}
use Rattle.std.specs.Cmp.Lexicographic.{slice_cmp}
use Rattle.std.specs.Ordering.{ordering_reverse}
use Rattle.vrl_value.specs.Look.{Step, field, place, Found, there, missing, no_place, found_if, found_behind, item_at, raw_at, bare, outline}
use Rattle.vrl_value.specs.Tree.{Tree, string, integer, boolean, null, timestamp, regex, array, object, Items, no_items, item, Members, no_members, member, find, IsBefore, IsOrdered, ItemsAreOrdered, MembersAreOrdered}
use Rattle.vrl_value.proofs.Members.{same_keys, find-member_other}
use Rattle.vrl_value.proofs.Order.{before_all}

-- a key before all of the members is not found among them
pub find-before : (k : List ℕ) (ms : Members) → IsBefore k ms → find k ms ≡ None
find-before k no_members before = refl
find-before k (member l u ms) before = rw before.0 (find-before k ms before.1)

pub find_first : (k : List ℕ) (t : Tree) (ms : Members) → find k (member k t ms) ≡ Some t
find_first k t ms = rw (tied_itself nat_list_cmp_total k)

-- what look-up tells behind a part
abbrev told : Option Tree → List Step → Found
told o p = outline (found_behind (found_if o) p (λ u. raw_at u p))

-- something tells otherwise than nothing
some_or_none : (t : Tree) (o q : Option Tree) → o ≡ Some t → q ≡ None → told o [] ≡ told q [] → ⊥
some_or_none t o q some none same = let e : there (bare t) ≡ missing = sym (ap (λ x. told x []) some) ∙ same ∙ ap (λ x. told x []) none in cc

first_keys : (o : Ordering) (k l : List ℕ) (t u : Tree) (a b : Members) → slice_cmp nat_cmp k l ≡ o → MembersAreOrdered (member k t a) → MembersAreOrdered (member l u b)
    → ((q : List ℕ) → told (find q (member k t a)) [] ≡ told (find q (member l u b)) []) → k ≡ l
first_keys Less k l t u a b is first second same =
    absurd (some_or_none t (find k (member k t a)) (find k (member l u b)) (find_first k t a) (find-before k (member l u b) (is, before_all k l b is second.0)) (same k))
first_keys Equal k l t u a b is first second same = same_keys k l is
first_keys Greater k l t u a b is first second same =
    let less : slice_cmp nat_cmp l k ≡ Less = nat_list_cmp_total.antisymm l k ∙ ap ordering_reverse is in
    absurd (some_or_none u (find l (member l u b)) (find l (member k t a)) (find_first l u b) (find-before l (member k t a) (less, before_all l k a less first.0)) (sym (same l)))

rest_told : (same : Bool) (q k : List ℕ) (t u : Tree) (a b : Members) (p : List Step) → bytes_eq q k ≡ same → IsBefore k a → IsBefore k b
    → told (find q (member k t a)) p ≡ told (find q (member k u b)) p → told (find q a) p ≡ told (find q b) p
rest_told true q k t u a b p is first second found =
    let e : q ≡ k = (bytes_eq-Decides q k).0 is in
    subst (λ j. told (find j a) p ≡ told (find j b) p) (sym e) (ap (λ o. told o p) (find-before k a first ∙ sym (find-before k b second)))
rest_told false q k t u a b p is first second found =
    let other : q ≢ k = λ e. true≢false (sym ((bytes_eq-Decides q k).1 e) ∙ is) in
    ap (λ o. told o p) (sym (find-member_other q k t a other)) ∙ found ∙ ap (λ o. told o p) (find-member_other q k u b other)

abbrev tree_in : Found → Tree
tree_in (there t) = t
tree_in missing = null
tree_in no_place = null

inner : (a b : Tree) → there a ≡ there b → a ≡ b
inner a b e = ap tree_in e

-- what is bare is no array and no object with parts
no_parts : (a b : Tree) → a ≡ bare b → a ≢ array no_items → a ≢ object no_members → a ≡ b
no_parts a (array us) e list map = absurd (list e)
no_parts a (object ns) e list map = absurd (map e)
no_parts a b e list map = e

mutual
  pub one_tree : (a b : Tree) → IsOrdered a → IsOrdered b → ((p : List Step) → outline (raw_at a p) ≡ outline (raw_at b p)) → a ≡ b
  one_tree (array ts) (array us) old new same = ap array (one_items ts us old new (λ i p. same (place i ∷ p)))
  one_tree (array ts) b old new same = let e : there (array no_items) ≡ there (bare b) = same [] in absurd cc
  one_tree (object ms) (object ns) old new same = ap object (one_members ms ns old new (λ q p. same (field q ∷ p)))
  one_tree (object ms) b old new same = let e : there (object no_members) ≡ there (bare b) = same [] in absurd cc
  one_tree (string s) b old new same = no_parts (string s) b (inner (string s) (bare b) (same [])) (λ e. cc) (λ e. cc)
  one_tree (integer n) b old new same = no_parts (integer n) b (inner (integer n) (bare b) (same [])) (λ e. cc) (λ e. cc)
  one_tree (boolean x) b old new same = no_parts (boolean x) b (inner (boolean x) (bare b) (same [])) (λ e. cc) (λ e. cc)
  one_tree null b old new same = no_parts null b (inner null (bare b) (same [])) (λ e. cc) (λ e. cc)
  one_tree (timestamp n) b old new same = no_parts (timestamp n) b (inner (timestamp n) (bare b) (same [])) (λ e. cc) (λ e. cc)
  one_tree (regex n) b old new same = no_parts (regex n) b (inner (regex n) (bare b) (same [])) (λ e. cc) (λ e. cc)

  one_items : (ts us : Items) → ItemsAreOrdered ts → ItemsAreOrdered us → ((i : ℕ) (p : List Step) → told (item_at i ts) p ≡ told (item_at i us) p) → ts ≡ us
  one_items no_items no_items old new same = refl
  one_items no_items (item u us) old new same = absurd (some_or_none u (Some u) None refl refl (sym (same 0 [])))
  one_items (item t ts) no_items old new same = absurd (some_or_none t (Some t) None refl refl (same 0 []))
  one_items (item t ts) (item u us) old new same =
      ap (λ x. item x ts) (one_tree t u old.0 new.0 (λ p. same 0 p)) ∙ ap (item u) (one_items ts us old.1 new.1 (λ i p. same (suc i) p))

  pub one_members : (a b : Members) → MembersAreOrdered a → MembersAreOrdered b → ((q : List ℕ) (p : List Step) → told (find q a) p ≡ told (find q b) p) → a ≡ b
  one_members no_members no_members old new same = refl
  one_members no_members (member l u b) old new same = absurd (some_or_none u (find l (member l u b)) None (find_first l u b) refl (sym (same l [])))
  one_members (member k t a) no_members old new same = absurd (some_or_none t (find k (member k t a)) None (find_first k t a) refl (same k []))
  one_members (member k t a) (member l u b) old new same =
      let e = first_keys (slice_cmp nat_cmp k l) k l t u a b refl old new (λ q. same q []) in
      let here : MembersAreOrdered (member k u b) = subst (λ j. MembersAreOrdered (member j u b)) (sym e) new in
      let found = λ (q : List ℕ) (p : List Step). same q p ∙ ap (λ j. told (find q (member j u b)) p) (sym e) in
      let first = one_tree t u old.1 new.1 (λ p. ap (λ o. told o p) (sym (find_first k t a)) ∙ found k p ∙ ap (λ o. told o p) (find_first k u b)) in
      let rest = one_members a b old.2 new.2 (λ q p. rest_told (bytes_eq q k) q k t u a b p refl old.0 here.0 (found q p)) in
      ap (λ j. member j t a) e ∙ ap (λ x. member l x a) first ∙ ap (member l u) rest

-- members in order among which the same is found at each key are the same
pub same_members : (a b : Members) → MembersAreOrdered a → MembersAreOrdered b → ((q : List ℕ) → find q a ≡ find q b) → a ≡ b
same_members a b old new same = one_members a b old new (λ q p. ap (λ o. told o p) (same q))
