-- That two values are the same is that their trees are equal.
use Rattle.std.proofs.Common.{◌≡◌, Bool, true, false, ◌↔◌, IsTrue, refl, sym, ap, ◌∙◌}
use Rattle.std.proofs.lemmas.Slice.Eq.{bytes_eq-Decides}
use Rattle.std.proofs.lemmas.Bool.{and_from, and_parts}
use Rattle.std.specs.Cmp.{signed_Decides, unsigned_Decides}
use Rattle.vrl_value.specs.Tree.{Tree, string, integer, boolean, null, timestamp, regex, array, object, Items, no_items, item, Members, no_members, member}
use Rattle.fn_list.specs.Same.{same, same_items, same_members}

-- what is the same is equal
mutual
  equal : (v w : Tree) → same v w ≡ true → v ≡ w
  equal (string s) (string t) is = ap string ((bytes_eq-Decides s t).0 is)
  equal (integer m) (integer n) is = ap integer ((signed_Decides m n).0 is)
  equal (boolean true) (boolean true) is = refl
  equal (boolean true) (boolean false) is = cc
  equal (boolean false) (boolean true) is = cc
  equal (boolean false) (boolean false) is = refl
  equal null null is = refl
  equal (timestamp m) (timestamp n) is = ap timestamp ((signed_Decides m n).0 is)
  equal (regex m) (regex n) is = ap regex ((unsigned_Decides m n).0 is)
  equal (array ts) (array us) is = ap array (equal_items ts us is)
  equal (object ms) (object ns) is = ap object (equal_members ms ns is)
  equal v w is = cc

  equal_items : (ts us : Items) → same_items ts us ≡ true → ts ≡ us
  equal_items no_items no_items is = refl
  equal_items (item t ts) (item u us) is =
      let one : t ≡ u = equal t u (and_parts (same t u) _ is).0 in
      let others : ts ≡ us = equal_items ts us (and_parts (same t u) _ is).1 in
      λ i. item (one i) (others i)
  equal_items ts us is = cc

  equal_members : (ms ns : Members) → same_members ms ns ≡ true → ms ≡ ns
  equal_members no_members no_members is = refl
  equal_members (member k t ms) (member l u ns) is =
      let behind = (and_parts _ _ is).1 in
      let name : k ≡ l = (bytes_eq-Decides k l).0 (and_parts _ _ is).0 in
      let one : t ≡ u = equal t u (and_parts (same t u) _ behind).0 in
      let others : ms ≡ ns = equal_members ms ns (and_parts (same t u) _ behind).1 in
      λ i. member (name i) (one i) (others i)
  equal_members ms ns is = cc

-- each value is the same as itself
mutual
  itself : (v : Tree) → same v v ≡ true
  itself (string s) = (bytes_eq-Decides s s).1 refl
  itself (integer n) = (signed_Decides n n).1 refl
  itself (boolean true) = refl
  itself (boolean false) = refl
  itself null = refl
  itself (timestamp n) = (signed_Decides n n).1 refl
  itself (regex n) = (unsigned_Decides n n).1 refl
  itself (array ts) = itself_items ts
  itself (object ms) = itself_members ms

  itself_items : (ts : Items) → same_items ts ts ≡ true
  itself_items no_items = refl
  itself_items (item t ts) = and_from _ _ (itself t) (itself_items ts)

  itself_members : (ms : Members) → same_members ms ms ≡ true
  itself_members no_members = refl
  itself_members (member k t ms) = and_from _ _ ((bytes_eq-Decides k k).1 refl) (and_from _ _ (itself t) (itself_members ms))

pub equality_is_told : (v w : Tree) → same v w ≡ true ↔ (v ≡ w)
equality_is_told v w = (equal v w, λ one. ap (λ u. same v u) (sym one) ∙ itself v)

decided : (b c : Bool) → (b ≡ true → c ≡ true) → (c ≡ true → b ≡ true) → b ≡ c
decided true c to from = sym (to refl)
decided false true to from = from refl
decided false false to from = refl

-- what the code finds, by the same word
pub found_same : (v w : Tree) (b : Bool) → IsTrue b ↔ (v ≡ w) → b ≡ same v w
found_same v w b is = decided b (same v w) (λ yes. (equality_is_told v w).1 (is.0 yes)) (λ yes. is.1 ((equality_is_told v w).0 yes))
