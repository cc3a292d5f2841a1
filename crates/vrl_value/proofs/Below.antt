-- Which regexes stand in a tree where a part is put, replaced or taken out, and that look-up tells them.
use Rattle.std.proofs.Common.{◌≡◌, ◌≢◌, ℕ, zero, suc, ◌<◌, ◌≤◌, List, [], ◌∷◌, Bool, true, false, Option, Some, None, IfSome, IsTrue, Ordering, Less, Equal, Greater, nat_cmp, bytes_eq, refl, sym, ap, ◌∙◌, arith}
use Rattle.std.proofs.lemmas.Bool.{true≢false, and_from, and_parts, lt-ltb, ltb-true}
use Rattle.std.proofs.lemmas.Slice.Eq.{bytes_eq-Decides}
use Rattle.std.specs.Cmp.Lexicographic.{slice_cmp}
use Rattle.std.specs.Ordering.{match_ordering}
use Rattle.vrl_value.specs.Look.{Step, field, place, Found, there, found_if, found_behind, item_at, part_at, raw_at, IfThere}
use Rattle.vrl_value.specs.Parts.{put_item, replace, replace_item, without, without_item}
use Rattle.vrl_value.specs.Regexes.{regexes_below, items_regexes_below, members_regexes_below}
use Rattle.vrl_value.specs.Tree.{Tree, string, integer, boolean, null, timestamp, regex, array, object, Items, no_items, item, Members, no_members, member, find, put, IsBefore, IsOrdered, ItemsAreOrdered, MembersAreOrdered}
use Rattle.vrl_value.proofs.Looks.{if_found, found_keeps}
use Rattle.vrl_value.proofs.Members.{find-member_other}
use Rattle.vrl_value.proofs.OneTree.{find-before, find_first}

mutual
  pub below_more : (m n : ℕ) (t : Tree) → m ≤ n → IsTrue (regexes_below m t) → IsTrue (regexes_below n t)
  below_more m n (string s) more held = refl
  below_more m n (integer i) more held = refl
  below_more m n (boolean b) more held = refl
  below_more m n null more held = refl
  below_more m n (timestamp i) more held = refl
  below_more m n (regex i) more held = let h = ltb-true i m held in lt-ltb i n (omega arith)
  below_more m n (array ts) more held = items_more m n ts more held
  below_more m n (object ms) more held = members_more m n ms more held

  items_more : (m n : ℕ) (ts : Items) → m ≤ n → IsTrue (items_regexes_below m ts) → IsTrue (items_regexes_below n ts)
  items_more m n no_items more held = refl
  items_more m n (item t ts) more held =
      let parts = and_parts (regexes_below m t) (items_regexes_below m ts) held in
      and_from _ _ (below_more m n t more parts.0) (items_more m n ts more parts.1)

  members_more : (m n : ℕ) (ms : Members) → m ≤ n → IsTrue (members_regexes_below m ms) → IsTrue (members_regexes_below n ms)
  members_more m n no_members more held = refl
  members_more m n (member k t ms) more held =
      let parts = and_parts (regexes_below m t) (members_regexes_below m ms) held in
      and_from _ _ (below_more m n t more parts.0) (members_more m n ms more parts.1)

module _ (count : ℕ) where
  abbrev Below : Tree → Type 0
  Below t = IsTrue (regexes_below count t)

  abbrev AreBelow : Members → Type 0
  AreBelow ms = IsTrue (members_regexes_below count ms)

  abbrev ItemsAreBelow : Items → Type 0
  ItemsAreBelow ts = IsTrue (items_regexes_below count ts)

  put_at : (o : Ordering) (k l : List ℕ) (t u : Tree) (ms rest : Members) → Below t → Below u → AreBelow ms → AreBelow rest → AreBelow (match_ordering o (member k t (member l u ms)) (member l t ms) (member l u rest))
  put_at Less k l t u ms rest new first others after = and_from _ _ new (and_from _ _ first others)
  put_at Equal k l t u ms rest new first others after = and_from _ _ new others
  put_at Greater k l t u ms rest new first others after = and_from _ _ first after

  pub below_put : (k : List ℕ) (t : Tree) (ms : Members) → Below t → AreBelow ms → AreBelow (put k t ms)
  below_put k t no_members new old = and_from _ _ new old
  below_put k t (member l u ms) new old =
      let parts = and_parts (regexes_below count u) (members_regexes_below count ms) old in
      put_at (slice_cmp nat_cmp k l) k l t u ms (put k t ms) new parts.0 parts.1 (below_put k t ms new parts.1)

  replace_at : (o : Ordering) (l : List ℕ) (t u : Tree) (ms rest : Members) → Below t → Below u → AreBelow ms → AreBelow rest → AreBelow (match_ordering o (member l u rest) (member l t ms) (member l u rest))
  replace_at Less l t u ms rest new first others after = and_from _ _ first after
  replace_at Equal l t u ms rest new first others after = and_from _ _ new others
  replace_at Greater l t u ms rest new first others after = and_from _ _ first after

  pub below_replace : (k : List ℕ) (t : Tree) (ms : Members) → Below t → AreBelow ms → AreBelow (replace k t ms)
  below_replace k t no_members new old = refl
  below_replace k t (member l u ms) new old =
      let parts = and_parts (regexes_below count u) (members_regexes_below count ms) old in
      replace_at (slice_cmp nat_cmp k l) l t u ms (replace k t ms) new parts.0 parts.1 (below_replace k t ms new parts.1)

  without_at : (o : Ordering) (l : List ℕ) (u : Tree) (rest : Members) → Below u → AreBelow rest → AreBelow (match_ordering o (member l u rest) rest (member l u rest))
  without_at Less l u rest first after = and_from _ _ first after
  without_at Equal l u rest first after = after
  without_at Greater l u rest first after = and_from _ _ first after

  pub below_without : (k : List ℕ) (ms : Members) → AreBelow ms → AreBelow (without k ms)
  below_without k no_members old = refl
  below_without k (member l u ms) old =
      let parts = and_parts (regexes_below count u) (members_regexes_below count ms) old in
      without_at (slice_cmp nat_cmp k l) l u (without k ms) parts.0 (below_without k ms parts.1)

  pub below_put_item : (i : ℕ) (t : Tree) (ts : Items) → Below t → ItemsAreBelow ts → ItemsAreBelow (put_item i t ts)
  below_put_item zero t no_items new old = and_from _ _ new old
  below_put_item zero t (item u ts) new old = and_from _ _ new (and_parts (regexes_below count u) (items_regexes_below count ts) old).1
  below_put_item (suc i) t no_items new old = and_from true _ refl (below_put_item i t no_items new refl)
  below_put_item (suc i) t (item u ts) new old =
      let parts = and_parts (regexes_below count u) (items_regexes_below count ts) old in
      and_from _ _ parts.0 (below_put_item i t ts new parts.1)

  pub below_replace_item : (i : ℕ) (t : Tree) (ts : Items) → Below t → ItemsAreBelow ts → ItemsAreBelow (replace_item i t ts)
  below_replace_item i t no_items new old = refl
  below_replace_item zero t (item u ts) new old = and_from _ _ new (and_parts (regexes_below count u) (items_regexes_below count ts) old).1
  below_replace_item (suc i) t (item u ts) new old =
      let parts = and_parts (regexes_below count u) (items_regexes_below count ts) old in
      and_from _ _ parts.0 (below_replace_item i t ts new parts.1)

  pub below_without_item : (i : ℕ) (ts : Items) → ItemsAreBelow ts → ItemsAreBelow (without_item i ts)
  below_without_item i no_items old = refl
  below_without_item zero (item u ts) old = (and_parts (regexes_below count u) (items_regexes_below count ts) old).1
  below_without_item (suc i) (item u ts) old =
      let parts = and_parts (regexes_below count u) (items_regexes_below count ts) old in
      and_from _ _ parts.0 (below_without_item i ts parts.1)

  find_at : (o : Ordering) (u : Tree) (rest : Option Tree) → Below u → IfSome rest Below → IfSome (match_ordering o rest (Some u) rest) Below
  find_at Less u rest first later = later
  find_at Equal u rest first later = first
  find_at Greater u rest first later = later

  pub below_find : (k : List ℕ) (ms : Members) → AreBelow ms → IfSome (find k ms) Below
  below_find k no_members old = tt
  below_find k (member l u ms) old =
      let parts = and_parts (regexes_below count u) (members_regexes_below count ms) old in
      find_at (slice_cmp nat_cmp k l) u (find k ms) parts.0 (below_find k ms parts.1)

  pub below_item : (i : ℕ) (ts : Items) → ItemsAreBelow ts → IfSome (item_at i ts) Below
  below_item i no_items old = tt
  below_item zero (item u ts) old = (and_parts (regexes_below count u) (items_regexes_below count ts) old).0
  below_item (suc i) (item u ts) old = below_item i ts (and_parts (regexes_below count u) (items_regexes_below count ts) old).1

  below_part : (v : Tree) (s : Step) → Below v → IfThere (part_at v s) Below
  below_part (object ms) (field k) old = if_found Below (find k ms) (below_find k ms old)
  below_part (array ts) (place i) old = if_found Below (item_at i ts) (below_item i ts old)
  below_part v s old = tt

  pub below_found : (v : Tree) (p : List Step) → Below v → IfThere (raw_at v p) Below
  below_found = found_keeps Below below_part

-- what the steps behind find in a part
abbrev look : List Step → Option Tree → Found
look p o = found_behind (found_if o) p (λ u. raw_at u p)

nothing : (p : List Step) (u : Tree) → look p None ≡ there u → ⊥
nothing [] u e = absurd cc
nothing (s ∷ p) u e = absurd cc

-- what is found behind the first member is found among all
later_at : (same : Bool) (q k : List ℕ) (t u : Tree) (ms : Members) (p : List Step) → bytes_eq q k ≡ same → IsBefore k ms → look p (find q ms) ≡ there u → look p (find q (member k t ms)) ≡ there u
later_at true q k t u ms p is before found =
    let none = find-before k ms before in
    absurd (nothing p u (ap (look p) (sym none ∙ ap (λ j. find j ms) (sym ((bytes_eq-Decides q k).0 is))) ∙ found))
later_at false q k t u ms p is before found =
    let other : q ≢ k = λ e. true≢false (sym ((bytes_eq-Decides q k).1 e) ∙ is) in
    ap (look p) (find-member_other q k t ms other) ∙ found

mutual
  pub below_told : (count : ℕ) (t : Tree) → IsOrdered t → ((p : List Step) (n : ℕ) → raw_at t p ≡ there (regex n) → n < count) → IsTrue (regexes_below count t)
  below_told count (string s) old each = refl
  below_told count (integer i) old each = refl
  below_told count (boolean b) old each = refl
  below_told count null old each = refl
  below_told count (timestamp i) old each = refl
  below_told count (regex i) old each = lt-ltb i count (each [] i refl)
  below_told count (array ts) old each = items_told count ts old (λ i p n e. each (place i ∷ p) n e)
  below_told count (object ms) old each = members_told count ms old (λ q p n e. each (field q ∷ p) n e)

  items_told : (count : ℕ) (ts : Items) → ItemsAreOrdered ts → ((i : ℕ) (p : List Step) (n : ℕ) → look p (item_at i ts) ≡ there (regex n) → n < count) → IsTrue (items_regexes_below count ts)
  items_told count no_items old each = refl
  items_told count (item t ts) old each = and_from _ _ (below_told count t old.0 (λ p n e. each 0 p n e)) (items_told count ts old.1 (λ i p n e. each (suc i) p n e))

  members_told : (count : ℕ) (ms : Members) → MembersAreOrdered ms → ((q : List ℕ) (p : List Step) (n : ℕ) → look p (find q ms) ≡ there (regex n) → n < count) → IsTrue (members_regexes_below count ms)
  members_told count no_members old each = refl
  members_told count (member k t ms) old each =
      and_from _ _
      (below_told count t old.1 (λ p n e. each k p n (ap (look p) (find_first k t ms) ∙ e)))
      (members_told count ms old.2 (λ q p n e. each q p n (later_at (bytes_eq q k) q k t (regex n) ms p refl old.0 e)))
