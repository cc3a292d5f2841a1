-- A tree is of a kind where the test by cases on the tree says so.
use Rattle.std.proofs.Common.{◌≡◌, inl, inr, ℕ, zero, suc, Bool, true, false, List, [], ◌∷◌, Option, Some, None, nat_cmp, is_eq, IsTrue, refl, sym, ap, ◌∙◌, subst}
use Rattle.std.proofs.lemmas.Cmp.{nat_list_cmp_total, tied_itself}
use Rattle.std.specs.Cmp.Lexicographic.{slice_cmp}
use Rattle.std.specs.List.{list_all}
use Rattle.vrl_value.specs.Tree.{Tree, string, integer, boolean, null, timestamp, regex, array, object, Items, no_items, item, Members, no_members, member, find}
use Rattle.vrl_kind.specs.KindTree.{KindTree, kind, no_list, list_part, no_object, object_part, RestTree, any_rest, Places, no_places, known_place, KnownFields, no_fields, known_field}
use Rattle.vrl_kind.specs.Canonical.{allows_absent, rest_kind, field_or}
use Rattle.vrl_kind.specs.Kinds.{Inhabits}
use Rattle.vrl_kind.specs.Membership.{PartInhabits, ItemsInhabit, MembersInhabit}
use Rattle.vrl_kind.specs.PartSets.{names_of}
use Rattle.vrl_kind.specs.TreeTest.{may_be_empty, inhabits_tree, items_inhabit, members_inhabit, InhabitsIsComputed}
use Rattle.vrl_kind.proofs.Ahead.{not_here}
use Rattle.vrl_kind.proofs.Gathering.{HasName, known_name, and_from, and_both}
use Rattle.vrl_kind.proofs.Inclusion.{none}
use Rattle.vrl_kind.proofs.Inhabiting.{string_inhabits, integer_inhabits, boolean_inhabits, null_inhabits, timestamp_inhabits, regex_inhabits, any_inhabits, array_inhabits, no_array_inhabits, object_inhabits, no_object_inhabits, rest_absent, part_moved, found_elsewhere, equal_order}
use Rattle.vrl_kind.proofs.Merging.{one_name}
use Rattle.vrl_kind.proofs.OneKind.{field_here}

-- ---- items
empty_to : (ps : Places) (r : RestTree) → IsTrue (may_be_empty ps) → ItemsInhabit no_items ps r
empty_to no_places r is i = rest_absent r
empty_to (known_place k ps) r is zero = (and_from (allows_absent k) (may_be_empty ps) is).0
empty_to (known_place k ps) r is (suc i) = empty_to ps r (and_from (allows_absent k) (may_be_empty ps) is).1 i

empty_from : (ps : Places) (r : RestTree) → ItemsInhabit no_items ps r → IsTrue (may_be_empty ps)
empty_from no_places r all = refl
empty_from (known_place k ps) r all = and_both (allows_absent k) (may_be_empty ps) (all 0) (empty_from ps r (λ i. all (suc i)))

known_item : (t : Tree) (ts : Items) (k : KindTree) (ps : Places) (r : RestTree) → Inhabits t k → ItemsInhabit ts ps r → ItemsInhabit (item t ts) (known_place k ps) r
known_item t ts k ps r first others zero = first
known_item t ts k ps r first others (suc i) = others i

other_item : (t : Tree) (ts : Items) (r : RestTree) → Inhabits t (rest_kind r) → ItemsInhabit ts no_places r → ItemsInhabit (item t ts) no_places r
other_item t ts r first others zero = first
other_item t ts r first others (suc i) = others i

-- ---- members
all_names : (test : List ℕ → Bool) (fs : KnownFields) (n : List ℕ) → IsTrue (list_all test (names_of fs)) → HasName fs n → IsTrue (test n)
all_names test no_fields n is has = absurd has
all_names test (known_field m k fs) n is (inl same) = sym (ap test same) ∙ (and_from (test m) (list_all test (names_of fs)) is).0
all_names test (known_field m k fs) n is (inr has) = all_names test fs n (and_from (test m) (list_all test (names_of fs)) is).1 has

each_name : (test : List ℕ → Bool) (ns : List (List ℕ)) → ((n : List ℕ) → IsTrue (test n)) → IsTrue (list_all test ns)
each_name test [] all = refl
each_name test (n ∷ ns) all = and_both (test n) (list_all test ns) (all n) (each_name test ns all)

no_member_to : (fs : KnownFields) (r : RestTree) → IsTrue (list_all (λ n. allows_absent (field_or fs (rest_kind r) n)) (names_of fs)) → MembersInhabit no_members fs r
no_member_to fs r is n =
    elim (known_name fs (rest_kind r) n) [
      | inl has ↦ all_names (λ m. allows_absent (field_or fs (rest_kind r) m)) fs n is has
      | inr other ↦ ap allows_absent other ∙ rest_absent r
    ]

found_first : (n : List ℕ) (t : Tree) (ms : Members) → find n (member n t ms) ≡ Some t
found_first n t ms = rw (tied_itself nat_list_cmp_total n) refl

-- a part of any kind, or none
anything : (o : Option Tree) → PartInhabits o (rest_kind any_rest)
anything None = rest_absent any_rest
anything (Some t) = any_inhabits true t

member_at : (n m : List ℕ) (t : Tree) (ms : Members) (fs : KnownFields) (r : RestTree) (b : Bool) → is_eq (slice_cmp nat_cmp m n) ≡ b
    → Inhabits t (field_or fs (rest_kind r) n) → MembersInhabit ms (known_field n (rest_kind any_rest) fs) r → PartInhabits (find m (member n t ms)) (field_or fs (rest_kind r) m)
member_at n m t ms fs r true e first others =
    subst (λ l. PartInhabits (find l (member n t ms)) (field_or fs (rest_kind r) l)) (sym (one_name m n (equal_order _ e)))
    (part_moved _ _ _ _ (sym (found_first n t ms)) refl first)
member_at n m t ms fs r false e first others = part_moved _ _ _ _ (sym (found_elsewhere n m (Some t) ms e)) (not_here (rest_kind r) n m (Some (rest_kind any_rest)) fs e) (others m)

behind_at : (n m : List ℕ) (t : Tree) (ms : Members) (fs : KnownFields) (r : RestTree) (b : Bool) → is_eq (slice_cmp nat_cmp m n) ≡ b
    → MembersInhabit (member n t ms) fs r → PartInhabits (find m ms) (field_or (known_field n (rest_kind any_rest) fs) (rest_kind r) m)
behind_at n m t ms fs r true e all =
    subst (λ l. PartInhabits (find l ms) (field_or (known_field n (rest_kind any_rest) fs) (rest_kind r) l)) (sym (one_name m n (equal_order _ e)))
    (part_moved _ _ _ _ refl (sym (field_here n (rest_kind any_rest) fs (rest_kind r))) (anything (find n ms)))
behind_at n m t ms fs r false e all = part_moved _ _ _ _ (found_elsewhere n m (Some t) ms e) (sym (not_here (rest_kind r) n m (Some (rest_kind any_rest)) fs e)) (all m)

-- ---- all
mutual
  pub inhabits_is_computed : InhabitsIsComputed
  inhabits_is_computed (string x) (kind s l o) = string_inhabits x (kind s l o) s refl
  inhabits_is_computed (integer x) (kind s l o) = integer_inhabits x (kind s l o) s refl
  inhabits_is_computed (boolean x) (kind s l o) = boolean_inhabits x (kind s l o) s refl
  inhabits_is_computed null (kind s l o) = null_inhabits (kind s l o) s refl
  inhabits_is_computed (timestamp x) (kind s l o) = timestamp_inhabits x (kind s l o) s refl
  inhabits_is_computed (regex x) (kind s l o) = regex_inhabits x (kind s l o) s refl
  inhabits_is_computed (array ts) (kind s no_list o) = (λ is. none _ is, λ all. absurd (no_array_inhabits ts (kind s no_list o) refl all))
  inhabits_is_computed (array ts) (kind s (list_part ps r) o) =
      let whole = array_inhabits ts (kind s (list_part ps r) o) ps r refl in
      let items = items_are_computed ts ps r in
      (λ is. whole.0 (items.0 is), λ all. items.1 (whole.1 all))
  inhabits_is_computed (object ms) (kind s l no_object) = (λ is. none _ is, λ all. absurd (no_object_inhabits ms (kind s l no_object) refl all))
  inhabits_is_computed (object ms) (kind s l (object_part fs r)) =
      let whole = object_inhabits ms (kind s l (object_part fs r)) fs r refl in
      let members = members_are_computed ms fs r in
      (λ is. whole.0 (members.0 is), λ all. members.1 (whole.1 all))

  items_are_computed : (ts : Items) (ps : Places) (r : RestTree) → (IsTrue (items_inhabit ts (list_part ps r)) → ItemsInhabit ts ps r) × (ItemsInhabit ts ps r → IsTrue (items_inhabit ts (list_part ps r)))
  items_are_computed no_items ps r = (empty_to ps r, empty_from ps r)
  items_are_computed (item t ts) no_places r =
      let first = inhabits_is_computed t (rest_kind r) in
      let others = items_are_computed ts no_places r in (
        λ is. let both = and_from (inhabits_tree t (rest_kind r)) (items_inhabit ts (list_part no_places r)) is in other_item t ts r (first.0 both.0) (others.0 both.1),
        λ all. and_both (inhabits_tree t (rest_kind r)) (items_inhabit ts (list_part no_places r)) (first.1 (all 0)) (others.1 (λ i. all (suc i))),
      )
  items_are_computed (item t ts) (known_place k ps) r =
      let first = inhabits_is_computed t k in
      let others = items_are_computed ts ps r in (
        λ is. let both = and_from (inhabits_tree t k) (items_inhabit ts (list_part ps r)) is in known_item t ts k ps r (first.0 both.0) (others.0 both.1),
        λ all. and_both (inhabits_tree t k) (items_inhabit ts (list_part ps r)) (first.1 (all 0)) (others.1 (λ i. all (suc i))),
      )

  members_are_computed : (ms : Members) (fs : KnownFields) (r : RestTree) → (IsTrue (members_inhabit ms (object_part fs r)) → MembersInhabit ms fs r) × (MembersInhabit ms fs r → IsTrue (members_inhabit ms (object_part fs r)))
  members_are_computed no_members fs r = (no_member_to fs r, λ all. each_name (λ n. allows_absent (field_or fs (rest_kind r) n)) (names_of fs) all)
  members_are_computed (member n t ms) fs r =
      let first = inhabits_is_computed t (field_or fs (rest_kind r) n) in
      let others = members_are_computed ms (known_field n (rest_kind any_rest) fs) r in
      let here = inhabits_tree t (field_or fs (rest_kind r) n) in
      let behind = members_inhabit ms (object_part (known_field n (rest_kind any_rest) fs) r) in (
        λ is. let both = and_from here behind is in λ m. member_at n m t ms fs r _ refl (first.0 both.0) (others.0 both.1),
        λ all. and_both here behind (first.1 (part_moved _ _ _ _ (found_first n t ms) refl (all n))) (others.1 (λ m. behind_at n m t ms fs r _ refl all)),
      )
