-- A merge of two objects is of the kind that is made of theirs, field by field.
use Rattle.std.proofs.Common.{◌≡◌, ◌≢◌, ℕ, true, not, List, [], ◌∷◌, Option, Some, None, Ordering, Less, Equal, Greater, IfSome, IsTrue, refl, sym, ap, ◌∙◌, subst}
use Rattle.std.proofs.lemmas.Bool.{and_from, or_left, or_right}
use Rattle.std.proofs.lemmas.Cmp.{nat_list_cmp_total, tied_itself}
use Rattle.std.proofs.lemmas.Option.{IfSome_then}
use Rattle.std.specs.Cmp.Lexicographic.{slice_cmp}
use Rattle.std.specs.FinMap.{nat_cmp-IsAntisymmetric, slice_cmp-IsAntisymmetric}
use Rattle.std.specs.Ordering.{match_ordering, nat_cmp}
use Rattle.vrl_value.specs.Laws.{MembersAreMaps}
use Rattle.vrl_value.specs.Look.{Step, field, place, found_behind, found_if, raw_at, tag_found}
use Rattle.vrl_value.specs.Tag.{tag_of}
use Rattle.vrl_value.specs.Tree.{Tree, string, object, Members, no_members, member, find, put, put_all, IsBefore, MembersAreOrdered}
use Rattle.vrl_value.specs.declared.value.Tag.{Tag}
use Rattle.vrl_value.specs.declared.value.Tag.TheVariants as tag
use Rattle.vrl_kind.specs.KindTree.{KindTree}
use Rattle.vrl_kind.specs.Kinds.{tags_at, Inhabits}
use Rattle.vrl_kind.specs.Overlay.{over_at, overlaid_at}
use Rattle.vrl_kind.specs.Sets.{Sets, IsAllowed}
use Rattle.vrl_kind.specs.Tags.{same_tag}
use Rattle.vrl_state.specs.Laws.{CutsHoldTheAllowed}
use Rattle.vrl_state.specs.States.{IsCutOf}
use Rattle.vrl_judge.specs.Rules.{last_or}

-- ---- what is found among members that were put among others

-- a name that stands before members is not among them
none_behind : (name : List ℕ) (ms : Members) → IsBefore name ms → find name ms ≡ None
none_behind name no_members before = refl
none_behind name (member k t ms) before = rw before.0 (none_behind name ms before.1)

-- two names with another order than that of one name differ
apart : (a b : List ℕ) → (slice_cmp nat_cmp a b ≡ Equal → ⊥) → a ≢ b
apart a b other same = other (subst (λ c. slice_cmp nat_cmp a c ≡ Equal) same (tied_itself nat_list_cmp_total a))

-- one member is put first, and then those behind it
module _ (maps : MembersAreMaps) (k : List ℕ) (t : Tree) (ns ms : Members) (before : IsBefore k ns) (n : List ℕ) where
  one_put : (o : Ordering) → slice_cmp nat_cmp n k ≡ o → last_or (find n ns) (find n (put k t ms)) ≡ last_or (match_ordering o (find n ns) (Some t) (find n ns)) (find n ms)
  one_put Less is = ap (last_or (find n ns)) (maps.find_put_other n k t ms (apart n k (λ same. let wrong : Less ≡ Equal = sym is ∙ same in cc)))
  one_put Greater is = ap (last_or (find n ns)) (maps.find_put_other n k t ms (apart n k (λ same. let wrong : Greater ≡ Equal = sym is ∙ same in cc)))
  one_put Equal is = subst (λ m. last_or (find m ns) (find m (put k t ms)) ≡ Some t) (sym (slice_cmp-IsAntisymmetric nat_cmp-IsAntisymmetric n k is)) (rw (none_behind k ns before, maps.find_put k t ms) refl)

-- of a name that both have, those that were put win
find_put_all : MembersAreMaps → (ns ms : Members) → MembersAreOrdered ns → (n : List ℕ) → find n (put_all ns ms) ≡ last_or (find n ns) (find n ms)
find_put_all maps no_members ms ordered n = refl
find_put_all maps (member k t ns) ms ordered n = find_put_all maps ns (put k t ms) ordered.2 n ∙ one_put maps k t ns ms ordered.0 n (slice_cmp nat_cmp n k) refl

-- ---- what the kind allows

-- the tag at a path behind a field with this value
abbrev tag_behind : Option Tree → List Step → Option Tag
tag_behind found p = tag_found (found_behind (found_if found) p (λ u. raw_at u p))

never_absent : (v : Tree) → not (same_tag (tag_of v) tag.Absent) ≡ true
never_absent (string s) = refl
never_absent v = refl

module _ (A B : Sets) where
  upper_stays : (u : Tree) (p : List Step) → IfSome (tag_found (raw_at u p)) (λ t. IsTrue (B p t)) → IfSome (tag_found (raw_at u p)) (λ t. IsTrue (over_at A B p t))
  upper_stays u [] allowed = or_left _ _ (and_from _ _ allowed (never_absent u))
  upper_stays u (s ∷ p) allowed = IfSome_then (tag_found (raw_at u (s ∷ p))) allowed (λ t within. or_left _ _ (and_from _ _ within refl))

  lower_shows : (p : List Step) (found : Option Tag) → IsTrue (B [] tag.Absent) → IfSome found (λ t. IsTrue (A p t)) → IfSome found (λ t. IsTrue (over_at A B p t))
  lower_shows p found absent allowed = IfSome_then found allowed (λ t within. or_right _ _ (and_from _ _ absent within))

  -- the upper field where it is there, else the lower one
  either_field : (upper lower : Option Tree) (p : List Step) → IfSome (tag_behind lower p) (λ t. IsTrue (A p t)) → IfSome (tag_behind upper p) (λ t. IsTrue (B p t)) → IfSome (tag_behind upper []) (λ t. IsTrue (B [] t))
      → IfSome (tag_behind (last_or upper lower) p) (λ t. IsTrue (over_at A B p t))
  either_field (Some u) lower p in_lower in_upper at_field = upper_stays u p in_upper
  either_field None (Some u) p in_lower in_upper absent = lower_shows p (tag_found (raw_at u p)) absent in_lower
  either_field None None [] in_lower in_upper absent = lower_shows [] (Some tag.Absent) absent in_lower
  either_field None None (s ∷ p) in_lower in_upper absent = tt

overlaid_is_allowed : MembersAreMaps → (ms ns : Members) (K L : KindTree) → MembersAreOrdered ns → Inhabits (object ms) K → Inhabits (object ns) L → IsAllowed (object (put_all ns ms)) (overlaid_at K L)
overlaid_is_allowed maps ms ns K L ordered of_lower of_upper [] = refl
overlaid_is_allowed maps ms ns K L ordered of_lower of_upper (place i ∷ p) = tt
overlaid_is_allowed maps ms ns K L ordered of_lower of_upper (field n ∷ p) =
    let A : Sets = λ q. tags_at K (field n ∷ q) in
    let B : Sets = λ q. tags_at L (field n ∷ q) in
    subst (λ found. IfSome (tag_behind found p) (λ t. IsTrue (over_at A B p t))) (sym (find_put_all maps ns ms ordered n))
    (either_field A B (find n ns) (find n ms) p (of_lower (field n ∷ p)) (of_upper (field n ∷ p)) (of_upper (field n ∷ [])))

-- the merge of two objects is of the kind that is made of theirs
pub merge_inhabits : MembersAreMaps → CutsHoldTheAllowed → (ms ns : Members) (K L M : KindTree) → MembersAreOrdered ns → IsCutOf (overlaid_at K L) M → Inhabits (object ms) K → Inhabits (object ns) L → Inhabits (object (put_all ns ms)) M
merge_inhabits maps cuts ms ns K L M ordered cut of_lower of_upper = cuts (object (put_all ns ms)) (overlaid_at K L) M cut (overlaid_is_allowed maps ms ns K L ordered of_lower of_upper)
