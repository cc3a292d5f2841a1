-- `merge` keeps the law.
use Rattle.std.specs.Prelude.{◌≡◌, ℕ, Bool, true, false, ◌&&◌, not, List, [], ◌∷◌, Option, Some, None, IsTrue, IfSome, refl, bytes_eq}
use Rattle.std.proofs.Common.{sym, ap, ◌∙◌, subst}
use Rattle.std.proofs.lemmas.Slice.Eq.{bytes_eq-Decides}
use Rattle.std.proofs.lemmas.Bool.{and_from, or_left, or_right}
use Rattle.vrl_value.specs.Look.{Step, field, place, found_behind, found_if, raw_at, tag_found}
use Rattle.vrl_value.specs.Tag.{tag_of}
use Rattle.vrl_value.specs.Tree.{Tree, string, integer, boolean, null, timestamp, regex, array, object, Members, no_members, member, find, put, put_all, IsBefore, IsOrdered, MembersAreOrdered}
use Rattle.vrl_value.specs.declared.value.Tag.{Tag}
use Rattle.vrl_value.specs.declared.value.Tag.TheVariants as tag
use Rattle.vrl_value.proofs.Members.{find-member_other, find-put, find-put_other}
use Rattle.vrl_value.proofs.Order.{put_ordered, replace_ordered}
use Rattle.vrl_kind.specs.KindTree.{KindTree}
use Rattle.vrl_kind.specs.Kinds.{is_absence, tags_at, Inhabits}
use Rattle.vrl_kind.specs.Overlay.{over_at}
use Rattle.vrl_kind.specs.Sets.{Sets, IsAllowed}
use Rattle.vrl_builtin.specs.Law.{KeepsLaw, IsLawful, IsOfGiven}
use Rattle.vrl_builtin.specs.Rows.{value, argument_at, boolean_or, kind_at, literal_at, value_or}
use Rattle.vrl_builtin.specs.TagSets.{objects}
use Rattle.vrl_builtin.proofs.Containers.{each_found, each_put, found_first, later_keys, EachMember}
use Rattle.vrl_builtin.proofs.GivenTags.{no, objects_only}
use Rattle.vrl_builtin.specs.AnyParts.{any_of}
use Rattle.fn_object.specs.Merge.{changed, is_shallow, laid_over, lay_all, merge_kind, merge_row, merged, overlaid_kind}
use Rattle.vrl_builtin.proofs.AnswerParts.{answered, member_parts, given_part, object_part, AreParts, IsPart}
use Rattle.fn_object.specs.EachChanged.{each_replaced}
use Rattle.vrl_builtin.proofs.AnyParts.{loosely_allowed}

-- ---- what is found among members that were put over others

abbrev either : Option Tree → Option Tree → Option Tree
either None b = b
either (Some v) b = Some v

at_same : (k : List ℕ) (t : Tree) (ns ms : Members) → IsBefore k ns
    → either (find k ns) (find k (put k t ms)) ≡ either (find k (member k t ns)) (find k ms)
at_same k t ns ms before =
    ap (λ o. either o (find k (put k t ms))) (later_keys k ns before) ∙ find-put k t ms
    ∙ sym (ap (λ o. either o (find k ms)) (found_first k t ns))

at_other : (n k : List ℕ) (t : Tree) (ns ms : Members) → ¬ (n ≡ k)
    → either (find n ns) (find n (put k t ms)) ≡ either (find n (member k t ns)) (find n ms)
at_other n k t ns ms other =
    ap (λ o. either o (find n (put k t ms))) (sym (find-member_other n k t ns other))
    ∙ ap (either (find n (member k t ns))) (find-put_other n k t ms other)

at_either : (n k : List ℕ) (same : Bool) (t : Tree) (ns ms : Members) → bytes_eq n k ≡ same → IsBefore k ns
    → either (find n ns) (find n (put k t ms)) ≡ either (find n (member k t ns)) (find n ms)
at_either n k true t ns ms is before = subst
    (λ (m : List ℕ). either (find m ns) (find m (put k t ms)) ≡ either (find m (member k t ns)) (find m ms))
    (sym ((bytes_eq-Decides n k).0 is)) (at_same k t ns ms before)
at_either n k false t ns ms is before = at_other n k t ns ms (λ one. no (sym is ∙ (bytes_eq-Decides n k).1 one))

pub put_all_found : (n : List ℕ) (ns ms : Members) → MembersAreOrdered ns
    → find n (put_all ns ms) ≡ either (find n ns) (find n ms)
put_all_found n no_members ms ordered = refl
put_all_found n (member k t ns) ms ordered =
    put_all_found n ns (put k t ms) ordered.2 ∙ at_either n k (bytes_eq n k) t ns ms refl ordered.0

put_all_parts : (arguments : List (Option Tree)) (ns ms : Members) → EachMember (IsPart arguments) ns
    → AreParts arguments ms → AreParts arguments (put_all ns ms)
put_all_parts arguments no_members ms each are = are
put_all_parts arguments (member k t ns) ms each are =
    put_all_parts arguments ns (put k t ms) each.1
    (record {
      each = each_put
          (IsPart arguments) k t ms each.0 are.each;
      ordered = put_ordered k t ms each.0.ordered are.ordered;
    })

-- ---- field by field

is_there : (v : Tree) → not (is_absence [] (tag_of v)) ≡ true
is_there (string s) = refl
is_there (integer n) = refl
is_there (boolean b) = refl
is_there null = refl
is_there (timestamp n) = refl
is_there (regex n) = refl
is_there (array ts) = refl
is_there (object ms) = refl

abbrev at_field : Option Tree → List Step → Option Tag
at_field o p = tag_found (found_behind (found_if o) p (λ u. raw_at u p))

if_some : (o : Option Tag) (P Q : Tag → Type 0) → ((t : Tag) → P t → Q t) → IfSome o P → IfSome o Q
if_some None P Q so is = tt
if_some (Some t) P Q so is = so t is

over_field : (A B : Sets) (b a : Option Tree) (p : List Step)
    → ((q : List Step) → IfSome (at_field b q) (λ t. IsTrue (B q t))) → IfSome (at_field a p) (λ t. IsTrue (A p t)) →
    IfSome (at_field (either b a) p) (λ t. IsTrue (over_at A B p t))
over_field A B (Some v) a [] upper lower =
    or_left _ (B [] tag.Absent && A [] (tag_of v)) (and_from (B [] (tag_of v)) _ (upper []) (is_there v))
over_field A B (Some v) a (s ∷ p) upper lower =
    if_some (tag_found (raw_at v (s ∷ p))) (λ t. IsTrue (B (s ∷ p) t)) (λ t. IsTrue (over_at A B (s ∷ p) t))
    (λ t is. or_left _ (B [] tag.Absent && A (s ∷ p) t) (and_from (B (s ∷ p) t) true is refl)) (upper (s ∷ p))
over_field A B None a p upper lower =
    if_some (at_field a p) (λ t. IsTrue (A p t)) (λ t. IsTrue (over_at A B p t))
    (λ t is. or_right (B p t && not (is_absence p t)) _ (and_from (B [] tag.Absent) (A p t) (upper []) is)) lower

shallow_allowed : (ms ns : Members) (K L : KindTree) → Inhabits (object ms) K → Inhabits (object ns) L
    → MembersAreOrdered ns → IsAllowed (object (put_all ns ms)) (overlaid_kind (Some K) (Some L))
shallow_allowed ms ns K L first second ordered [] =
    and_from (tags_at K [] tag.Object) _ (first []) (and_from (tags_at L [] tag.Object) _ (second []) refl)
shallow_allowed ms ns K L first second ordered (place i ∷ p) = tt
shallow_allowed ms ns K L first second ordered (field n ∷ p) =
    let A : Sets = λ q. tags_at K (field n ∷ q) in let B : Sets = λ q. tags_at L (field n ∷ q) in
    if_some (at_field (find n (put_all ns ms)) p) (λ t. IsTrue (over_at A B p t))
    (λ t. IsTrue (overlaid_kind (Some K) (Some L) (field n ∷ p) t))
    (λ t is. and_from (tags_at K [] tag.Object) _ (first []) (and_from (tags_at L [] tag.Object) _ (second []) is))
    (subst (λ (o : Option Tree). IfSome (at_field o p) (λ t. IsTrue (over_at A B p t)))
    (sym (put_all_found n ns ms ordered))
    (over_field A B (find n ns) (find n ms) p (λ q. second (field n ∷ q)) (first (field n ∷ p))))

-- ---- objects within objects

changed_parts : (arguments : List (Option Tree)) (k : List ℕ) (o : Option Tree) (over : Tree → Tree) (t : Tree)
    (ms : Members) → IsPart arguments t → ((u : Tree) → IsPart arguments u → IsPart arguments (over u)) →
    IfSome o (IsPart arguments) → AreParts arguments ms → AreParts arguments (changed k o over t ms)
changed_parts arguments k None over t ms part so found are = record {
  each = each_put
      (IsPart arguments) k t ms part are.each;
  ordered = put_ordered k t ms part.ordered are.ordered;
}
changed_parts arguments k (Some u) over t ms part so found are =
    record {
      each = each_replaced (IsPart arguments) k (over u) ms (so u found) are.each;
      ordered = replace_ordered k
          (over u) ms (so u found).ordered are.ordered;
    }

mutual
  laid_part : (arguments : List (Option Tree)) (t u : Tree) → IsPart arguments t → IsPart arguments u
      → IsPart arguments (laid_over t u)
  laid_part arguments (object ns) (object ms) new old =
      let new_parts = member_parts arguments ns new in let all = lay_parts arguments ns ms new_parts.each
      (member_parts arguments ms old) in object_part arguments (lay_all ns ms) all
  laid_part arguments t u new old = new

  lay_parts : (arguments : List (Option Tree)) (ns ms : Members) → EachMember (IsPart arguments) ns
      → AreParts arguments ms → AreParts arguments (lay_all ns ms)
  lay_parts arguments no_members ms each are = are
  lay_parts arguments (member k t ns) ms each are =
      lay_parts arguments ns (changed k (find k ms) (laid_over t) t ms) each.1
      (changed_parts arguments k (find k ms) (laid_over t) t ms each.0 (λ u old. laid_part arguments t u each.0 old)
      (each_found (IsPart arguments) k ms are.each) are)

-- ---- the law

shallow_false : (K : Option KindTree) (literal a : Option Tree) → IsOfGiven K a → IfSome literal (λ v. a ≡ Some v)
    → is_shallow K literal ≡ true → boolean_or false a ≡ false
shallow_false K (Some (boolean false)) a of same shallow = ap (boolean_or false) same
shallow_false None None None of same shallow = refl
shallow_false None None (Some v) of same shallow = absurd of
shallow_false (Some K) None a of same shallow = no shallow
shallow_false K (Some v) a of same shallow = no shallow

shallow_lawful : (K L : Option KindTree) (arguments : List (Option Tree)) (ms ns : Members)
    → IsOfGiven K (Some (object ms)) → IsOfGiven L (Some (object ns)) → IsPart arguments (object ms)
    → IsPart arguments (object ns) →
    IsLawful (overlaid_kind K L) false arguments (value (merged false (object ms) (object ns)))
shallow_lawful None L arguments ms ns of fits old new = absurd of
shallow_lawful (Some K) None arguments ms ns of fits old new = absurd fits
shallow_lawful (Some K) (Some L) arguments ms ns of fits old new =
    let new_parts = member_parts arguments ns new in
    let all = put_all_parts arguments ns ms new_parts.each (member_parts arguments ms old) in
    answered (overlaid_kind (Some K) (Some L)) false arguments (object (put_all ns ms))
    (shallow_allowed ms ns K L of fits new_parts.ordered) (object_part arguments (put_all ns ms) all)

loose_lawful : (deep : Bool) (arguments : List (Option Tree)) (ms ns : Members) → IsPart arguments (object ms)
    → IsPart arguments (object ns)
    → IsLawful (any_of objects) false arguments (value (merged deep (object ms) (object ns)))
loose_lawful true arguments ms ns old new =
    let new_parts = member_parts arguments ns new in
    let all = lay_parts arguments ns ms new_parts.each (member_parts arguments ms old) in
    answered (any_of objects) false arguments (object (lay_all ns ms))
    (loosely_allowed objects (object (lay_all ns ms)) refl) (object_part arguments (lay_all ns ms) all)
loose_lawful false arguments ms ns old new =
    let new_parts = member_parts arguments ns new in
    let all = put_all_parts arguments ns ms new_parts.each (member_parts arguments ms old) in
    answered (any_of objects) false arguments (object (put_all ns ms))
    (loosely_allowed objects (object (put_all ns ms)) refl) (object_part arguments (put_all ns ms) all)

merged_lawful : (shallow deep : Bool) (K L : Option KindTree) (arguments : List (Option Tree)) (ms ns : Members)
    → (shallow ≡ true → deep ≡ false) → IsOfGiven K (Some (object ms)) → IsOfGiven L (Some (object ns)) →
    IsPart arguments (object ms) → IsPart arguments (object ns)
    → IsLawful (merge_kind shallow K L) false arguments (value (merged deep (object ms) (object ns)))
merged_lawful true deep K L arguments ms ns is of fits old new =
    subst (λ (b : Bool). IsLawful (overlaid_kind K L) false arguments (value (merged b (object ms) (object ns))))
    (sym (is refl)) (shallow_lawful K L arguments ms ns of fits old new)
merged_lawful false deep K L arguments ms ns is of fits old new = loose_lawful deep arguments ms ns old new

and_false : (a b : Bool) → (a && (b && false)) ≡ false
and_false true true = refl
and_false true false = refl
and_false false b = refl

pub merge_present : (shallow : Bool) (K L : Option KindTree) → merge_kind shallow K L [] tag.Absent ≡ false
merge_present true None L = refl
merge_present true (Some K) None = refl
merge_present true (Some K) (Some L) = and_false (tags_at K [] tag.Object) (tags_at L [] tag.Object)
merge_present false K L = refl

pub merge-law : KeepsLaw merge_row
merge-law = record {
  present = λ givens sources given below. merge_present (is_shallow (kind_at 2 givens) (literal_at 2 givens))
      (kind_at 0 givens) (kind_at 1 givens);
  lawful = λ givens arguments setting given fit instances below.
      let K = kind_at 0 givens in let L = kind_at 1 givens in let shallow = is_shallow (kind_at 2 givens)
      (literal_at 2 givens) in let deep = boolean_or false (argument_at 2 arguments) in
      objects_only (λ a. argument_at 0 arguments ≡ a → IsOfGiven K a → IfSome a IsOrdered
      → IsLawful (merge_kind shallow K L) false arguments
      (value (merged deep (value_or null a) (value_or null (argument_at 1 arguments)))))
      (argument_at 0 arguments) fit.0.there fit.0.allowed
      (λ ms first of ordered.
      objects_only (λ b. argument_at 1 arguments ≡ b → IsOfGiven L b → IfSome b IsOrdered
      → IsLawful (merge_kind shallow K L) false arguments (value (merged deep (object ms) (value_or null b))))
      (argument_at 1 arguments) fit.1.0.there fit.1.0.allowed
      (λ ns second fits in_order.
      merged_lawful shallow deep K L arguments ms ns
      (shallow_false (kind_at 2 givens) (literal_at 2 givens) (argument_at 2 arguments) (instances.kinds 2)
      (instances.literals 2)) of fits
      (given_part 0 (object ms) arguments first ordered) (given_part 1 (object ns) arguments second in_order))
      refl (instances.kinds 1) (instances.ordered 1))
      refl (instances.kinds 0) (instances.ordered 0);
}
