-- The fields of two objects taken together, name by name: at each name they allow what a way to put two kinds together makes of what
-- either side allows there.
use Rattle.std.proofs.Common.{◌≡◌, ◌≢◌, ℕ, ◌≤◌, ◌||◌, inl, inr, IsTrue, List, Option, Some, None, is_some, unwrap_or, Ordering, Less, Equal, Greater, nat_cmp, is_eq, refl, sym, ap, ◌∙◌, subst, arith}
use Rattle.std.specs.Bool.{⊤}
use Rattle.std.proofs.lemmas.Bool.{true≢false}
use Rattle.std.specs.Cmp.Lexicographic.{slice_cmp}
use Rattle.std.specs.Ordering.{match_ordering}
use Rattle.vrl_value.specs.Look.{Step}
use Rattle.vrl_value.specs.declared.value.Tag.{Tag}
use Rattle.vrl_kind.specs.KindTree.{KindTree, ObjectTree, no_object, object_part, RestTree, KnownFields, no_fields, known_field}
use Rattle.vrl_kind.specs.Canonical.{rest_kind, field_or, IsBeforeFields, NoFieldIs, IsCanonical, FieldsAreCanonical}
use Rattle.vrl_kind.specs.Count.{fields_nodes}
use Rattle.vrl_kind.specs.Kinds.{tags_at, object_at, fields_at}
use Rattle.vrl_kind.specs.Make.{IsObjectFor, IsKnownPushed, add_field}
use Rattle.vrl_kind.specs.Merge.{FieldsAreSorted, with_field, IsTurn, IsEnd}
use Rattle.vrl_kind.specs.Parts.{AreCombined, IsCombined}
use Rattle.vrl_kind.specs.Sets.{Sets}
use Rattle.vrl_kind.specs.Tags.{Tags}
use Rattle.vrl_kind.proofs.Ahead.{here, not_here, unknown, turn_nodes, sorted_behind}
use Rattle.vrl_kind.proofs.Known.{object_field, one_set, fields_or}
use Rattle.vrl_kind.proofs.Merging.{one_name}

-- each of the first names is before each of the fields'
abbrev pub AllBefore : KnownFields → KnownFields → Type 0
AllBefore no_fields fs = ⊤
AllBefore (known_field n k ds) fs = IsBeforeFields n fs × AllBefore ds fs

-- each of the first names is before this one
abbrev pub AllBeforeName : KnownFields → List ℕ → Type 0
AllBeforeName no_fields n = ⊤
AllBeforeName (known_field m k ds) n = (slice_cmp nat_cmp m n ≡ Less) × AllBeforeName ds n

-- what is put together of two objects so far: done, and fs and gs still ahead
pub record NamesSoFar (C : Sets → Sets → Sets) (K L J : KindTree) (fs0 gs0 fs gs done : KnownFields) : Type 0 where
  pub at : (n : List ℕ) (p : List Step) (t : Tag) → fields_at done n p (C (tags_at (field_or fs K n)) (tags_at (field_or gs L n)) p) t ≡ C (tags_at (field_or fs0 K n)) (tags_at (field_or gs0 L n)) p t
  pub canonical : FieldsAreCanonical done
  pub known : NoFieldIs J done
  pub before_left : AllBefore done fs
  pub before_right : AllBefore done gs
  pub sorted_left : FieldsAreSorted fs
  pub sorted_right : FieldsAreSorted gs
  pub left_nodes : fields_nodes fs ≤ fields_nodes fs0
  pub right_nodes : fields_nodes gs ≤ fields_nodes gs0

pub names_first : (C : Sets → Sets → Sets) (K L J : KindTree) (fs gs done : KnownFields) → done ≡ no_fields → FieldsAreSorted fs → FieldsAreSorted gs → NamesSoFar C K L J fs gs fs gs done
names_first C K L J fs gs done none sorted also = rw none record {
  at = λ n p t. refl;
  canonical = tt;
  known = tt;
  before_left = tt;
  before_right = tt;
  sorted_left = sorted;
  sorted_right = also;
  left_nodes = omega arith;
  right_nodes = omega arith;
}

-- a field behind the others is found where none of them is
add_cases : (o : Ordering) (T U V : Tags) → U ≡ V → match_ordering o U T U ≡ match_ordering o V T V
add_cases o T U V e = ap (λ W. match_ordering o W T W) e

fields_add : (ds : KnownFields) (n : List ℕ) (k : KindTree) (q : List ℕ) (p : List Step) (T : Tags) → fields_at (add_field ds n k) q p T ≡ fields_at ds q p (fields_at (known_field n k no_fields) q p T)
fields_add no_fields n k q p T = refl
fields_add (known_field m l ds) n k q p T = add_cases (slice_cmp nat_cmp q m) (tags_at l p) _ _ (fields_add ds n k q p T)

-- what a turn gives at a name, over what is ahead of it
turn_at : (C : Sets → Sets → Sets) (o : Ordering) (K L j : KindTree) (n q : List ℕ) (k l : Option KindTree) (fs gs fs' gs' : KnownFields) (p : List Step) → slice_cmp nat_cmp q n ≡ o → IsTurn n k l fs gs fs' gs' → IsBeforeFields n fs' → IsBeforeFields n gs' → IsCombined C (unwrap_or k K) (unwrap_or l L) j
    → match_ordering o (C (tags_at (field_or fs' K q)) (tags_at (field_or gs' L q)) p) (tags_at j p) (C (tags_at (field_or fs' K q)) (tags_at (field_or gs' L q)) p) ≡ C (tags_at (field_or fs K q)) (tags_at (field_or gs L q)) p
turn_at C Less K L j n q k l fs gs fs' gs' p is turn before also join =
    rw (turn.left, turn.right, not_here K n q k fs' (ap is_eq is), not_here L n q l gs' (ap is_eq is)) refl
turn_at C Greater K L j n q k l fs gs fs' gs' p is turn before also join =
    rw (turn.left, turn.right, not_here K n q k fs' (ap is_eq is), not_here L n q l gs' (ap is_eq is)) refl
turn_at C Equal K L j n q k l fs gs fs' gs' p is turn before also join =
    let same : q ≡ n = one_name q n is in
    rw (turn.left, turn.right, same, here K n k fs' before, here L n l gs' also) (one_set (tags_at j p) (C (tags_at (unwrap_or k K)) (tags_at (unwrap_or l L)) p) (join p))

-- where the kind of a turn says no more than the rest, the turn can be left out
left_out : (C : Sets → Sets → Sets) (o : Ordering) (K L j : KindTree) (n q : List ℕ) (fs' gs' : KnownFields) (p : List Step) → slice_cmp nat_cmp q n ≡ o → IsBeforeFields n fs' → IsBeforeFields n gs' → IsCombined C K L j
    → C (tags_at (field_or fs' K q)) (tags_at (field_or gs' L q)) p ≡ match_ordering o (C (tags_at (field_or fs' K q)) (tags_at (field_or gs' L q)) p) (tags_at j p) (C (tags_at (field_or fs' K q)) (tags_at (field_or gs' L q)) p)
left_out C Less K L j n q fs' gs' p is before also join = refl
left_out C Greater K L j n q fs' gs' p is before also join = refl
left_out C Equal K L j n q fs' gs' p is before also join =
    let same : q ≡ n = one_name q n is in
    rw (same, unknown K n fs' before, unknown L n gs' also) (sym (one_set (tags_at j p) (C (tags_at K) (tags_at L) p) (join p)))

all_behind : (ds fs fs' : KnownFields) (n : List ℕ) (k : Option KindTree) → fs ≡ with_field n k fs' → AllBefore ds fs → AllBefore ds fs'
all_behind ds fs fs' n None is all = subst (AllBefore ds) is all
all_behind no_fields fs fs' n (Some k) is all = tt
all_behind (known_field m l ds) fs fs' n (Some k) is all =
    let now : IsBeforeFields m (known_field n k fs') = subst (IsBeforeFields m) is all.0 in
    (now.1, all_behind ds fs fs' n (Some k) is all.1)

before_name : (ds fs fs' : KnownFields) (n : List ℕ) (k : KindTree) → fs ≡ known_field n k fs' → AllBefore ds fs → AllBeforeName ds n
before_name no_fields fs fs' n k is all = tt
before_name (known_field m l ds) fs fs' n k is all =
    let now : IsBeforeFields m (known_field n k fs') = subst (IsBeforeFields m) is all.0 in
    (now.0, before_name ds fs fs' n k is all.1)

before_turn : (ds fs gs fs' gs' : KnownFields) (n : List ℕ) (k l : Option KindTree) → IsTrue (is_some k || is_some l) → fs ≡ with_field n k fs' → gs ≡ with_field n l gs' → AllBefore ds fs → AllBefore ds gs → AllBeforeName ds n
before_turn ds fs gs fs' gs' n (Some k) l some is also left right = before_name ds fs fs' n k is left
before_turn ds fs gs fs' gs' n None (Some l) some is also left right = before_name ds gs gs' n l also right
before_turn ds fs gs fs' gs' n None None some is also left right = absurd (true≢false (sym some))

add_before : (ds : KnownFields) (m n : List ℕ) (k : KindTree) → IsBeforeFields m ds → slice_cmp nat_cmp m n ≡ Less → IsBeforeFields m (add_field ds n k)
add_before no_fields m n k before less = (less, tt)
add_before (known_field d l ds) m n k before less = (before.0, add_before ds m n k before.1 less)

pub canonical_add : (ds : KnownFields) (n : List ℕ) (k : KindTree) → FieldsAreCanonical ds → AllBeforeName ds n → IsCanonical k → FieldsAreCanonical (add_field ds n k)
canonical_add no_fields n k all before one = (tt, one, tt)
canonical_add (known_field d l ds) n k all before one = (add_before ds d n k all.0 before.0, all.1, canonical_add ds n k all.2 before.1 one)

pub known_add : (ds : KnownFields) (n : List ℕ) (k J : KindTree) → NoFieldIs J ds → k ≢ J → NoFieldIs J (add_field ds n k)
known_add no_fields n k J known other = (other, tt)
known_add (known_field d l ds) n k J known other = (known.0, known_add ds n k J known.1 other)

all_add : (ds : KnownFields) (n : List ℕ) (k : KindTree) (fs : KnownFields) → AllBefore ds fs → IsBeforeFields n fs → AllBefore (add_field ds n k) fs
all_add no_fields n k fs all before = (before, tt)
all_add (known_field d l ds) n k fs all before = (all.0, all_add ds n k fs all.1 before)

next_pushed : (C : Sets → Sets → Sets) (K L J j : KindTree) (n : List ℕ) (k l : Option KindTree) (fs0 gs0 fs gs fs' gs' ds es : KnownFields) → NamesSoFar C K L J fs0 gs0 fs gs ds → IsTurn n k l fs gs fs' gs' → IsCombined C (unwrap_or k K) (unwrap_or l L) j → IsCanonical j → j ≢ J → es ≡ add_field ds n j → NamesSoFar C K L J fs0 gs0 fs' gs' es
next_pushed C K L J j n k l fs0 gs0 fs gs fs' gs' ds es far turn join canonical other is =
    let before = turn.before_left far.sorted_left far.sorted_right in
    let also = turn.before_right far.sorted_left far.sorted_right in
    let name = before_turn ds fs gs fs' gs' n k l turn.some turn.left turn.right far.before_left far.before_right in
    rw is record {
      at = λ q p t. ap (λ T. T t) (fields_add ds n j q p _) ∙ ap (λ T. fields_at ds q p T t) (turn_at C _ K L j n q k l fs gs fs' gs' p refl turn before also join) ∙ far.at q p t;
      canonical = canonical_add ds n j far.canonical name canonical;
      known = known_add ds n j J far.known other;
      before_left = all_add ds n j fs' (all_behind ds fs fs' n k turn.left far.before_left) before;
      before_right = all_add ds n j gs' (all_behind ds gs gs' n l turn.right far.before_right) also;
      sorted_left = sorted_behind n k fs' (subst FieldsAreSorted turn.left far.sorted_left);
      sorted_right = sorted_behind n l gs' (subst FieldsAreSorted turn.right far.sorted_right);
      left_nodes = omega (arith, far.left_nodes, turn_nodes n k fs fs' turn.left);
      right_nodes = omega (arith, far.right_nodes, turn_nodes n l gs gs' turn.right);
    }

next_left_out : (C : Sets → Sets → Sets) (K L J j : KindTree) (n : List ℕ) (k l : Option KindTree) (fs0 gs0 fs gs fs' gs' ds es : KnownFields) → NamesSoFar C K L J fs0 gs0 fs gs ds → IsTurn n k l fs gs fs' gs' → IsCombined C (unwrap_or k K) (unwrap_or l L) j → IsCombined C K L J → j ≡ J → es ≡ ds → NamesSoFar C K L J fs0 gs0 fs' gs' es
next_left_out C K L J j n k l fs0 gs0 fs gs fs' gs' ds es far turn join rest same is =
    let before = turn.before_left far.sorted_left far.sorted_right in
    let also = turn.before_right far.sorted_left far.sorted_right in
    rw is record {
      at = λ q p t. ap (λ T. fields_at ds q p T t) (left_out C _ K L j n q fs' gs' p refl before also (subst (IsCombined C K L) (sym same) rest) ∙ turn_at C _ K L j n q k l fs gs fs' gs' p refl turn before also join) ∙ far.at q p t;
      canonical = far.canonical;
      known = far.known;
      before_left = all_behind ds fs fs' n k turn.left far.before_left;
      before_right = all_behind ds gs gs' n l turn.right far.before_right;
      sorted_left = sorted_behind n k fs' (subst FieldsAreSorted turn.left far.sorted_left);
      sorted_right = sorted_behind n l gs' (subst FieldsAreSorted turn.right far.sorted_right);
      left_nodes = omega (arith, far.left_nodes, turn_nodes n k fs fs' turn.left);
      right_nodes = omega (arith, far.right_nodes, turn_nodes n l gs gs' turn.right);
    }

-- one turn of the loop
pub names_next : (C : Sets → Sets → Sets) (K L J j : KindTree) (n : List ℕ) (k l : Option KindTree) (fs0 gs0 fs gs fs' gs' ds es : KnownFields) → NamesSoFar C K L J fs0 gs0 fs gs ds → IsTurn n k l fs gs fs' gs' → IsCombined C (unwrap_or k K) (unwrap_or l L) j → IsCanonical j → IsCombined C K L J → IsKnownPushed n j J ds es → NamesSoFar C K L J fs0 gs0 fs' gs' es
names_next C K L J j n k l fs0 gs0 fs gs fs' gs' ds es far turn join canonical rest (inl out) = next_left_out C K L J j n k l fs0 gs0 fs gs fs' gs' ds es far turn join rest out.0 out.1
names_next C K L J j n k l fs0 gs0 fs gs fs' gs' ds es far turn join canonical rest (inr put) = next_pushed C K L J j n k l fs0 gs0 fs gs fs' gs' ds es far turn join canonical put.0 put.1

end_at : (C : Sets → Sets → Sets) (K L J : KindTree) (fs0 gs0 fs gs ds : KnownFields) → NamesSoFar C K L J fs0 gs0 fs gs ds → IsEnd fs gs → IsCombined C K L J → (n : List ℕ) (p : List Step) (t : Tag) → tags_at (field_or ds J n) p t ≡ C (tags_at (field_or fs0 K n)) (tags_at (field_or gs0 L n)) p t
end_at C K L J fs0 gs0 fs gs ds far end rest n p t =
    ap (λ T. T t) (sym (fields_or ds J n p))
    ∙ ap (λ T. fields_at ds n p T t) (one_set (tags_at J p) (C (tags_at K) (tags_at L) p) (rest p))
    ∙ sym (ap (λ hs. fields_at ds n p (C (tags_at (field_or hs K n)) (tags_at (field_or gs L n)) p) t) end.left ∙ ap (λ hs. fields_at ds n p (C (tags_at K) (tags_at (field_or hs L n)) p) t) end.right)
    ∙ far.at n p t

-- where nothing is left the fields are put together
pub names_end : (C : Sets → Sets → Sets) (K L J : KindTree) (fs0 gs0 fs gs ds : KnownFields) → NamesSoFar C K L J fs0 gs0 fs gs ds → IsEnd fs gs → IsCombined C K L J → AreCombined C K L J fs0 gs0 ds
names_end C K L J fs0 gs0 fs gs ds far end rest = record { at = end_at C K L J fs0 gs0 fs gs ds far end rest; canonical = far.canonical; known = far.known }

-- what is made of sides that equal these
pub combined_along : (C : Sets → Sets → Sets) (K K' L L' M : KindTree) → K ≡ K' → L ≡ L' → IsCombined C K L M → IsCombined C K' L' M
combined_along C K K' L L' M e f all = subst (λ v. IsCombined C v L' M) e (subst (λ v. IsCombined C K v M) f all)

object_at_field : (fs : KnownFields) (r : RestTree) (n : List ℕ) → object_at (object_part fs r) n ≡ tags_at (field_or fs (rest_kind r) n)
object_at_field fs r n = λ i p. object_field fs r n p i

-- and so are the objects over these fields
pub object_combined : (C : Sets → Sets → Sets) (J : KindTree) (r q : RestTree) (fs gs ds : KnownFields) (w : ObjectTree) → AreCombined C (rest_kind r) (rest_kind q) J fs gs ds → IsObjectFor ds J w → (n : List ℕ) (p : List Step) (t : Tag) → object_at w n p t ≡ C (object_at (object_part fs r) n) (object_at (object_part gs q) n) p t
object_combined C J r q fs gs ds no_object all for n p t = absurd for
object_combined C J r q fs gs ds (object_part zs s) all for n p t =
    ap (λ T. T t) (object_field zs s n p)
    ∙ ap (λ ys. tags_at (field_or ys (rest_kind s) n) p t) for.1
    ∙ ap (λ k. tags_at (field_or ds k n) p t) for.0
    ∙ all.at n p t
    ∙ sym (ap (λ A. C A (object_at (object_part gs q) n) p t) (object_at_field fs r n) ∙ ap (λ A. C (tags_at (field_or fs (rest_kind r) n)) A p t) (object_at_field gs q n))
