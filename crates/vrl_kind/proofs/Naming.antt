-- Kinds put into a map by their names, and taken from it as known fields.
use Rattle.std.proofs.Common.{◌≡◌, ℕ, Bool, true, IsTrue, List, [], ◌∷◌, ◌++◌, length, Some, None, String, Global, string_bytes, string_cmp, Ordering, Less, Equal, Greater, nat_cmp, refl, sym, ap, ◌∙◌, subst, arith}
use Rattle.std.proofs.lemmas.Cmp.{nat_list_cmp_total, tied_itself}
use Rattle.std.proofs.lemmas.Map.Keys.{sorted_head, sorted_tail}
use Rattle.std.specs.BTreeMap.{insert_entry}
use Rattle.std.specs.Cmp.Lexicographic.{slice_cmp}
use Rattle.std.specs.List.{AllByRecursion}
use Rattle.std.specs.List.Sorted.{IsStrictlySortedBy}
use Rattle.std.specs.Map.{keys_of}
use Rattle.std.specs.Ordering.{is_lt, match_ordering}
use Rattle.vrl_value.specs.Look.{Step, field, place}
use Rattle.vrl_value.specs.declared.value.Tag.{Tag}
use Rattle.vrl_kind.specs.KindTree.{KindTree, KnownFields, no_fields, known_field, ObjectTree, no_object, object_part, RestTree, kind, ListTree}
use Rattle.vrl_kind.specs.Canonical.{never_kind, rest_kind, field_or, scalars_of, list_tree, IsBeforeFields, IsCanonical}
use Rattle.vrl_kind.specs.Kinds.{tags_at, SameTags, has_object, object_at}
use Rattle.vrl_kind.specs.Make.{entries_view, SameFields, AreKnown, IsKnownPushed, IsObjectFor, last_first, named_view}
use Rattle.vrl_kind.specs.Change.{with_object}
use Rattle.vrl_kind.specs.declared.scalars.Scalars.{Scalars}
use Rattle.vrl_kind.specs.Merge.{FieldsAreSorted, IsTurn}
use Rattle.vrl_kind.specs.Sets.{Sets}
use Rattle.vrl_kind.proofs.Known.{object_field}
use Rattle.vrl_kind.proofs.Merging.{before_through, one_name}
use Rattle.vrl_kind.proofs.Namewise.{NamesSoFar, names_first, names_next, names_end}
use Rattle.vrl_kind.proofs.Shapes.{same_root}

abbrev pub Entry : Type 0
Entry = String Global × KindTree

-- what is said behind a field says the same behind another
pub behind_field : (o : Ordering) (j k l : KindTree) → k ≡ l → match_ordering o k j k ≡ match_ordering o l j l
behind_field o j k l e = ap (λ v. match_ordering o v j v) e

-- ---- putting in
entries_match : (o : Ordering) (a b c : List Entry) (K : KindTree) (n : List ℕ) → field_or (entries_view (match_ordering o a b c)) K n ≡ match_ordering o (field_or (entries_view a) K n) (field_or (entries_view b) K n) (field_or (entries_view c) K n)
entries_match Less a b c K n = refl
entries_match Equal a b c K n = refl
entries_match Greater a b c K n = refl

pub twice : (o : Ordering) (f v w : KindTree) → match_ordering o f v f ≡ match_ordering o (match_ordering o f w f) v (match_ordering o f w f)
twice Less f v w = refl
twice Equal f v w = refl
twice Greater f v w = refl

-- two fields of different names can change places
pub swapped : (a b : Ordering) (f v w : KindTree) → (a ≡ Equal → b ≡ Equal → ⊥) → match_ordering a (match_ordering b f v f) w (match_ordering b f v f) ≡ match_ordering b (match_ordering a f w f) v (match_ordering a f w f)
swapped Less Less f v w apart = refl
swapped Less Equal f v w apart = refl
swapped Less Greater f v w apart = refl
swapped Equal Less f v w apart = refl
swapped Equal Equal f v w apart = absurd (apart refl refl)
swapped Equal Greater f v w apart = refl
swapped Greater Less f v w apart = refl
swapped Greater Equal f v w apart = refl
swapped Greater Greater f v w apart = refl

pub not_both : (n m q : List ℕ) → slice_cmp nat_cmp m q ≡ Greater → slice_cmp nat_cmp n q ≡ Equal → slice_cmp nat_cmp n m ≡ Equal → ⊥
not_both n m q above first second =
    let same : m ≡ q = sym (one_name n m second) ∙ one_name n q first in
    let tied : slice_cmp nat_cmp q q ≡ Equal = tied_itself nat_list_cmp_total q in
    let other : slice_cmp nat_cmp q q ≡ Greater = ap (λ v. slice_cmp nat_cmp v q) (sym same) ∙ above in
    cc

inserted_at : (o : Ordering) (e : Entry) (es : List Entry) (k : String Global) (v : KindTree) (K : KindTree) (n : List ℕ) → slice_cmp nat_cmp (string_bytes k) (string_bytes e.0) ≡ o → field_or (entries_view (insert_entry string_cmp es k v)) K n ≡ field_or (known_field (string_bytes k) v (entries_view es)) K n
    → match_ordering o (field_or (entries_view ((k, v) ∷ e ∷ es)) K n) (field_or (entries_view ((e.0, v) ∷ es)) K n) (field_or (entries_view (e ∷ insert_entry string_cmp es k v)) K n) ≡ field_or (known_field (string_bytes k) v (entries_view (e ∷ es))) K n
inserted_at Less e es k v K n is far = refl
inserted_at Equal e es k v K n is far =
    twice (slice_cmp nat_cmp n (string_bytes e.0)) (field_or (entries_view es) K n) v e.1
    ∙ ap (λ m. field_or (known_field m v (known_field (string_bytes e.0) e.1 (entries_view es))) K n) (sym (one_name (string_bytes k) (string_bytes e.0) is))
inserted_at Greater e es k v K n is far =
    behind_field (slice_cmp nat_cmp n (string_bytes e.0)) e.1 _ _ far
    ∙ swapped (slice_cmp nat_cmp n (string_bytes e.0)) (slice_cmp nat_cmp n (string_bytes k)) (field_or (entries_view es) K n) v e.1 (not_both n (string_bytes k) (string_bytes e.0) is)

-- what is put into a map is found before what was there
inserted : (es : List Entry) (k : String Global) (v : KindTree) (K : KindTree) (n : List ℕ) → field_or (entries_view (insert_entry string_cmp es k v)) K n ≡ field_or (known_field (string_bytes k) v (entries_view es)) K n
inserted [] k v K n = refl
inserted (e ∷ es) k v K n = entries_match (string_cmp k e.0) _ _ _ K n ∙ inserted_at (string_cmp k e.0) e es k v K n refl (inserted es k v K n)

behind_all : (es : List (List ℕ × KindTree)) (fs gs : KnownFields) (K : KindTree) → ((m : List ℕ) → field_or fs K m ≡ field_or gs K m) → (n : List ℕ) → field_or (last_first es fs) K n ≡ field_or (last_first es gs) K n
behind_all [] fs gs K same n = same n
behind_all (e ∷ es) fs gs K same n = behind_all es (known_field e.0 e.1 fs) (known_field e.0 e.1 gs) K (λ m. behind_field (slice_cmp nat_cmp m e.0) e.1 _ _ (same m)) n

pub named_first : (es xs : List (List ℕ × KindTree)) (ds : List Entry) → xs ≡ es → ds ≡ [] → SameFields (named_view es) (last_first xs (entries_view ds))
named_first es xs ds is none K n = ap (λ ys. field_or (last_first ys (entries_view ds)) K n) is ∙ ap (λ ys. field_or (last_first es (entries_view ys)) K n) none

pub named_next : (all : KnownFields) (x : List ℕ × KindTree) (xs ys : List (List ℕ × KindTree)) (es ds : List Entry) (key : String Global) → SameFields all (last_first xs (entries_view es)) → xs ≡ x ∷ ys → string_bytes key ≡ x.0 → ds ≡ insert_entry string_cmp es key x.1 → SameFields all (last_first ys (entries_view ds))
named_next all x xs ys es ds key far is name put K n =
    ap (λ zs. field_or (last_first ys (entries_view zs)) K n) put
    ∙ behind_all ys (entries_view (insert_entry string_cmp es key x.1)) (known_field x.0 x.1 (entries_view es)) K (λ m. inserted es key x.1 K m ∙ ap (λ b. field_or (known_field b x.1 (entries_view es)) K m) name) n
    ∙ ap (λ zs. field_or (last_first zs (entries_view es)) K n) (sym is)
    ∙ far K n

pub named_end : (all : KnownFields) (xs : List (List ℕ × KindTree)) (es : List Entry) → SameFields all (last_first xs (entries_view es)) → length xs ≡ 0 → SameFields all (entries_view es)
named_end all [] es far none = far
named_end all (x ∷ xs) es far none = absurd (omega arith)

-- ---- taking out
before_keys : (k : String Global) (es : List Entry) → AllByRecursion (λ y. string_cmp k y ≡ Less) (keys_of es) → IsBeforeFields (string_bytes k) (entries_view es)
before_keys k [] all = tt
before_keys k (e ∷ es) all = (all.0, before_keys k es all.1)

pub entries_sorted : (es : List Entry) → IsStrictlySortedBy string_cmp (keys_of es) → FieldsAreSorted (entries_view es)
entries_sorted [] sorted = tt
entries_sorted (e ∷ es) sorted = (before_keys e.0 es (sorted_head string_cmp e.0 (keys_of es) sorted), entries_sorted es (sorted_tail string_cmp e.0 (keys_of es) sorted))

-- the sets of the first side
abbrev pub first_at : Sets → Sets → Sets
first_at A B = A

-- what the loop has put behind each other, and what it has still ahead
abbrev pub KnownSoFar : KindTree → KnownFields → KnownFields → KnownFields → Type 0
KnownSoFar own all fs ds = NamesSoFar first_at own never_kind own all no_fields fs no_fields ds

pub known_first : (own : KindTree) (all fs ds : KnownFields) → fs ≡ all → ds ≡ no_fields → FieldsAreSorted all → KnownSoFar own all fs ds
known_first own all fs ds is none sorted = subst (λ gs. KnownSoFar own all gs ds) (sym is) (names_first first_at own never_kind own all no_fields ds none sorted tt)

pub known_next : (own k : KindTree) (n : List ℕ) (all fs fs' ds es : KnownFields) → KnownSoFar own all fs ds → fs ≡ known_field n k fs' → IsCanonical k → IsKnownPushed n k own ds es → KnownSoFar own all fs' es
known_next own k n all fs fs' ds es far is canonical pushed =
    let turn : IsTurn n (Some k) None fs no_fields fs' no_fields = record {
      some = refl;
      left = is;
      right = refl;
      before_left = λ sorted other. (subst FieldsAreSorted is sorted).0;
      before_right = λ sorted other. tt;
    } in
    names_next first_at own never_kind own k n (Some k) None all no_fields fs no_fields fs' no_fields ds es far turn (λ p t. refl) canonical (λ p t. refl) pushed

pub known_end : (own : KindTree) (all fs ds : KnownFields) → KnownSoFar own all fs ds → fs ≡ no_fields → AreKnown own all ds
known_end own all fs ds far none =
    let all_known = names_end first_at own never_kind own all no_fields fs no_fields ds far record { left = none; right = refl } (λ p t. refl) in
    record { same = all_known.at; canonical = all_known.canonical; known = all_known.known }

-- the fields of a map say the same as those that were put into it
pub known_named : (own : KindTree) (all fs ds : KnownFields) → SameFields all fs → AreKnown own fs ds → AreKnown own all ds
known_named own all fs ds named known = record {
  same = λ n p t. known.same n p t ∙ ap (λ k. tags_at k p t) (named own n);
  canonical = known.canonical;
  known = known.known;
}

-- ---- fields that come the last name first
pub is_less : (b : Bool) (o : Ordering) → b ≡ is_lt o → IsTrue b → o ≡ Less
is_less b Less is less = refl
is_less b Equal is less = cc
is_less b Greater is less = cc

last_first_end : (es : List (List ℕ × KindTree)) (e : List ℕ × KindTree) (fs : KnownFields) → last_first (es ++ e ∷ []) fs ≡ known_field e.0 e.1 (last_first es fs)
last_first_end [] e fs = refl
last_first_end (d ∷ es) e fs = last_first_end es e (known_field d.0 d.1 fs)

pub view_end : (e : List ℕ × KindTree) (xs es : List (List ℕ × KindTree)) → xs ≡ es ++ e ∷ [] → named_view xs ≡ known_field e.0 e.1 (named_view es)
view_end e xs es is = ap named_view is ∙ last_first_end es e no_fields

pub view_none : (xs : List (List ℕ × KindTree)) → length xs ≡ 0 → named_view xs ≡ no_fields
view_none [] none = refl
view_none (x ∷ xs) none = absurd (omega arith)

-- a name before the last one is before all
pub before_last : (n : List ℕ) (e : List ℕ × KindTree) (xs es : List (List ℕ × KindTree)) → xs ≡ es ++ e ∷ [] → slice_cmp nat_cmp n e.0 ≡ Less → FieldsAreSorted (named_view xs) → IsBeforeFields n (named_view xs)
before_last n e xs es is less = rw (view_end e xs es is) (λ sorted. (less, before_through n e.0 (named_view es) less sorted.0))

-- one more, which is before all
pub sorted_more : (e : List ℕ × KindTree) (xs es : List (List ℕ × KindTree)) → xs ≡ es ++ e ∷ [] → IsBeforeFields e.0 (named_view es) → FieldsAreSorted (named_view es) → FieldsAreSorted (named_view xs)
sorted_more e xs es is before sorted = rw (view_end e xs es is) (before, sorted)

object_has : (fs : KnownFields) (K : KindTree) (o : ObjectTree) → IsObjectFor fs K o → has_object o ≡ true
object_has fs K no_object for = absurd for
object_has fs K (object_part gs q) for = refl

object_for : (all ds : KnownFields) (r : RestTree) (own : KindTree) (o : ObjectTree) → own ≡ rest_kind r → AreKnown own all ds → IsObjectFor ds own o → (n : List ℕ) (p : List Step) (t : Tag) → object_at o n p t ≡ object_at (object_part all r) n p t
object_for all ds r own no_object is known for n p t = absurd for
object_for all ds r own (object_part gs q) is known for n p t =
    ap (λ T. T t) (object_field gs q n p)
    ∙ ap (λ hs. tags_at (field_or hs (rest_kind q) n) p t) for.1
    ∙ ap (λ k. tags_at (field_or ds k n) p t) for.0
    ∙ known.same n p t
    ∙ ap (λ k. tags_at (field_or all k n) p t) is
    ∙ ap (λ T. T t) (sym (object_field all r n p))

object_over : (s : Scalars) (l : ListTree) (all ds : KnownFields) (r : RestTree) (own : KindTree) (o : ObjectTree) → own ≡ rest_kind r → AreKnown own all ds → IsObjectFor ds own o → SameTags (kind s l o) (kind s l (object_part all r))
object_over s l all ds r own o is known for [] t = same_root s l l o (object_part all r) refl (object_has ds own o for) t
object_over s l all ds r own o is known for (place i ∷ p) t = refl
object_over s l all ds r own o is known for (field n ∷ p) t = object_for all ds r own o is known for n p t

-- the kind over the known ones of these fields has the tags that were asked for
pub object_made : (k : KindTree) (s : Scalars) (l : ListTree) (all ds : KnownFields) (r : RestTree) (own : KindTree) (o : ObjectTree) → s ≡ scalars_of k → l ≡ list_tree k → own ≡ rest_kind r → AreKnown own all ds → IsObjectFor ds own o → SameTags (kind s l o) (with_object k all r)
object_made (kind u m q) s l all ds r own o scalars lists is known for =
    subst (λ x. SameTags (kind x l o) (kind u m (object_part all r))) (sym scalars)
    (subst (λ x. SameTags (kind u x o) (kind u m (object_part all r))) (sym lists) (object_over u m all ds r own o is known for))
