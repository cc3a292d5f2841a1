-- The join of all parts of a kind.
use Rattle.std.proofs.Common.{◌≡◌, ℕ, zero, suc, ◌+◌, ◌<◌, ◌≤◌, ◌&&◌, not, ◌⊎◌, inl, inr, Bool, true, false, IsTrue, List, [], ◌∷◌, length, take, get_or, Ordering, Less, Equal, Greater, nat_cmp, refl, sym, ap, ◌∙◌, subst, arith}
use Rattle.std.proofs.lemmas.Bool.{true≢false}
use Rattle.std.specs.Cmp.Lexicographic.{slice_cmp}
use Rattle.std.specs.Ordering.{match_ordering}
use Rattle.vrl_value.specs.Look.{Step, field, place}
use Rattle.vrl_value.specs.declared.value.Tag.{Tag}
use Rattle.vrl_value.specs.declared.value.Tag.TheVariants as tag
use Rattle.vrl_kind.specs.KindTree.{KindTree, kind, ListTree, no_list, list_part, ObjectTree, no_object, object_part, RestTree, KnownFields, no_fields, known_field}
use Rattle.vrl_kind.specs.declared.kind.KindField.{KindField}
use Rattle.vrl_kind.specs.declared.scalars.Scalars.{Scalars}
use Rattle.vrl_kind.specs.Canonical.{never_kind, with_absent, rest_kind, place_or, field_or, list_tree, object_tree, IsBeforeFields}
use Rattle.vrl_kind.specs.Kinds.{tags_at, IsWithin, IsJoin, IsParts, list_at, object_at, is_absence}
use Rattle.vrl_kind.specs.Merge.{FieldsAreSorted}
use Rattle.vrl_kind.specs.Parts.{AddsParts}
use Rattle.vrl_kind.specs.Tags.{Tags}
use Rattle.vrl_kind.specs.View.{places_view, fields_view}
use Rattle.vrl_kind.proofs.Ahead.{greater, passed_over}
use Rattle.vrl_kind.proofs.Inclusion.{none, side}
use Rattle.vrl_kind.proofs.Joins.{join_above, or_both}
use Rattle.vrl_kind.proofs.Known.{list_place, object_field, never_tags}
use Rattle.vrl_kind.proofs.Merging.{one_name}
use Rattle.vrl_kind.proofs.OneKind.{field_here, field_past, zeros, length-zeros, names_size}
use Rattle.vrl_kind.proofs.Shapes.{and_no, and_yes}
use Rattle.vrl_kind.proofs.Slices.{place_known, place_beyond}

-- M has what F does, and what those of these kinds do that were met; each tag of it is from F or from one of the kinds
pub record GathersSoFar {I : Type 0} (kind_of : I → KindTree) (F M : KindTree) (Met : I → Type 0) : Type 0 where
  pub first : IsWithin F M
  pub met : (i : I) → Met i → IsWithin (kind_of i) M
  pub some : (p : List Step) (t : Tag) → IsTrue (tags_at M p t) → IsTrue (tags_at F p t) ⊎ ((i : I) × IsTrue (tags_at (kind_of i) p t))

pub gather_first : {I : Type 0} (kind_of : I → KindTree) (F R M : KindTree) (Met : I → Type 0) (i : I) → kind_of i ≡ R → ((j : I) → Met j → kind_of j ≡ R) → IsJoin F R M → GathersSoFar kind_of F M Met
gather_first kind_of F R M Met i at only join = record {
  first = (join_above F R M join).0;
  met = λ j is. subst (λ k. IsWithin k M) (sym (only j is)) (join_above F R M join).1;
  some = λ p t is. or_both (tags_at F p t) (tags_at R p t) _ (λ x. inl x) (λ y. inr (i, subst (λ k. IsTrue (tags_at k p t)) (sym at) y)) (sym (join p t) ∙ is);
}

pub gather_next : {I : Type 0} (kind_of : I → KindTree) (F M N k : KindTree) (Met Now : I → Type 0) (i : I) → kind_of i ≡ k → ((j : I) → Now j → Met j ⊎ (kind_of j ≡ k)) → GathersSoFar kind_of F M Met → IsJoin M k N → GathersSoFar kind_of F N Now
gather_next kind_of F M N k Met Now i at more far join =
    let above : IsWithin M N = (join_above M k N join).0 in
    let here : IsWithin k N = (join_above M k N join).1 in
    record {
      first = λ p t is. above p t (far.first p t is);
      met = λ j now. elim (more j now) [ inl before ↦ (λ p t is. above p t (far.met j before p t is)) | inr new ↦ (subst (λ v. IsWithin v N) (sym new) here) ];
      some = λ p t is. or_both (tags_at M p t) (tags_at k p t) _ (far.some p t) (λ y. inr (i, subst (λ v. IsTrue (tags_at v p t)) (sym at) y)) (sym (join p t) ∙ is);
    }

pub gather_end : {I : Type 0} (kind_of : I → KindTree) (part_at : I → List Step → Tags) (F M : KindTree) (Met : I → Type 0) → ((i : I) → Met i) → ((i : I) (p : List Step) → part_at i p ≡ tags_at (kind_of i) p) → GathersSoFar kind_of F M Met → AddsParts part_at F M
gather_end kind_of part_at F M Met all same far = record {
  first = far.first;
  each = λ i p t is. far.met i (all i) p t (ap (λ T. T t) (sym (same i p)) ∙ is);
  some = λ p t is. elim (far.some p t is) [ inl x ↦ inl x | inr y ↦ inr (y.0, ap (λ T. T t) (same y.0 p) ∙ y.1) ];
}

-- ---- places
-- the first n places, and those that aren't known
abbrev pub PlaceIsMet : List KindTree → KindTree → ℕ → ℕ → Type 0
PlaceIsMet ks R n i = (i < n) ⊎ (place_or (places_view ks) R i ≡ R)

pub places_first : (ks : List KindTree) (R F M : KindTree) → IsJoin F R M → GathersSoFar (place_or (places_view ks) R) F M (PlaceIsMet ks R 0)
places_first ks R F M join =
    gather_first (place_or (places_view ks) R) F R M _ (length ks) (place_beyond ks R (length ks) (omega arith))
    (λ j is. elim is [ inl below ↦ absurd (omega arith) | inr other ↦ other ]) join

place_more : (ks : List KindTree) (R k : KindTree) (n i : ℕ) → k ≡ place_or (places_view ks) R n → PlaceIsMet ks R (n + 1) i → (i < n) ⊎ (n ≤ i) → PlaceIsMet ks R n i ⊎ (place_or (places_view ks) R i ≡ k)
place_more ks R k n i at (inr other) where_is = inl (inr other)
place_more ks R k n i at (inl below) (inl before) = inl (inl before)
place_more ks R k n i at (inl below) (inr beyond) =
    let same : i ≡ n = omega arith in
    inr (ap (place_or (places_view ks) R) same ∙ sym at)

pub places_next : (ks : List KindTree) (F R M N k : KindTree) (n : ℕ) → n < length ks → k ≡ get_or ks n k → GathersSoFar (place_or (places_view ks) R) F M (PlaceIsMet ks R n) → IsJoin M k N → GathersSoFar (place_or (places_view ks) R) F N (PlaceIsMet ks R (n + 1))
places_next ks F R M N k n below is far join =
    let at : k ≡ place_or (places_view ks) R n = place_known ks R n k below is in
    gather_next (place_or (places_view ks) R) F M N k _ _ n (sym at) (λ j now. place_more ks R k n j at now (side j n)) far join

all_places : (ks : List KindTree) (R : KindTree) (n i : ℕ) → length ks ≤ n → (i < n) ⊎ (n ≤ i) → PlaceIsMet ks R n i
all_places ks R n i all (inl below) = inl below
all_places ks R n i all (inr beyond) = inr (place_beyond ks R i (omega arith))

pub places_end : (ks : List KindTree) (r : RestTree) (F M : KindTree) (n : ℕ) → length ks ≤ n → GathersSoFar (place_or (places_view ks) (rest_kind r)) F M (PlaceIsMet ks (rest_kind r) n) → AddsParts (list_at (list_part (places_view ks) r)) F M
places_end ks r F M n all far = gather_end _ _ F M _ (λ i. all_places ks (rest_kind r) n i all (side i n)) (list_place (places_view ks) r) far

-- ---- fields
-- one of the fields has this name
abbrev pub HasName : KnownFields → List ℕ → Type 0
HasName no_fields q = ⊥
HasName (known_field m k fs) q = (m ≡ q) ⊎ HasName fs q

-- the first n fields, and those that aren't known
abbrev pub FieldIsMet : List KindField → KindTree → ℕ → List ℕ → Type 0
FieldIsMet fs R n q = HasName (fields_view (take n fs)) q ⊎ (field_or (fields_view fs) R q ≡ R)

pub fields_first : (fs : List KindField) (R F M : KindTree) → IsJoin F R M → GathersSoFar (field_or (fields_view fs) R) F M (FieldIsMet fs R 0)
fields_first fs R F M join =
    let size = names_size (fields_view fs) + 1 in
    let long : length (zeros size) ≡ size = length-zeros size in
    gather_first (field_or (fields_view fs) R) F R M _ (zeros size) (field_past (fields_view fs) R (zeros size) (omega arith))
    (λ j is. elim is [ inl has ↦ absurd has | inr other ↦ other ]) join

name_after : (m : List ℕ) (fs : List KindField) (i : ℕ) (f : KindField) → IsBeforeFields m (fields_view fs) → i < length fs → f ≡ get_or fs i f → slice_cmp nat_cmp m f.name ≡ Less
name_after m [] i f before below is = absurd (omega arith)
name_after m (x ∷ fs) zero f before below is = ap (λ g. slice_cmp nat_cmp m g.name) is ∙ before.0
name_after m (x ∷ fs) (suc i) f before below is = name_after m fs i f before.1 (omega arith) is

-- each field is found by its name
named_here : (fs : List KindField) (R : KindTree) (i : ℕ) (f : KindField) → FieldsAreSorted (fields_view fs) → i < length fs → f ≡ get_or fs i f → field_or (fields_view fs) R f.name ≡ f.kind
named_here [] R i f sorted below is = absurd (omega arith)
named_here (x ∷ fs) R zero f sorted below is = subst (λ g. field_or (fields_view (x ∷ fs)) R g.name ≡ g.kind) (sym is) (field_here x.name x.kind (fields_view fs) R)
named_here (x ∷ fs) R (suc i) f sorted below is =
    passed_over R x.kind x.name f.name (fields_view fs) (greater x.name f.name (name_after x.name fs i f sorted.0 (omega arith) is))
    ∙ named_here fs R i f sorted.1 (omega arith) is

has_more : (fs : List KindField) (i : ℕ) (f : KindField) (q : List ℕ) → i < length fs → f ≡ get_or fs i f → HasName (fields_view (take (suc i) fs)) q → HasName (fields_view (take i fs)) q ⊎ (f.name ≡ q)
has_more [] i f q below is has = absurd has
has_more (x ∷ fs) zero f q below is (inl same) = inr (ap (λ g. g.name) is ∙ same)
has_more (x ∷ fs) zero f q below is (inr has) = absurd has
has_more (x ∷ fs) (suc i) f q below is (inl same) = inl (inl same)
has_more (x ∷ fs) (suc i) f q below is (inr has) = elim (has_more fs i f q (omega arith) is has) [ inl before ↦ inl (inr before) | inr new ↦ inr new ]

field_more : (fs : List KindField) (R : KindTree) (n next : ℕ) (f : KindField) (q : List ℕ) → next ≡ suc n → field_or (fields_view fs) R f.name ≡ f.kind → n < length fs → f ≡ get_or fs n f → FieldIsMet fs R next q → FieldIsMet fs R n q ⊎ (field_or (fields_view fs) R q ≡ f.kind)
field_more fs R n next f q e at below is (inr other) = inl (inr other)
field_more fs R n next f q e at below is (inl has) =
    elim (has_more fs n f q below is (subst (λ m. HasName (fields_view (take m fs)) q) e has)) [ inl before ↦ inl (inl before) | inr new ↦ inr (ap (field_or (fields_view fs) R) (sym new) ∙ at) ]

pub fields_next : (fs : List KindField) (F R M N : KindTree) (f : KindField) (n next : ℕ) → next ≡ suc n → FieldsAreSorted (fields_view fs) → n < length fs → f ≡ get_or fs n f → GathersSoFar (field_or (fields_view fs) R) F M (FieldIsMet fs R n) → IsJoin M f.kind N → GathersSoFar (field_or (fields_view fs) R) F N (FieldIsMet fs R next)
fields_next fs F R M N f n next e sorted below is far join =
    let at : field_or (fields_view fs) R f.name ≡ f.kind = named_here fs R n f sorted below is in
    gather_next (field_or (fields_view fs) R) F M N f.kind _ _ f.name at (λ q now. field_more fs R n next f q e at below is now) far join

known_at : (o : Ordering) (m q : List ℕ) (k K R : KindTree) (fs : KnownFields) → slice_cmp nat_cmp q m ≡ o → HasName fs q ⊎ (K ≡ R) → HasName (known_field m k fs) q ⊎ (match_ordering o K k K ≡ R)
known_at Less m q k K R fs is (inl has) = inl (inr has)
known_at Less m q k K R fs is (inr other) = inr other
known_at Greater m q k K R fs is (inl has) = inl (inr has)
known_at Greater m q k K R fs is (inr other) = inr other
known_at Equal m q k K R fs is rest = inl (inl (sym (one_name q m is)))

pub known_name : (fs : KnownFields) (R : KindTree) (q : List ℕ) → HasName fs q ⊎ (field_or fs R q ≡ R)
known_name no_fields R q = inr refl
known_name (known_field m k fs) R q = known_at (slice_cmp nat_cmp q m) m q k (field_or fs R q) R fs refl (known_name fs R q)

pub fields_end : (fs : List KindField) (r : RestTree) (F M : KindTree) (n : ℕ) → take n fs ≡ fs → GathersSoFar (field_or (fields_view fs) (rest_kind r)) F M (FieldIsMet fs (rest_kind r) n) → AddsParts (object_at (object_part (fields_view fs) r)) F M
fields_end fs r F M n all far = gather_end _ _ F M _ (λ q. subst (λ xs. HasName (fields_view xs) q ⊎ (field_or (fields_view fs) (rest_kind r) q ≡ rest_kind r)) (sym all) (known_name (fields_view fs) (rest_kind r) q)) (object_field (fields_view fs) r) far

-- ---- both
pub no_places_added : (l : ListTree) (F : KindTree) → l ≡ no_list → AddsParts (list_at l) F F
no_places_added l F is = rw is record { first = λ p t has. has; each = λ i p t has. none _ has; some = λ p t has. inl has }

pub no_fields_added : (o : ObjectTree) (F : KindTree) → o ≡ no_object → AddsParts (object_at o) F F
no_fields_added o F is = rw is record { first = λ p t has. has; each = λ i p t has. none _ has; some = λ p t has. inl has }

absent_taken_at : (k : KindTree) (t : Tag) → tags_at (with_absent false k) [] t ≡ (tags_at k [] t && not (is_absence [] t))
absent_taken_at (kind s l o) tag.Text = and_yes _
absent_taken_at (kind s l o) tag.Int = and_yes _
absent_taken_at (kind s l o) tag.Bool = and_yes _
absent_taken_at (kind s l o) tag.Null = and_yes _
absent_taken_at (kind s l o) tag.Time = and_yes _
absent_taken_at (kind s l o) tag.Pattern = and_yes _
absent_taken_at (kind s l o) tag.List = and_yes _
absent_taken_at (kind s l o) tag.Object = and_yes _
absent_taken_at (kind s l o) tag.Absent = and_no _

-- absent taken off
absent_taken : (k : KindTree) (p : List Step) (t : Tag) → tags_at (with_absent false k) p t ≡ (tags_at k p t && not (is_absence p t))
absent_taken k [] t = absent_taken_at k t
absent_taken (kind s l o) (place i ∷ p) t = and_yes _
absent_taken (kind s l o) (field n ∷ p) t = and_yes _

pub and_from : (a b : Bool) → IsTrue (a && b) → IsTrue a × IsTrue b
and_from true b is = (refl, is)
and_from false b is = none _ is

pub and_both : (a b : Bool) → IsTrue a → IsTrue b → IsTrue (a && b)
and_both true b x y = y
and_both false b x y = none _ x

never_none : (p : List Step) (t : Tag) → IsTrue (tags_at never_kind p t) → ⊥
never_none p t is = true≢false (sym is ∙ ap (λ T. T t) (never_tags p))

some_part : (s : Scalars) (l : ListTree) (o : ObjectTree) (P A : KindTree) → AddsParts (list_at l) never_kind P → AddsParts (object_at o) P A → (p : List Step) (t : Tag) → IsTrue (tags_at A p t) → (v : Step) × IsTrue (tags_at (kind s l o) (v ∷ p) t)
some_part s l o P A places fields p t is =
    elim (fields.some p t is) [ inl x ↦ elim (places.some p t x) [ inl y ↦ absurd (never_none p t y) | inr z ↦ (place z.0, z.1) ] | inr w ↦ (field w.0, w.1) ]

each_part : (s : Scalars) (l : ListTree) (o : ObjectTree) (P A : KindTree) → AddsParts (list_at l) never_kind P → AddsParts (object_at o) P A → (p : List Step) (t : Tag) (v : Step) → IsTrue (tags_at (kind s l o) (v ∷ p) t) → IsTrue (tags_at A p t)
each_part s l o P A places fields p t (place i) is = fields.first p t (places.each i p t is)
each_part s l o P A places fields p t (field n) is = fields.each n p t is

all_parts_at : (s : Scalars) (l : ListTree) (o : ObjectTree) (P A : KindTree) → AddsParts (list_at l) never_kind P → AddsParts (object_at o) P A → IsParts (kind s l o) (with_absent false A)
all_parts_at s l o P A places fields p t = (
  λ is. let both = and_from (tags_at A p t) _ (sym (absent_taken A p t) ∙ is) in (some_part s l o P A places fields p t both.0, both.1),
  λ is. absent_taken A p t ∙ and_both (tags_at A p t) _ (each_part s l o P A places fields p t is.0.0 is.0.1) is.1,
)

-- the join of all places and of all fields, without absent
pub all_parts : (K F P A : KindTree) (l : ListTree) (o : ObjectTree) → F ≡ never_kind → l ≡ list_tree K → o ≡ object_tree K → AddsParts (list_at l) F P → AddsParts (object_at o) P A → IsParts K (with_absent false A)
all_parts (kind s l o) F P A m q never lists objects places fields =
    all_parts_at s l o P A (subst (λ v. AddsParts (list_at v) never_kind P) lists (subst (λ v. AddsParts (list_at m) v P) never places)) (subst (λ v. AddsParts (object_at v) P A) objects fields)
