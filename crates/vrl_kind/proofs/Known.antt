-- What is known of the parts of a kind, in the places and the fields, and in the tags at their paths.
use Rattle.std.proofs.Common.{◌≡◌, ℕ, zero, suc, Bool, true, false, ◌||◌, List, [], ◌∷◌, Ordering, Less, Equal, Greater, nat_cmp, refl, sym, ap, ◌∙◌}
use Rattle.std.specs.Cmp.Lexicographic.{slice_cmp}
use Rattle.std.specs.Ordering.{match_ordering}
use Rattle.vrl_value.specs.Look.{Step, field, place}
use Rattle.vrl_value.specs.declared.value.Tag.{Tag}
use Rattle.vrl_value.specs.declared.value.Tag.TheVariants as tag
use Rattle.vrl_kind.specs.KindTree.{KindTree, kind, ListTree, list_part, ObjectTree, object_part, RestTree, nothing, json_rest, any_rest, exact, Places, no_places, known_place, KnownFields, no_fields, known_field}
use Rattle.vrl_kind.specs.declared.scalars.Scalars.{Scalars}
use Rattle.vrl_kind.specs.Canonical.{never_kind, json_kind, any_kind, rest_kind, with_absent, place_or, field_or}
use Rattle.vrl_kind.specs.Kinds.{tags_at, list_at, object_at, places_at, fields_at, rest_at, never_at, json_at, any_at, or_absent}
use Rattle.vrl_kind.specs.Tags.{Tags, never, any, json, same_tag}

-- sets of tags that agree at every tag are one
pub one_set : (T U : Tags) → ((t : Tag) → T t ≡ U t) → T ≡ U
one_set T U same = λ i t. same t i

or_false : (b : Bool) → (b || false) ≡ b
or_false true = refl
or_false false = refl

or_true : (b : Bool) → true ≡ (b || true)
or_true true = refl
or_true false = refl

-- absent beside the tags at the root
absent_root_at : (k : KindTree) (t : Tag) → tags_at (with_absent true k) [] t ≡ (tags_at k [] t || same_tag tag.Absent t)
absent_root_at (kind s l o) tag.Text = sym (or_false _)
absent_root_at (kind s l o) tag.Int = sym (or_false _)
absent_root_at (kind s l o) tag.Bool = sym (or_false _)
absent_root_at (kind s l o) tag.Null = sym (or_false _)
absent_root_at (kind s l o) tag.Time = sym (or_false _)
absent_root_at (kind s l o) tag.Pattern = sym (or_false _)
absent_root_at (kind s l o) tag.List = sym (or_false _)
absent_root_at (kind s l o) tag.Object = sym (or_false _)
absent_root_at (kind s l o) tag.Absent = or_true s.absent

absent_below : (b : Bool) (k : KindTree) (s : Step) (p : List Step) → tags_at (with_absent b k) (s ∷ p) ≡ tags_at k (s ∷ p)
absent_below b (kind s l o) (field n) p = refl
absent_below b (kind s l o) (place i) p = refl

-- the kind with absent has its tags, with absent beside the first
pub absent_tags : (k : KindTree) (p : List Step) → tags_at (with_absent true k) p ≡ or_absent p (tags_at k p)
absent_tags k [] = one_set _ _ (absent_root_at k)
absent_tags k (s ∷ p) = absent_below true k s p

never_tags_at : (t : Tag) → tags_at never_kind [] t ≡ never t
never_tags_at tag.Text = refl
never_tags_at tag.Int = refl
never_tags_at tag.Bool = refl
never_tags_at tag.Null = refl
never_tags_at tag.Time = refl
never_tags_at tag.Pattern = refl
never_tags_at tag.List = refl
never_tags_at tag.Object = refl
never_tags_at tag.Absent = refl

pub never_tags : (p : List Step) → tags_at never_kind p ≡ never_at p
never_tags [] = one_set _ _ never_tags_at
never_tags (field n ∷ p) = refl
never_tags (place i ∷ p) = refl

json_tags_at : (t : Tag) → tags_at json_kind [] t ≡ json t
json_tags_at tag.Text = refl
json_tags_at tag.Int = refl
json_tags_at tag.Bool = refl
json_tags_at tag.Null = refl
json_tags_at tag.Time = refl
json_tags_at tag.Pattern = refl
json_tags_at tag.List = refl
json_tags_at tag.Object = refl
json_tags_at tag.Absent = refl

pub json_tags : (p : List Step) → tags_at json_kind p ≡ json_at p
json_tags [] = one_set _ _ json_tags_at
json_tags (field n ∷ p) = refl
json_tags (place i ∷ p) = refl

any_tags_at : (t : Tag) → tags_at any_kind [] t ≡ any t
any_tags_at tag.Text = refl
any_tags_at tag.Int = refl
any_tags_at tag.Bool = refl
any_tags_at tag.Null = refl
any_tags_at tag.Time = refl
any_tags_at tag.Pattern = refl
any_tags_at tag.List = refl
any_tags_at tag.Object = refl
any_tags_at tag.Absent = refl

pub any_tags : (p : List Step) → tags_at any_kind p ≡ any_at p
any_tags [] = one_set _ _ any_tags_at
any_tags (field n ∷ p) = refl
any_tags (place i ∷ p) = refl

-- the rest's own kind has the rest's tags
pub rest_tags : (r : RestTree) (p : List Step) → tags_at (rest_kind r) p ≡ rest_at r p
rest_tags nothing p = absent_tags never_kind p ∙ ap (or_absent p) (never_tags p)
rest_tags json_rest p = absent_tags json_kind p ∙ ap (or_absent p) (json_tags p)
rest_tags any_rest p = absent_tags any_kind p ∙ ap (or_absent p) (any_tags p)
rest_tags (exact k) p = absent_tags k p

places_or : (ps : Places) (K : KindTree) (i : ℕ) (p : List Step) → places_at ps i p (tags_at K p) ≡ tags_at (place_or ps K i) p
places_or no_places K i p = refl
places_or (known_place k ps) K zero p = refl
places_or (known_place k ps) K (suc i) p = places_or ps K i p

fields_or_at : (o : Ordering) (k l : KindTree) (p : List Step) (T : Tags) → T ≡ tags_at l p → match_ordering o T (tags_at k p) T ≡ tags_at (match_ordering o l k l) p
fields_or_at Less k l p T e = e
fields_or_at Equal k l p T e = refl
fields_or_at Greater k l p T e = e

pub fields_or : (fs : KnownFields) (K : KindTree) (n : List ℕ) (p : List Step) → fields_at fs n p (tags_at K p) ≡ tags_at (field_or fs K n) p
fields_or no_fields K n p = refl
fields_or (known_field m k fs) K n p = fields_or_at (slice_cmp nat_cmp n m) k (field_or fs K n) p _ (fields_or fs K n p)

-- the tags at a place are those of its kind
pub list_place : (ps : Places) (r : RestTree) (i : ℕ) (p : List Step) → list_at (list_part ps r) i p ≡ tags_at (place_or ps (rest_kind r) i) p
list_place ps r i p = ap (places_at ps i p) (sym (rest_tags r p)) ∙ places_or ps (rest_kind r) i p

-- the tags at a field are those of its kind
pub object_field : (fs : KnownFields) (r : RestTree) (n : List ℕ) (p : List Step) → object_at (object_part fs r) n p ≡ tags_at (field_or fs (rest_kind r) n) p
object_field fs r n p = ap (fields_at fs n p) (sym (rest_tags r p)) ∙ fields_or fs (rest_kind r) n p

-- equal parts make one kind
pub same_parts : (s : Scalars) (l m : ListTree) (o q : ObjectTree) → l ≡ m → o ≡ q → kind s l o ≡ kind s m q
same_parts s l m o q e f = λ i. kind s (e i) (f i)
