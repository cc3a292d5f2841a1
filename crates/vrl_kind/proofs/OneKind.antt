-- Two kinds of the one form that allow the same at every path are one tree.
use Rattle.std.proofs.Common.{◌≡◌, ℕ, zero, suc, ◌+◌, ◌<◌, ◌≤◌, ◌⊎◌, inl, inr, Bool, true, false, List, [], ◌∷◌, length, Ordering, Less, Equal, Greater, nat_cmp, is_eq, bytes_eq, refl, sym, ap, ◌∙◌, subst, arith}
use Rattle.std.proofs.lemmas.Bool.{true≢false}
use Rattle.std.proofs.lemmas.Cmp.{nat_list_cmp_total, tied_itself}
use Rattle.std.proofs.lemmas.Map.Text.{is_eq-slice_cmp}
use Rattle.std.proofs.lemmas.Slice.Eq.{bytes_eq-Decides}
use Rattle.std.specs.Cmp.Lexicographic.{slice_cmp}
use Rattle.std.specs.Ordering.{ordering_reverse}
use Rattle.vrl_value.specs.Look.{Step, field, place}
use Rattle.vrl_value.specs.declared.value.Tag.{Tag}
use Rattle.vrl_value.specs.declared.value.Tag.TheVariants as tag
use Rattle.vrl_kind.specs.KindTree.{KindTree, kind, ListTree, no_list, list_part, ObjectTree, no_object, object_part, RestTree, nothing, json_rest, any_rest, exact, Places, no_places, known_place, KnownFields, no_fields, known_field}
use Rattle.vrl_kind.specs.declared.scalars.Scalars.{Scalars}
use Rattle.vrl_kind.specs.Canonical.{no_scalars, json_scalars, all_scalars, never_kind, json_kind, any_kind, allows_absent, with_absent, bare_rest, rest_kind, place_or, field_or, IsBeforeFields, LastIsNot, NoFieldIs, IsExact, IsCanonical, ListIsCanonical, ObjectIsCanonical, PlacesAreCanonical, FieldsAreCanonical, RestIsCanonical}
use Rattle.vrl_kind.specs.Laws.{EqualTagsAreOneKind}
use Rattle.vrl_kind.specs.Kinds.{tags_at, SameTags, has_list, has_object, list_at, object_at}
use Rattle.vrl_kind.proofs.Ahead.{unknown, not_first}
use Rattle.vrl_kind.proofs.Known.{list_place, object_field}
use Rattle.vrl_kind.proofs.Merging.{one_name, before_through}

-- ---- what holds of each kind
same_sym : (k l : KindTree) → SameTags k l → SameTags l k
same_sym k l same p t = sym (same p t)

scalars_one : (s u : Scalars) (l m : ListTree) (o q : ObjectTree) → SameTags (kind s l o) (kind u m q) → s ≡ u
scalars_one s u l m o q same = λ i. record {
  string = same [] tag.Text i;
  integer = same [] tag.Int i;
  boolean = same [] tag.Bool i;
  null = same [] tag.Null i;
  timestamp = same [] tag.Time i;
  regex = same [] tag.Pattern i;
  absent = same [] tag.Absent i;
}

-- a kind that may be absent is itself with absent
absent_self : (k : KindTree) → tags_at k [] tag.Absent ≡ true → with_absent true k ≡ k
absent_self (kind s l o) is = ap (λ a. kind (record s { absent = a }) l o) (sym is)

absent_true : (k : KindTree) → tags_at (with_absent true k) [] tag.Absent ≡ true
absent_true (kind s l o) = refl

absent_back : (k : KindTree) → allows_absent k ≡ false → with_absent false (with_absent true k) ≡ k
absent_back (kind s l o) a = ap (λ x. kind (record s { absent = x }) l o) (sym a)

-- absent taken off again
absent_off : (k l : KindTree) → allows_absent k ≡ false → allows_absent l ≡ false → with_absent true k ≡ with_absent true l → k ≡ l
absent_off k l a b e = sym (absent_back k a) ∙ ap (with_absent false) e ∙ absent_back l b

absent_on : (k : KindTree) → with_absent true (with_absent false k) ≡ with_absent true k
absent_on (kind s l o) = refl

not_absent_false : (k : KindTree) → allows_absent (with_absent false k) ≡ false
not_absent_false (kind s l o) = refl

canonical_absent : (b : Bool) (k : KindTree) → IsCanonical k → IsCanonical (with_absent b k)
canonical_absent b (kind s l o) canonical = canonical

bare_absent : (k l : KindTree) → allows_absent k ≡ false → allows_absent l ≡ false → SameTags (with_absent true k) (with_absent true l) → SameTags k l
bare_absent (kind s l o) (kind u m q) a b same [] tag.Text = same [] tag.Text
bare_absent (kind s l o) (kind u m q) a b same [] tag.Int = same [] tag.Int
bare_absent (kind s l o) (kind u m q) a b same [] tag.Bool = same [] tag.Bool
bare_absent (kind s l o) (kind u m q) a b same [] tag.Null = same [] tag.Null
bare_absent (kind s l o) (kind u m q) a b same [] tag.Time = same [] tag.Time
bare_absent (kind s l o) (kind u m q) a b same [] tag.Pattern = same [] tag.Pattern
bare_absent (kind s l o) (kind u m q) a b same [] tag.List = same [] tag.List
bare_absent (kind s l o) (kind u m q) a b same [] tag.Object = same [] tag.Object
bare_absent (kind s l o) (kind u m q) a b same [] tag.Absent = a ∙ sym b
bare_absent (kind s l o) (kind u m q) a b same (place i ∷ p) t = same (place i ∷ p) t
bare_absent (kind s l o) (kind u m q) a b same (field n ∷ p) t = same (field n ∷ p) t

-- the kinds of the places, and of the fields, of two parts that allow the same
each_place : (ps qs : Places) (r q : RestTree) → ((i : ℕ) (p : List Step) (t : Tag) → list_at (list_part ps r) i p t ≡ list_at (list_part qs q) i p t) → (i : ℕ) → SameTags (place_or ps (rest_kind r) i) (place_or qs (rest_kind q) i)
each_place ps qs r q same i p t = ap (λ T. T t) (sym (list_place ps r i p)) ∙ same i p t ∙ ap (λ T. T t) (list_place qs q i p)

each_field : (fs gs : KnownFields) (r q : RestTree) → ((n : List ℕ) (p : List Step) (t : Tag) → object_at (object_part fs r) n p t ≡ object_at (object_part gs q) n p t) → (n : List ℕ) → SameTags (field_or fs (rest_kind r) n) (field_or gs (rest_kind q) n)
each_field fs gs r q same n p t = ap (λ T. T t) (sym (object_field fs r n p)) ∙ same n p t ∙ ap (λ T. T t) (object_field gs q n p)

-- ---- a place, and a name, that neither knows
abbrev places_count : Places → ℕ
places_count no_places = 0
places_count (known_place k ps) = places_count ps + 1

place_past : (ps : Places) (K : KindTree) (i : ℕ) → places_count ps ≤ i → place_or ps K i ≡ K
place_past no_places K i past = refl
place_past (known_place k ps) K zero past = absurd (omega arith)
place_past (known_place k ps) K (suc i) past = place_past ps K i (omega arith)

abbrev pub zeros : ℕ → List ℕ
zeros zero = []
zeros (suc n) = 0 ∷ zeros n

pub length-zeros : (n : ℕ) → length (zeros n) ≡ n
length-zeros zero = refl
length-zeros (suc n) = omega (arith, length-zeros n)

abbrev pub names_size : KnownFields → ℕ
names_size no_fields = 0
names_size (known_field m k fs) = length m + names_size fs

differ : (n m : List ℕ) (b : Bool) → bytes_eq n m ≡ b → (n ≡ m → ⊥) → b ≡ false
differ n m true e other = absurd (other ((bytes_eq-Decides n m).0 e))
differ n m false e other = refl

apart : (n m : List ℕ) → (n ≡ m → ⊥) → is_eq (slice_cmp nat_cmp n m) ≡ false
apart n m other = is_eq-slice_cmp n m ∙ differ n m _ refl other

pub field_past : (fs : KnownFields) (K : KindTree) (n : List ℕ) → names_size fs < length n → field_or fs K n ≡ K
field_past no_fields K n long = refl
field_past (known_field m k fs) K n long =
    not_first (slice_cmp nat_cmp n m) k (field_or fs K n) (apart n m (λ e. absurd (omega (arith, ap length e)))) ∙ field_past fs K n (omega arith)

rests_of_places : (ps qs : Places) (K L : KindTree) → ((i : ℕ) → SameTags (place_or ps K i) (place_or qs L i)) → SameTags K L
rests_of_places ps qs K L each =
    let i = places_count ps + places_count qs in
    subst (λ k. SameTags k L) (place_past ps K i (omega arith)) (subst (λ l. SameTags (place_or ps K i) l) (place_past qs L i (omega arith)) (each i))

rests_of_fields : (fs gs : KnownFields) (K L : KindTree) → ((n : List ℕ) → SameTags (field_or fs K n) (field_or gs L n)) → SameTags K L
rests_of_fields fs gs K L each =
    let size = names_size fs + names_size gs + 1 in
    let n = zeros size in
    let long : length (zeros size) ≡ size = length-zeros size in
    subst (λ k. SameTags k L) (field_past fs K n (omega arith)) (subst (λ l. SameTags (field_or fs K n) l) (field_past gs L n (omega arith)) (each n))

-- the kind k, where with absent it is the kind K
from_absent : (K k : KindTree) → tags_at k [] tag.Absent ≡ true → SameTags K k → (SameTags K (with_absent true k) → with_absent true k ≡ K) → k ≡ K
from_absent K k is same back = sym (absent_self k is) ∙ back (subst (SameTags K) (sym (absent_self k is)) same)

rest_absent : (r : RestTree) (k : KindTree) → SameTags (rest_kind r) k → tags_at k [] tag.Absent ≡ true
rest_absent r k same = sym (same [] tag.Absent) ∙ absent_true (bare_rest r)

pub field_here : (n : List ℕ) (k : KindTree) (fs : KnownFields) (K : KindTree) → field_or (known_field n k fs) K n ≡ k
field_here n k fs K = rw (tied_itself nat_list_cmp_total n) refl

behind_other : (m n q : List ℕ) (k l K : KindTree) (fs gs : KnownFields) → is_eq (slice_cmp nat_cmp q m) ≡ false → m ≡ n → SameTags (field_or (known_field m k fs) K q) (field_or (known_field n l gs) K q) → SameTags (field_or fs K q) (field_or gs K q)
behind_other m n q k l K fs gs is name same p t =
    let f : field_or (known_field m k fs) K q ≡ field_or fs K q = not_first (slice_cmp nat_cmp q m) k (field_or fs K q) is in
    let g : field_or (known_field n l gs) K q ≡ field_or gs K q = not_first (slice_cmp nat_cmp q n) l (field_or gs K q) (ap (λ v. is_eq (slice_cmp nat_cmp q v)) (sym name) ∙ is) in
    ap (λ j. tags_at j p t) (sym f) ∙ same p t ∙ ap (λ j. tags_at j p t) g

-- behind two fields of one name both objects say the same
behind : (o : Ordering) (m n q : List ℕ) (k l K : KindTree) (fs gs : KnownFields) → slice_cmp nat_cmp q m ≡ o → m ≡ n → IsBeforeFields m fs → IsBeforeFields n gs → SameTags (field_or (known_field m k fs) K q) (field_or (known_field n l gs) K q) → SameTags (field_or fs K q) (field_or gs K q)
behind Less m n q k l K fs gs is name a b same = behind_other m n q k l K fs gs (ap is_eq is) name same
behind Greater m n q k l K fs gs is name a b same = behind_other m n q k l K fs gs (ap is_eq is) name same
behind Equal m n q k l K fs gs is name a b same =
    let e : q ≡ m = one_name q m is in
    let f : field_or fs K q ≡ K = ap (field_or fs K) e ∙ unknown K m fs a in
    let g : field_or gs K q ≡ K = ap (field_or gs K) (e ∙ name) ∙ unknown K n gs b in
    λ p t. ap (λ j. tags_at j p t) (f ∙ sym g)

pub rest_canonical : (r : RestTree) → RestIsCanonical r → IsCanonical (rest_kind r)
rest_canonical nothing a = (tt, tt)
rest_canonical json_rest a = ((tt, tt, tt), (tt, tt, tt))
rest_canonical any_rest a = ((tt, tt, tt), (tt, tt, tt))
rest_canonical (exact k) a = canonical_absent true k a.0

rest_of_nothing : (q : RestTree) → RestIsCanonical q → rest_kind q ≡ rest_kind nothing → nothing ≡ q
rest_of_nothing nothing b e = refl
rest_of_nothing json_rest b e = absurd (true≢false (ap (λ k. tags_at k [] tag.Text) e))
rest_of_nothing any_rest b e = absurd (true≢false (ap (λ k. tags_at k [] tag.Text) e))
rest_of_nothing (exact k) b e = absurd (b.1.not_never (absent_off k never_kind b.1.not_absent refl e))

rest_of_json : (q : RestTree) → RestIsCanonical q → rest_kind q ≡ rest_kind json_rest → json_rest ≡ q
rest_of_json nothing b e = absurd (true≢false (ap (λ k. tags_at k [] tag.Text) (sym e)))
rest_of_json json_rest b e = refl
rest_of_json any_rest b e = absurd (true≢false (ap (λ k. tags_at k [] tag.Time) e))
rest_of_json (exact k) b e = absurd (b.1.not_json (absent_off k json_kind b.1.not_absent refl e))

rest_of_any : (q : RestTree) → RestIsCanonical q → rest_kind q ≡ rest_kind any_rest → any_rest ≡ q
rest_of_any nothing b e = absurd (true≢false (ap (λ k. tags_at k [] tag.Text) (sym e)))
rest_of_any json_rest b e = absurd (true≢false (ap (λ k. tags_at k [] tag.Time) (sym e)))
rest_of_any any_rest b e = refl
rest_of_any (exact k) b e = absurd (b.1.not_any (absent_off k any_kind b.1.not_absent refl e))

last_tail : (K k : KindTree) (ps : Places) → LastIsNot K (known_place k ps) → LastIsNot K ps
last_tail K k no_places last = tt
last_tail K k (known_place l ps) last = last

-- ---- json and any, which are the same at each level
module _ (s0 : Scalars) (r0 : RestTree) (own : rest_kind r0 ≡ kind s0 (list_part no_places r0) (object_part no_fields r0)) (either : (q : RestTree) → SameTags (rest_kind r0) (rest_kind q) → (q ≡ r0) ⊎ ((k : KindTree) × (q ≡ exact k))) (not_exact : (k : KindTree) → IsExact k → with_absent true k ≡ rest_kind r0 → ⊥) where
  mutual
    whole : (l : KindTree) → IsCanonical l → SameTags (rest_kind r0) (with_absent true l) → with_absent true l ≡ rest_kind r0
    whole (kind u m q) canonical same =
        let now : SameTags (kind s0 (list_part no_places r0) (object_part no_fields r0)) (kind (record u { absent = true }) m q) = subst (λ k. SameTags k (kind (record u { absent = true }) m q)) own same in
        let scalars : record u { absent = true } ≡ s0 = sym (scalars_one s0 (record u { absent = true }) (list_part no_places r0) m (object_part no_fields r0) q now) in
        let lists : m ≡ list_part no_places r0 = whole_list m canonical.0 (now [] tag.List) (λ i p t. now (place i ∷ p) t) in
        let objects : q ≡ object_part no_fields r0 = whole_object q canonical.1 (now [] tag.Object) (λ n p t. now (field n ∷ p) t) in
        (λ i. kind (scalars i) (lists i) (objects i)) ∙ sym own

    whole_list : (m : ListTree) → ListIsCanonical m → true ≡ has_list m → ((i : ℕ) (p : List Step) (t : Tag) → list_at (list_part no_places r0) i p t ≡ list_at m i p t) → m ≡ list_part no_places r0
    whole_list no_list canonical has each = absurd (true≢false has)
    whole_list (list_part qs q) canonical has each =
        let kinds : (i : ℕ) → SameTags (rest_kind r0) (place_or qs (rest_kind q) i) = each_place no_places qs r0 q each in
        let rests : q ≡ r0 = whole_rest q canonical.1 (rests_of_places no_places qs (rest_kind r0) (rest_kind q) kinds) in
        let none : qs ≡ no_places = whole_places qs canonical.0 (λ i. subst (λ r. SameTags (rest_kind r0) (place_or qs (rest_kind r) i)) rests (kinds i)) (subst (λ r. LastIsNot (rest_kind r) qs) rests canonical.2) in
        λ i. list_part (none i) (rests i)

    whole_places : (qs : Places) → PlacesAreCanonical qs → ((i : ℕ) → SameTags (rest_kind r0) (place_or qs (rest_kind r0) i)) → LastIsNot (rest_kind r0) qs → qs ≡ no_places
    whole_places no_places canonical each last = refl
    whole_places (known_place k no_places) canonical each last = absurd (last (from_absent (rest_kind r0) k (rest_absent r0 k (each 0)) (each 0) (whole k canonical.0)))
    whole_places (known_place k (known_place l qs)) canonical each last = absurd (let e = whole_places (known_place l qs) canonical.1 (λ i. each (suc i)) last in cc)

    whole_object : (q : ObjectTree) → ObjectIsCanonical q → true ≡ has_object q → ((n : List ℕ) (p : List Step) (t : Tag) → object_at (object_part no_fields r0) n p t ≡ object_at q n p t) → q ≡ object_part no_fields r0
    whole_object no_object canonical has each = absurd (true≢false has)
    whole_object (object_part gs q) canonical has each =
        let kinds : (n : List ℕ) → SameTags (rest_kind r0) (field_or gs (rest_kind q) n) = each_field no_fields gs r0 q each in
        let rests : q ≡ r0 = whole_rest q canonical.1 (rests_of_fields no_fields gs (rest_kind r0) (rest_kind q) kinds) in
        let none : gs ≡ no_fields = whole_fields gs canonical.0 (λ n. subst (λ r. SameTags (rest_kind r0) (field_or gs (rest_kind r) n)) rests (kinds n)) (subst (λ r. NoFieldIs (rest_kind r) gs) rests canonical.2) in
        λ i. object_part (none i) (rests i)

    whole_fields : (gs : KnownFields) → FieldsAreCanonical gs → ((n : List ℕ) → SameTags (rest_kind r0) (field_or gs (rest_kind r0) n)) → NoFieldIs (rest_kind r0) gs → gs ≡ no_fields
    whole_fields no_fields canonical each known = refl
    whole_fields (known_field n k gs) canonical each known =
        let at : SameTags (rest_kind r0) k = subst (SameTags (rest_kind r0)) (field_here n k gs (rest_kind r0)) (each n) in
        absurd (known.0 (from_absent (rest_kind r0) k (rest_absent r0 k at) at (whole k canonical.1)))

    whole_rest : (q : RestTree) → RestIsCanonical q → SameTags (rest_kind r0) (rest_kind q) → q ≡ r0
    whole_rest nothing canonical same = elim (either nothing same) [ inl e ↦ e | inr w ↦ absurd (cc (w.1)) ]
    whole_rest json_rest canonical same = elim (either json_rest same) [ inl e ↦ e | inr w ↦ absurd (cc (w.1)) ]
    whole_rest any_rest canonical same = elim (either any_rest same) [ inl e ↦ e | inr w ↦ absurd (cc (w.1)) ]
    whole_rest (exact k) canonical same = absurd (not_exact k canonical.1 (whole k canonical.0 same))

  whole_one : (k : KindTree) → IsCanonical k → SameTags (rest_kind r0) k → k ≡ rest_kind r0
  whole_one k canonical same = from_absent (rest_kind r0) k (rest_absent r0 k same) same (whole k canonical)

json_either : (q : RestTree) → SameTags (rest_kind json_rest) (rest_kind q) → (q ≡ json_rest) ⊎ ((k : KindTree) × (q ≡ exact k))
json_either nothing same = absurd (true≢false (same [] tag.Text))
json_either json_rest same = inl refl
json_either any_rest same = absurd (true≢false (sym (same [] tag.Time)))
json_either (exact k) same = inr (k, refl)

any_either : (q : RestTree) → SameTags (rest_kind any_rest) (rest_kind q) → (q ≡ any_rest) ⊎ ((k : KindTree) × (q ≡ exact k))
any_either nothing same = absurd (true≢false (same [] tag.Text))
any_either json_rest same = absurd (true≢false (same [] tag.Time))
any_either any_rest same = inl refl
any_either (exact k) same = inr (k, refl)

one_json : (k : KindTree) → IsCanonical k → SameTags (rest_kind json_rest) k → k ≡ rest_kind json_rest
one_json = whole_one (record json_scalars { absent = true }) json_rest refl json_either (λ k only e. only.not_json (absent_off k json_kind only.not_absent refl e))

one_any : (k : KindTree) → IsCanonical k → SameTags (rest_kind any_rest) k → k ≡ rest_kind any_rest
one_any = whole_one (record all_scalars { absent = true }) any_rest refl any_either (λ k only e. only.not_any (absent_off k any_kind only.not_absent refl e))

no_parts : (l : ListTree) (o : ObjectTree) → false ≡ has_list l → false ≡ has_object o → (s : Scalars) → kind s l o ≡ kind s no_list no_object
no_parts no_list no_object a b s = refl
no_parts (list_part ps r) o a b s = absurd (true≢false (sym a))
no_parts no_list (object_part fs r) a b s = absurd (true≢false (sym b))

one_nothing : (k : KindTree) → SameTags (rest_kind nothing) k → k ≡ rest_kind nothing
one_nothing (kind u m q) same = no_parts m q (same [] tag.List) (same [] tag.Object) u ∙ ap (λ s. kind s no_list no_object) (sym (scalars_one (record no_scalars { absent = true }) u no_list m no_object q same))

-- ---- places and fields over one rest
last_known : (K k : KindTree) (ps : Places) → PlacesAreCanonical (known_place k ps) → ((l : KindTree) → IsCanonical l → SameTags K l → l ≡ K) → ((i : ℕ) → SameTags K (place_or (known_place k ps) K i)) → LastIsNot K (known_place k ps) → ⊥
last_known K k no_places canonical one each last = last (one k canonical.0 (each 0))
last_known K k (known_place l ps) canonical one each last = last_known K l ps canonical.1 one (λ i. each (suc i)) last

fields_cases : (o : Ordering) (m n : List ℕ) (k l K : KindTree) (fs gs : KnownFields) → slice_cmp nat_cmp m n ≡ o → FieldsAreCanonical (known_field m k fs) → FieldsAreCanonical (known_field n l gs) → ((j : KindTree) → IsCanonical j → SameTags K j → j ≡ K)
    → ((q : List ℕ) → SameTags (field_or (known_field m k fs) K q) (field_or (known_field n l gs) K q)) → NoFieldIs K (known_field m k fs) → NoFieldIs K (known_field n l gs)
    → (SameTags k l → k ≡ l) → (((q : List ℕ) → SameTags (field_or fs K q) (field_or gs K q)) → fs ≡ gs) → known_field m k fs ≡ known_field n l gs
fields_cases Less m n k l K fs gs is a b one each known other first others =
    let missing : field_or (known_field n l gs) K m ≡ K = unknown K m (known_field n l gs) (is, before_through m n gs is b.0) in
    let at : SameTags k K = subst (λ j. SameTags j K) (field_here m k fs K) (subst (SameTags (field_or (known_field m k fs) K m)) missing (each m)) in
    absurd (known.0 (one k a.1 (same_sym k K at)))
fields_cases Greater m n k l K fs gs is a b one each known other first others =
    let less : slice_cmp nat_cmp n m ≡ Less = nat_list_cmp_total.antisymm n m ∙ ap ordering_reverse is in
    let missing : field_or (known_field m k fs) K n ≡ K = unknown K n (known_field m k fs) (less, before_through n m fs less a.0) in
    let at : SameTags K l = subst (SameTags K) (field_here n l gs K) (subst (λ j. SameTags j (field_or (known_field n l gs) K n)) missing (each n)) in
    absurd (other.0 (one l b.1 at))
fields_cases Equal m n k l K fs gs is a b one each known other first others =
    let name : m ≡ n = one_name m n is in
    let at : SameTags k l = subst (λ j. SameTags j l) (field_here m k fs K) (subst (SameTags (field_or (known_field m k fs) K m)) (ap (λ q. field_or (known_field q l gs) K m) (sym name) ∙ field_here m l gs K) (each m)) in
    let below : (q : List ℕ) → SameTags (field_or fs K q) (field_or gs K q) = λ q. behind _ m n q k l K fs gs refl name a.0 b.0 (each q) in
    λ i. known_field (name i) (first at i) (others below i)

mutual
  one_kind : (k l : KindTree) → IsCanonical k → IsCanonical l → SameTags k l → k ≡ l
  one_kind (kind s l o) (kind u m q) a b same =
      let scalars : s ≡ u = scalars_one s u l m o q same in
      let lists : l ≡ m = one_list l m a.0 b.0 (same [] tag.List) (λ i p t. same (place i ∷ p) t) in
      let objects : o ≡ q = one_object o q a.1 b.1 (same [] tag.Object) (λ n p t. same (field n ∷ p) t) in
      λ i. kind (scalars i) (lists i) (objects i)

  one_list : (l m : ListTree) → ListIsCanonical l → ListIsCanonical m → has_list l ≡ has_list m → ((i : ℕ) (p : List Step) (t : Tag) → list_at l i p t ≡ list_at m i p t) → l ≡ m
  one_list no_list no_list a b has same = refl
  one_list no_list (list_part qs q) a b has same = absurd (true≢false (sym has))
  one_list (list_part ps r) no_list a b has same = absurd (true≢false has)
  one_list (list_part ps r) (list_part qs q) a b has same =
      let kinds : (i : ℕ) → SameTags (place_or ps (rest_kind r) i) (place_or qs (rest_kind q) i) = each_place ps qs r q same in
      let rests : r ≡ q = one_rest r q a.1 b.1 (rests_of_places ps qs (rest_kind r) (rest_kind q) kinds) in
      let places : ps ≡ qs = one_places ps qs (rest_kind r) a.0 b.0 (is_rest r a.1) (λ i. subst (λ v. SameTags (place_or ps (rest_kind r) i) (place_or qs (rest_kind v) i)) (sym rests) (kinds i)) a.2 (subst (λ v. LastIsNot (rest_kind v) qs) (sym rests) b.2) in
      λ i. list_part (places i) (rests i)

  one_object : (o q : ObjectTree) → ObjectIsCanonical o → ObjectIsCanonical q → has_object o ≡ has_object q → ((n : List ℕ) (p : List Step) (t : Tag) → object_at o n p t ≡ object_at q n p t) → o ≡ q
  one_object no_object no_object a b has same = refl
  one_object no_object (object_part gs q) a b has same = absurd (true≢false (sym has))
  one_object (object_part fs r) no_object a b has same = absurd (true≢false has)
  one_object (object_part fs r) (object_part gs q) a b has same =
      let kinds : (n : List ℕ) → SameTags (field_or fs (rest_kind r) n) (field_or gs (rest_kind q) n) = each_field fs gs r q same in
      let rests : r ≡ q = one_rest r q a.1 b.1 (rests_of_fields fs gs (rest_kind r) (rest_kind q) kinds) in
      let fields : fs ≡ gs = one_fields fs gs (rest_kind r) a.0 b.0 (is_rest r a.1) (λ n. subst (λ v. SameTags (field_or fs (rest_kind r) n) (field_or gs (rest_kind v) n)) (sym rests) (kinds n)) a.2 (subst (λ v. NoFieldIs (rest_kind v) gs) (sym rests) b.2) in
      λ i. object_part (fields i) (rests i)

  one_rest : (r q : RestTree) → RestIsCanonical r → RestIsCanonical q → SameTags (rest_kind r) (rest_kind q) → r ≡ q
  one_rest nothing q a b same = rest_of_nothing q b (one_nothing (rest_kind q) same)
  one_rest json_rest q a b same = rest_of_json q b (one_json (rest_kind q) (rest_canonical q b) same)
  one_rest any_rest q a b same = rest_of_any q b (one_any (rest_kind q) (rest_canonical q b) same)
  one_rest (exact k) nothing a b same = absurd (a.1.not_never (absent_off k never_kind a.1.not_absent refl (one_nothing (with_absent true k) (same_sym (with_absent true k) (rest_kind nothing) same))))
  one_rest (exact k) json_rest a b same = absurd (a.1.not_json (absent_off k json_kind a.1.not_absent refl (one_json (with_absent true k) (canonical_absent true k a.0) (same_sym (with_absent true k) (rest_kind json_rest) same))))
  one_rest (exact k) any_rest a b same = absurd (a.1.not_any (absent_off k any_kind a.1.not_absent refl (one_any (with_absent true k) (canonical_absent true k a.0) (same_sym (with_absent true k) (rest_kind any_rest) same))))
  one_rest (exact k) (exact l) a b same = ap exact (one_kind k l a.0 b.0 (bare_absent k l a.1.not_absent b.1.not_absent same))

  is_rest : (r : RestTree) → RestIsCanonical r → (k : KindTree) → IsCanonical k → SameTags (rest_kind r) k → k ≡ rest_kind r
  is_rest nothing a k b same = one_nothing k same
  is_rest json_rest a k b same = one_json k b same
  is_rest any_rest a k b same = one_any k b same
  is_rest (exact l) a k b same =
      let self : with_absent true k ≡ k = absent_self k (rest_absent (exact l) k same) in
      let bare : SameTags l (with_absent false k) = bare_absent l (with_absent false k) a.1.not_absent (not_absent_false k) (subst (SameTags (with_absent true l)) (sym (absent_on k ∙ self)) same) in
      let found : l ≡ with_absent false k = one_kind l (with_absent false k) a.0 (canonical_absent false k b) bare in
      sym (ap (with_absent true) found ∙ absent_on k ∙ self)

  one_places : (ps qs : Places) (K : KindTree) → PlacesAreCanonical ps → PlacesAreCanonical qs → ((k : KindTree) → IsCanonical k → SameTags K k → k ≡ K) → ((i : ℕ) → SameTags (place_or ps K i) (place_or qs K i)) → LastIsNot K ps → LastIsNot K qs → ps ≡ qs
  one_places no_places no_places K a b one each last other = refl
  one_places no_places (known_place l qs) K a b one each last other = absurd (last_known K l qs b one each other)
  one_places (known_place k ps) no_places K a b one each last other = absurd (last_known K k ps a one (λ i. same_sym (place_or (known_place k ps) K i) K (each i)) last)
  one_places (known_place k ps) (known_place l qs) K a b one each last other =
      let first : k ≡ l = one_kind k l a.0 b.0 (each 0) in
      let others : ps ≡ qs = one_places ps qs K a.1 b.1 one (λ i. each (suc i)) (last_tail K k ps last) (last_tail K l qs other) in
      λ i. known_place (first i) (others i)

  one_fields : (fs gs : KnownFields) (K : KindTree) → FieldsAreCanonical fs → FieldsAreCanonical gs → ((k : KindTree) → IsCanonical k → SameTags K k → k ≡ K) → ((n : List ℕ) → SameTags (field_or fs K n) (field_or gs K n)) → NoFieldIs K fs → NoFieldIs K gs → fs ≡ gs
  one_fields no_fields no_fields K a b one each known other = refl
  one_fields no_fields (known_field n l gs) K a b one each known other = absurd (other.0 (one l b.1 (subst (SameTags K) (field_here n l gs K) (each n))))
  one_fields (known_field m k fs) no_fields K a b one each known other = absurd (known.0 (one k a.1 (same_sym k K (subst (λ j. SameTags j K) (field_here m k fs K) (each m)))))
  one_fields (known_field m k fs) (known_field n l gs) K a b one each known other =
      fields_cases (slice_cmp nat_cmp m n) m n k l K fs gs refl a b one each known other (one_kind k l a.1 b.1) (λ below. one_fields fs gs K a.2 b.2 one below known.1 other.1)

pub equal_tags_are_one_kind : EqualTagsAreOneKind
equal_tags_are_one_kind = one_kind
