-- Arrays of one length, as a kind tells them.
use Rattle.std.proofs.Common.{◌≡◌, ℕ, ℤ, zero, suc, ◌+◌, ◌<◌, ◌≤◌, Bool, true, false, ◌||◌, ◌&&◌, not, List, [], ◌∷◌, Option, Some, None, MatchOption, length, refl, sym, ap, ◌∙◌, subst, arith}
use Rattle.std.proofs.lemmas.Bool.{true≢false}
use Rattle.std.specs.List.{list_all}
use Rattle.vrl_value.specs.Look.{Step, place}
use Rattle.vrl_value.specs.declared.value.Tag.{Tag}
use Rattle.vrl_value.specs.declared.value.Tag.TheVariants as tag
use Rattle.vrl_kind.specs.Canonical.{IsCanonical, LastIsNot, ListIsCanonical, RestIsCanonical, allows_absent, list_tree, never_kind, rest_kind}
use Rattle.vrl_kind.specs.KindTree.{KindTree, kind, ListTree, no_list, list_part, ObjectTree, no_object, object_part, RestTree, nothing, json_rest, any_rest, exact, Places, no_places, known_place}
use Rattle.vrl_kind.specs.Kinds.{has_list, has_object, list_at, places_at, rest_at, tags_at}
use Rattle.vrl_kind.specs.Sets.{Sets}
use Rattle.vrl_kind.specs.Tags.{Tags, only}
use Rattle.vrl_kind.specs.View.{places_view}
use Rattle.vrl_path.specs.Read.{place_of}
use Rattle.vrl_place.specs.FromEnd.{HasLength, IsSurePlace}
use Rattle.vrl_place.specs.Inner.{is_nothing, is_sure}
use Rattle.vrl_place.specs.Sets.{is_alone, or_absent_if}
use Rattle.vrl_place.proofs.OneResult.{one_length}
use Rattle.vrl_place.proofs.Tags.{both, first_of_both, left_of, one_of_both, second_of_both}

-- each known place is sure
abbrev all_sure : Places → Bool
all_sure no_places = true
all_sure (known_place k ps) = is_sure k && all_sure ps

all_there : (ks : List KindTree) → list_all is_sure ks ≡ all_sure (places_view ks)
all_there [] = refl
all_there (k ∷ ks) = ap (λ b. is_sure k && b) (all_there ks)

list_root : (K : KindTree) → tags_at K [] tag.List ≡ has_list (list_tree K)
list_root (kind s l o) = refl

tags_place : (K : KindTree) (i : ℕ) (p : List Step) (t : Tag) → tags_at K (place i ∷ p) t ≡ list_at (list_tree K) i p t
tags_place (kind s l o) i p t = refl

-- what HasLength says of an array's places
record CountsTo (ps : Places) (T : Tags) (count : ℕ) : Type 0 where
  pub sure : (i : ℕ) → i < count → places_at ps i [] T tag.Absent ≡ false
  pub behind : (i : ℕ) → count ≤ i → (t : Tag) → places_at ps i [] T t ≡ only tag.Absent t

counted : (K : KindTree) (ps : Places) (r : RestTree) (count : ℕ) → list_tree K ≡ list_part ps r → HasLength (tags_at K) count → CountsTo ps (rest_at r []) count
counted K ps r count is has = record {
  sure = λ i below. ap (λ l. list_at l i [] tag.Absent) (sym is) ∙ sym (tags_place K i [] tag.Absent) ∙ has.sure i below;
  behind = λ i over t. ap (λ l. list_at l i [] t) (sym is) ∙ sym (tags_place K i [] t) ∙ has.behind i over t;
}

abbrev places_count : Places → ℕ
places_count no_places = 0
places_count (known_place k ps) = suc (places_count ps)

place_past : (ps : Places) (T : Tags) (i : ℕ) → places_count ps ≤ i → places_at ps i [] T ≡ T
place_past no_places T i past = refl
place_past (known_place k ps) T zero past = absurd (omega arith)
place_past (known_place k ps) T (suc i) past = place_past ps T i (omega arith)

-- what stands behind the known places is absent
rest_absent : (ps : Places) (T : Tags) (count : ℕ) → CountsTo ps T count → (t : Tag) → T t ≡ only tag.Absent t
rest_absent ps T count is t = ap (λ U. U t) (sym (place_past ps T (count + places_count ps) (omega arith))) ∙ is.behind (count + places_count ps) (omega arith) t

-- a kind with no tag but absent has no part
no_list_there : (l : ListTree) → has_list l ≡ false → l ≡ no_list
no_list_there no_list not = refl
no_list_there (list_part ps r) not = absurd (true≢false not)

no_object_there : (o : ObjectTree) → has_object o ≡ false → o ≡ no_object
no_object_there no_object not = refl
no_object_there (object_part fs r) not = absurd (true≢false not)

absent_kind : (K : KindTree) → ((t : Tag) → tags_at K [] t ≡ only tag.Absent t) → K ≡ rest_kind nothing
absent_kind (kind s l o) same = λ i. kind
    record {
      string = same tag.Text i;
      integer = same tag.Int i;
      boolean = same tag.Bool i;
      null = same tag.Null i;
      timestamp = same tag.Time i;
      regex = same tag.Pattern i;
      absent = same tag.Absent i;
    } (no_list_there l (same tag.List) i) (no_object_there o (same tag.Object) i)

never_at_all : (K : KindTree) → ((t : Tag) → tags_at K [] t ≡ false) → K ≡ never_kind
never_at_all (kind s l o) none = λ i. kind
    record {
      string = none tag.Text i;
      integer = none tag.Int i;
      boolean = none tag.Bool i;
      null = none tag.Null i;
      timestamp = none tag.Time i;
      regex = none tag.Pattern i;
      absent = none tag.Absent i;
    } (no_list_there l (none tag.List) i) (no_object_there o (none tag.Object) i)

first_none : (a b : Bool) → (a || b) ≡ false → a ≡ false
first_none true b h = absurd (true≢false h)
first_none false b h = refl

bare_none : (K : KindTree) → IsCanonical K → tags_at K [] tag.Absent ≡ false → ((t : Tag) → (tags_at K [] t || only tag.Absent t) ≡ only tag.Absent t) → (t : Tag) → tags_at K [] t ≡ false
bare_none K canonical present same tag.Text = first_none _ _ (same tag.Text)
bare_none K canonical present same tag.Int = first_none _ _ (same tag.Int)
bare_none K canonical present same tag.Bool = first_none _ _ (same tag.Bool)
bare_none K canonical present same tag.Null = first_none _ _ (same tag.Null)
bare_none K canonical present same tag.Time = first_none _ _ (same tag.Time)
bare_none K canonical present same tag.Pattern = first_none _ _ (same tag.Pattern)
bare_none K canonical present same tag.List = first_none _ _ (same tag.List)
bare_none K canonical present same tag.Object = first_none _ _ (same tag.Object)
bare_none K canonical present same tag.Absent = present

absent_flag : (K : KindTree) → tags_at K [] tag.Absent ≡ allows_absent K
absent_flag (kind s l o) = refl

rest_nothing : (r : RestTree) → RestIsCanonical r → ((t : Tag) → rest_at r [] t ≡ only tag.Absent t) → is_nothing r ≡ true
rest_nothing nothing canonical same = refl
rest_nothing json_rest canonical same = absurd (true≢false (same tag.Text))
rest_nothing any_rest canonical same = absurd (true≢false (same tag.Text))
rest_nothing (exact K) canonical same =
    absurd (canonical.1.not_never (never_at_all K (bare_none K canonical.0 (absent_flag K ∙ canonical.1.not_absent) same)))

-- the last known place isn't absent alone, so where the places have a length each known one is there
known_there : (ps : Places) (T : Tags) (count : ℕ) → LastIsNot (rest_kind nothing) ps → CountsTo ps T count → all_sure ps ≡ true
known_there no_places T count last is = refl
known_there (known_place k no_places) T zero last is = absurd (last (absent_kind k (is.behind 0 (omega arith))))
known_there (known_place k no_places) T (suc count) last is = both (is_sure k) true (ap not (is.sure 0 (omega arith))) refl
known_there (known_place k (known_place l ps)) T zero last is =
    let there : all_sure (known_place l ps) ≡ true = known_there (known_place l ps) T zero last record { sure = λ i below. is.sure (suc i) (absurd (omega arith)); behind = λ i over. is.behind (suc i) (omega arith) } in
    absurd (true≢false (sym (first_of_both (is_sure l) (all_sure ps) there) ∙ ap not (is.behind 1 (omega arith) tag.Absent)))
known_there (known_place k (known_place l ps)) T (suc count) last is =
    both (is_sure k) (all_sure (known_place l ps)) (ap not (is.sure 0 (omega arith)))
    (known_there (known_place l ps) T count last record { sure = λ i below. is.sure (suc i) (omega arith); behind = λ i over. is.behind (suc i) (omega arith) })

canonical_list : (K : KindTree) → IsCanonical K → ListIsCanonical (list_tree K)
canonical_list (kind s l o) canonical = canonical.0

-- where the arrays have a length, no more than the known places is there, and each of these
places_known : (K : KindTree) (ps : Places) (r : RestTree) (count : ℕ) → IsCanonical K → list_tree K ≡ list_part ps r → HasLength (tags_at K) count → (is_nothing r && all_sure ps) ≡ true
places_known K ps r count canonical is has =
    let lists : ListIsCanonical (list_part ps r) = subst ListIsCanonical is (canonical_list K canonical) in
    let at : CountsTo ps (rest_at r []) count = counted K ps r count is has in
    by_rest r lists at (rest_nothing r lists.1 (rest_absent ps (rest_at r []) count at))
  where
    by_rest : (q : RestTree) → ListIsCanonical (list_part ps q) → CountsTo ps (rest_at q []) count → is_nothing q ≡ true → (is_nothing q && all_sure ps) ≡ true
    by_rest nothing lists at none = known_there ps (rest_at nothing []) count lists.2 at
    by_rest json_rest lists at none = absurd (true≢false (sym none))
    by_rest any_rest lists at none = absurd (true≢false (sym none))
    by_rest (exact k) lists at none = absurd (true≢false (sym none))

pub rest_known : (K : KindTree) (ps : Places) (r : RestTree) (count : ℕ) → IsCanonical K → list_tree K ≡ list_part ps r → HasLength (tags_at K) count → is_nothing r ≡ true
rest_known K ps r count canonical is has = first_of_both (is_nothing r) (all_sure ps) (places_known K ps r count canonical is has)

pub length_known : (K : KindTree) (ks : List KindTree) (r : RestTree) (count : ℕ) → IsCanonical K → list_tree K ≡ list_part (places_view ks) r → HasLength (tags_at K) count → list_all is_sure ks ≡ true
length_known K ks r count canonical is has = all_there ks ∙ second_of_both (is_nothing r) (all_sure (places_view ks)) (places_known K (places_view ks) r count canonical is has)

pub no_arrays : (K : KindTree) (count : ℕ) → list_tree K ≡ no_list → HasLength (tags_at K) count → ⊥
no_arrays K count is has = true≢false (sym has.arrays ∙ list_root K ∙ ap has_list is)

-- and where that is so, the arrays have it
sure_below : (ks : List KindTree) (T : Tags) (i : ℕ) → all_sure (places_view ks) ≡ true → i < length ks → places_at (places_view ks) i [] T tag.Absent ≡ false
sure_below [] T i sure below = absurd (omega arith)
sure_below (k ∷ ks) T zero sure below = off (tags_at k [] tag.Absent) (first_of_both (is_sure k) (all_sure (places_view ks)) sure)
  where
    off : (b : Bool) → not b ≡ true → b ≡ false
    off true h = absurd (true≢false (sym h))
    off false h = refl
sure_below (k ∷ ks) T (suc i) sure below = sure_below ks T i (second_of_both (is_sure k) (all_sure (places_view ks)) sure) (omega arith)

past_all : (ks : List KindTree) (T : Tags) (i : ℕ) → length ks ≤ i → places_at (places_view ks) i [] T ≡ T
past_all [] T i past = refl
past_all (k ∷ ks) T zero past = absurd (omega arith)
past_all (k ∷ ks) T (suc i) past = past_all ks T i (omega arith)

nothing_at : (r : RestTree) → is_nothing r ≡ true → r ≡ nothing
nothing_at nothing is = refl
nothing_at json_rest is = absurd (true≢false (sym is))
nothing_at any_rest is = absurd (true≢false (sym is))
nothing_at (exact k) is = absurd (true≢false (sym is))

pub known_length : (K : KindTree) (ks : List KindTree) (r : RestTree) → list_tree K ≡ list_part (places_view ks) r → is_nothing r ≡ true → list_all is_sure ks ≡ true → HasLength (tags_at K) (length ks)
known_length K ks r is none sure = record {
  arrays = list_root K ∙ ap has_list is;
  sure = λ i below. tags_place K i [] tag.Absent ∙ ap (λ l. list_at l i [] tag.Absent) is ∙ sure_below ks (rest_at r []) i (sym (all_there ks) ∙ sure) below;
  behind = λ i over t.
      tags_place K i [] t ∙ ap (λ l. list_at l i [] t) is ∙ ap (λ T. T t) (past_all ks (rest_at r []) i over) ∙ ap (λ q. rest_at q [] t) (nothing_at r none);
}

-- absent beside the arrays says nothing of their length
and_none : (b : Bool) → (b && false) ≡ true → ⊥
and_none true h = true≢false (sym h)
and_none false h = true≢false (sym h)

with_absent_length : (b : Bool) (A : Sets) (count : ℕ) → HasLength A count → HasLength (or_absent_if b A) count
with_absent_length b A count has = record { arrays = left_of (A [] tag.List) (b && false) has.arrays; sure = has.sure; behind = has.behind }

without_absent_length : (b : Bool) (A : Sets) (count : ℕ) → HasLength (or_absent_if b A) count → HasLength A count
without_absent_length b A count has = record {
  arrays = one_of_both (A [] tag.List) (b && false) (A [] tag.List ≡ true) has.arrays (λ h. h) (λ h. absurd (and_none b h));
  sure = has.sure;
  behind = has.behind;
}

pub length_beside : (o : Option ℕ) (b : Bool) (A : Sets) → MatchOption o ((count : ℕ) → HasLength A count → ⊥) (λ count. HasLength A count)
    → MatchOption o ((count : ℕ) → HasLength (or_absent_if b A) count → ⊥) (λ count. HasLength (or_absent_if b A) count)
length_beside None b A none = λ count has. none count (without_absent_length b A count has)
length_beside (Some count) b A has = with_absent_length b A count has

-- the place from the end, where the length is known
pub sure_if : (o : Option ℕ) (A : Sets) (count : ℕ) (at : ℤ) → is_alone (A []) tag.List ≡ true → HasLength A count → o ≡ place_of count at
    → MatchOption o ((j : ℕ) → IsSurePlace A at j → ⊥) (λ j. IsSurePlace A at j)
sure_if None A count at alone has is = λ j sure. none_some j (is ∙ ap (λ n. place_of n at) (one_length A count sure.count has sure.length) ∙ sure.counted)
  where
    none_some : (k : ℕ) → None ≡ Some k → ⊥
    none_some k e = absurd cc
sure_if (Some j) A count at alone has is = record { alone = alone; count = count; length = has; counted = sym is }
