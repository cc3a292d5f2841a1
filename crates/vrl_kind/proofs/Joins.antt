-- The join of two kinds, part by part.
use Rattle.std.proofs.Common.{◌≡◌, ℕ, zero, suc, ◌+◌, ◌<◌, ◌≤◌, ◌||◌, ◌⊎◌, inl, inr, Bool, true, false, IsTrue, IfSome, List, [], ◌∷◌, ◌++◌, length, Option, Some, None, length-append, refl, sym, ap, ◌∙◌, subst, arith}
use Rattle.std.proofs.lemmas.Bool.{true≢false}
use Rattle.vrl_value.specs.Look.{Step, field, place, raw_at, tag_found}
use Rattle.vrl_value.specs.Tree.{Tree}
use Rattle.vrl_value.specs.declared.value.Tag.{Tag}
use Rattle.vrl_value.specs.declared.value.Tag.TheVariants as tag
use Rattle.vrl_kind.specs.KindTree.{KindTree, kind, ListTree, no_list, list_part, ObjectTree, no_object, object_part, RestTree, Places, KnownFields}
use Rattle.vrl_kind.specs.declared.scalars.Scalars.{Scalars}
use Rattle.vrl_kind.specs.Canonical.{never_kind, allows_absent, with_absent, bare_rest, rest_kind, place_or, scalars_of, list_tree, object_tree, IsCanonical, PlacesAreCanonical}
use Rattle.vrl_kind.specs.Kinds.{tags_at, Inhabits, IsJoin, IsWithin, list_at}
use Rattle.vrl_kind.specs.Make.{IsListFor, IsObjectFor}
use Rattle.vrl_kind.specs.Parts.{AreCombined, IsListJoin, IsObjectJoin, either_at}
use Rattle.vrl_kind.specs.Scalars.{scalar_union}
use Rattle.vrl_kind.specs.Seen.{covers}
use Rattle.vrl_kind.specs.Tags.{Tags}
use Rattle.vrl_kind.specs.View.{places_view}
use Rattle.vrl_kind.proofs.Inclusion.{side, covers_within}
use Rattle.vrl_kind.proofs.Known.{list_place}
use Rattle.vrl_kind.proofs.Making.{canonical_more}
use Rattle.vrl_kind.proofs.Namewise.{combined_along, object_combined}
use Rattle.vrl_kind.proofs.Slices.{place_beyond}

or_yes : (a b : Bool) → (IsTrue b → IsTrue a) → a ≡ (a || b)
or_yes true b h = refl
or_yes false true h = absurd (true≢false (sym (h refl)))
or_yes false false h = refl

or_swap : (a b : Bool) → (a || b) ≡ (b || a)
or_swap true true = refl
or_swap true false = refl
or_swap false true = refl
or_swap false false = refl

or_first : (a b : Bool) → IsTrue a → IsTrue (a || b)
or_first true b is = refl
or_first false b is = absurd (true≢false (sym is))

or_second : (a b : Bool) → IsTrue b → IsTrue (a || b)
or_second true b is = refl
or_second false b is = is

pub or_both : (a b : Bool) (P : Type 0) → (IsTrue a → P) → (IsTrue b → P) → IsTrue (a || b) → P
or_both true b P f g is = f refl
or_both false b P f g is = g is

-- a join is above both, and below each kind that is
pub join_above : (k l j : KindTree) → IsJoin k l j → IsWithin k j × IsWithin l j
join_above k l j join = (λ p t is. join p t ∙ or_first _ (tags_at l p t) is, λ p t is. join p t ∙ or_second (tags_at k p t) _ is)

pub join_swap : (k l j : KindTree) → IsJoin l k j → IsJoin k l j
join_swap k l j join p t = join p t ∙ or_swap (tags_at l p t) (tags_at k p t)

covered_root : (s u : Scalars) (l m : ListTree) (o q : ObjectTree) (x y z : Bool) → z ≡ (x || y) → IsWithin (with_absent false (kind u m q)) (with_absent false (kind s l o)) → (t : Tag) → tags_at (with_absent z (kind s l o)) [] t ≡ (tags_at (with_absent x (kind s l o)) [] t || tags_at (with_absent y (kind u m q)) [] t)
covered_root s u l m o q x y z is within tag.Text = or_yes _ _ (within [] tag.Text)
covered_root s u l m o q x y z is within tag.Int = or_yes _ _ (within [] tag.Int)
covered_root s u l m o q x y z is within tag.Bool = or_yes _ _ (within [] tag.Bool)
covered_root s u l m o q x y z is within tag.Null = or_yes _ _ (within [] tag.Null)
covered_root s u l m o q x y z is within tag.Time = or_yes _ _ (within [] tag.Time)
covered_root s u l m o q x y z is within tag.Pattern = or_yes _ _ (within [] tag.Pattern)
covered_root s u l m o q x y z is within tag.List = or_yes _ _ (within [] tag.List)
covered_root s u l m o q x y z is within tag.Object = or_yes _ _ (within [] tag.Object)
covered_root s u l m o q x y z is within tag.Absent = is

-- the join with a kind that is within the first is the first
pub join_covered : (k l : KindTree) (x y z : Bool) → z ≡ (x || y) → IsWithin (with_absent false l) (with_absent false k) → IsJoin (with_absent x k) (with_absent y l) (with_absent z k)
join_covered (kind s l o) (kind u m q) x y z is within [] t = covered_root s u l m o q x y z is within t
join_covered (kind s l o) (kind u m q) x y z is within (place i ∷ p) t = or_yes _ _ (within (place i ∷ p) t)
join_covered (kind s l o) (kind u m q) x y z is within (field n ∷ p) t = or_yes _ _ (within (field n ∷ p) t)

pub join_rests : (r q : RestTree) (x y : Bool) (j : KindTree) → covers r q ≡ true → j ≡ with_absent (x || y) (bare_rest r) → IsJoin (with_absent x (bare_rest r)) (with_absent y (bare_rest q)) j
join_rests r q x y j c is = rw is (join_covered (bare_rest r) (bare_rest q) x y (x || y) refl (covers_within q r false false c (λ is. is)))

pub join_rests_other : (r q : RestTree) (x y : Bool) (j : KindTree) → covers q r ≡ true → j ≡ with_absent (x || y) (bare_rest q) → IsJoin (with_absent x (bare_rest r)) (with_absent y (bare_rest q)) j
join_rests_other r q x y j c is = rw is (join_swap _ _ _ (join_covered (bare_rest q) (bare_rest r) y x (x || y) (or_swap x y) (covers_within r q false false c (λ is. is))))

parts_root : (s u : Scalars) (l m j : ListTree) (o q w : ObjectTree) → IsListJoin l m j → IsObjectJoin o q w → (t : Tag) → tags_at (kind (scalar_union s u) j w) [] t ≡ (tags_at (kind s l o) [] t || tags_at (kind u m q) [] t)
parts_root s u l m j o q w lists objects tag.Text = refl
parts_root s u l m j o q w lists objects tag.Int = refl
parts_root s u l m j o q w lists objects tag.Bool = refl
parts_root s u l m j o q w lists objects tag.Null = refl
parts_root s u l m j o q w lists objects tag.Time = refl
parts_root s u l m j o q w lists objects tag.Pattern = refl
parts_root s u l m j o q w lists objects tag.List = lists.outer
parts_root s u l m j o q w lists objects tag.Object = objects.outer
parts_root s u l m j o q w lists objects tag.Absent = refl

parts_at : (s u : Scalars) (l m j : ListTree) (o q w : ObjectTree) → IsListJoin l m j → IsObjectJoin o q w → IsJoin (kind s l o) (kind u m q) (kind (scalar_union s u) j w)
parts_at s u l m j o q w lists objects [] t = parts_root s u l m j o q w lists objects t
parts_at s u l m j o q w lists objects (place i ∷ p) t = lists.inner i p t
parts_at s u l m j o q w lists objects (field n ∷ p) t = objects.inner n p t

-- the join is that of the scalars, of the arrays and of the objects
pub join_parts : (k l : KindTree) (s : Scalars) (j : ListTree) (w : ObjectTree) → s ≡ scalar_union (scalars_of k) (scalars_of l) → IsListJoin (list_tree k) (list_tree l) j → IsObjectJoin (object_tree k) (object_tree l) w → IsJoin k l (kind s j w)
join_parts (kind s l o) (kind u m q) v j w is lists objects = rw is (parts_at s u l m j o q w lists objects)

-- ---- places
place_append_below : (ks : List KindTree) (k K : KindTree) (i : ℕ) → i < length ks → place_or (places_view (ks ++ k ∷ [])) K i ≡ place_or (places_view ks) K i
place_append_below [] k K i below = absurd (omega arith)
place_append_below (x ∷ ks) k K zero below = refl
place_append_below (x ∷ ks) k K (suc i) below = place_append_below ks k K i (omega arith)

place_append_at : (ks : List KindTree) (k K : KindTree) (i : ℕ) → i ≡ length ks → place_or (places_view (ks ++ k ∷ [])) K i ≡ k
place_append_at [] k K i at = rw at refl
place_append_at (x ∷ ks) k K zero at = absurd (omega arith)
place_append_at (x ∷ ks) k K (suc i) at = place_append_at ks k K i (omega arith)

place_any : (ks : List KindTree) (K L : KindTree) (i : ℕ) → i < length ks → place_or (places_view ks) K i ≡ place_or (places_view ks) L i
place_any [] K L i below = absurd (omega arith)
place_any (x ∷ ks) K L zero below = refl
place_any (x ∷ ks) K L (suc i) below = place_any ks K L i (omega arith)

-- the kinds of the first n places of a join
pub record PlacesSoFar (ps qs : Places) (K L : KindTree) (ks : List KindTree) (n : ℕ) : Type 0 where
  pub len : length ks ≡ n
  pub canonical : PlacesAreCanonical (places_view ks)
  pub each : (i : ℕ) → i < n → IsJoin (place_or ps K i) (place_or qs L i) (place_or (places_view ks) never_kind i)

pub places_first : (ps qs : Places) (K L : KindTree) (ks : List KindTree) → ks ≡ [] → PlacesSoFar ps qs K L ks 0
places_first ps qs K L ks none = rw none record { len = refl; canonical = tt; each = λ i below. absurd (omega arith) }

one_more : (ps qs : Places) (K L k : KindTree) (ks : List KindTree) (n : ℕ) → PlacesSoFar ps qs K L ks n → IsJoin (place_or ps K n) (place_or qs L n) k → (i : ℕ) → (i < n) ⊎ (n ≤ i) → i < n + 1 → IsJoin (place_or ps K i) (place_or qs L i) (place_or (places_view (ks ++ k ∷ [])) never_kind i)
one_more ps qs K L k ks n far join i (inl below) above =
    let e : place_or (places_view (ks ++ k ∷ [])) never_kind i ≡ place_or (places_view ks) never_kind i = place_append_below ks k never_kind i (omega (arith, far.len)) in
    subst (λ j. IsJoin (place_or ps K i) (place_or qs L i) j) (sym e) (far.each i below)
one_more ps qs K L k ks n far join i (inr beyond) above =
    let same : n ≡ i = omega arith in
    let e : place_or (places_view (ks ++ k ∷ [])) never_kind i ≡ k = place_append_at ks k never_kind i (omega (arith, far.len)) in
    subst (λ j. IsJoin (place_or ps K i) (place_or qs L i) j) (sym e) (subst (λ m. IsJoin (place_or ps K m) (place_or qs L m) k) same join)

pub places_next : (ps qs : Places) (K L k : KindTree) (ks xs : List KindTree) (n : ℕ) → PlacesSoFar ps qs K L ks n → xs ≡ ks ++ k ∷ [] → IsJoin (place_or ps K n) (place_or qs L n) k → IsCanonical k → PlacesSoFar ps qs K L xs (n + 1)
places_next ps qs K L k ks xs n far is join canonical = rw is record {
  len = omega (arith, far.len, length-append {A = KindTree});
  canonical = canonical_more ks k far.canonical canonical;
  each = λ i below. one_more ps qs K L k ks n far join i (side i n) below;
}

each_join : (ks ls ms : List KindTree) (K L M : KindTree) (n : ℕ) → length ks ≤ n → length ls ≤ n → PlacesSoFar (places_view ks) (places_view ls) K L ms n → IsJoin K L M → (i : ℕ) → (i < n) ⊎ (n ≤ i) → IsJoin (place_or (places_view ks) K i) (place_or (places_view ls) L i) (place_or (places_view ms) M i)
each_join ks ls ms K L M n a b far rest i (inl below) =
    subst (λ j. IsJoin (place_or (places_view ks) K i) (place_or (places_view ls) L i) j) (place_any ms never_kind M i (omega (arith, far.len))) (far.each i below)
each_join ks ls ms K L M n a b far rest i (inr beyond) =
    let e : K ≡ place_or (places_view ks) K i = sym (place_beyond ks K i (omega arith)) in
    let f : L ≡ place_or (places_view ls) L i = sym (place_beyond ls L i (omega arith)) in
    let g : M ≡ place_or (places_view ms) M i = sym (place_beyond ms M i (omega (arith, far.len))) in
    subst (λ k. IsJoin k (place_or (places_view ls) L i) (place_or (places_view ms) M i)) e (subst (λ l. IsJoin K l (place_or (places_view ms) M i)) f (subst (λ j. IsJoin K L j) g rest))

list_join_at : (ks ls ms : List KindTree) (r q s : RestTree) (zs : Places) (M : KindTree) (n : ℕ) → length ks ≤ n → length ls ≤ n → PlacesSoFar (places_view ks) (places_view ls) (rest_kind r) (rest_kind q) ms n → IsJoin (rest_kind r) (rest_kind q) M → rest_kind s ≡ M → ((i : ℕ) → place_or zs M i ≡ place_or (places_view ms) M i) → (i : ℕ) (p : List Step) (t : Tag) → list_at (list_part zs s) i p t ≡ (list_at (list_part (places_view ks) r) i p t || list_at (list_part (places_view ls) q) i p t)
list_join_at ks ls ms r q s zs M n a b far rest own each i p t =
    ap (λ T. T t) (list_place zs s i p)
    ∙ ap (λ k. tags_at (place_or zs k i) p t) own
    ∙ ap (λ k. tags_at k p t) (each i)
    ∙ each_join ks ls ms (rest_kind r) (rest_kind q) M n a b far rest i (side i n) p t
    ∙ sym (ap (λ T. T t || list_at (list_part (places_view ls) q) i p t) (list_place (places_view ks) r i p) ∙ ap (λ T. tags_at (place_or (places_view ks) (rest_kind r) i) p t || T t) (list_place (places_view ls) q i p))

-- the arrays over these places are the join's
pub list_join : (ks ls ms : List KindTree) (r q : RestTree) (l : ListTree) (M : KindTree) (n : ℕ) → length ks ≤ n → length ls ≤ n → PlacesSoFar (places_view ks) (places_view ls) (rest_kind r) (rest_kind q) ms n → IsJoin (rest_kind r) (rest_kind q) M → IsListFor (places_view ms) M l → IsListJoin (list_part (places_view ks) r) (list_part (places_view ls) q) l
list_join ks ls ms r q no_list M n a b far rest for = absurd for
list_join ks ls ms r q (list_part zs s) M n a b far rest for = record { outer = refl; inner = list_join_at ks ls ms r q s zs M n a b far rest for.0 for.1 }

-- the objects over these fields are the join's
pub object_join : (J : KindTree) (r q : RestTree) (fs gs ds : KnownFields) (w : ObjectTree) → AreCombined either_at (rest_kind r) (rest_kind q) J fs gs ds → IsObjectFor ds J w → IsObjectJoin (object_part fs r) (object_part gs q) w
object_join J r q fs gs ds no_object joined for = absurd for
object_join J r q fs gs ds (object_part zs s) joined for = record { outer = refl; inner = object_combined either_at J r q fs gs ds (object_part zs s) joined for }

-- a join over sides that equal these
pub join_along : (k k' l l' j : KindTree) → k ≡ k' → l ≡ l' → IsJoin k l j → IsJoin k' l' j
join_along = combined_along either_at

pub list_join_along : (l l' m m' j : ListTree) → l ≡ l' → m ≡ m' → IsListJoin l m j → IsListJoin l' m' j
list_join_along l l' m m' j e f join = subst (λ v. IsListJoin v m' j) e (subst (λ v. IsListJoin l v j) f join)

pub object_join_along : (l l' m m' j : ObjectTree) → l ≡ l' → m ≡ m' → IsObjectJoin l m j → IsObjectJoin l' m' j
object_join_along l l' m m' j e f join = subst (λ v. IsObjectJoin v m' j) e (subst (λ v. IsObjectJoin l v j) f join)

above_some : (o : Option Tag) (T U : Tags) → ((t : Tag) → IsTrue (T t) → IsTrue (U t)) → IfSome o (λ t. IsTrue (T t)) → IfSome o (λ t. IsTrue (U t))
above_some None T U within is = tt
above_some (Some t) T U within is = within t is

-- a value of a kind is of each kind above it
pub inhabits_above : (v : Tree) (k l : KindTree) → IsWithin k l → Inhabits v k → Inhabits v l
inhabits_above v k l within is p = above_some (tag_found (raw_at v p)) (tags_at k p) (tags_at l p) (within p) (is p)

-- where both sides may be absent the join may
pub rest_absent_at : (k : KindTree) → tags_at (with_absent true k) [] tag.Absent ≡ true
rest_absent_at (kind s l o) = refl

pub join_allows : (j : KindTree) (r q : RestTree) → IsJoin (rest_kind r) (rest_kind q) j → allows_absent j ≡ true
join_allows (kind s l o) r q join = join [] tag.Absent ∙ ap (λ b. b || tags_at (rest_kind q) [] tag.Absent) (rest_absent_at (bare_rest r))
