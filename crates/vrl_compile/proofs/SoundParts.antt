-- The parts of a collection have the kinds of a closure's names, and what is made of them and of the values that the runs gave is of the kind of the call.
use Rattle.std.proofs.Common.{◌≡◌, ℕ, zero, suc, ◌+◌, pos, Bool, true, false, ◌&&◌, ◌||◌, List, [], ◌∷◌, map, Option, Some, None, IfSome, IsTrue, Decides, option_map, Ordering, Less, Equal, Greater, bytes_eq, if◌then◌else◌, refl, sym, ap, ◌∙◌, subst, arith, add-zero}
use Rattle.std.specs.Prelude.{⊤}
use Rattle.std.specs.Cmp.Lexicographic.{slice_cmp}
use Rattle.std.specs.FinMap.{nat_cmp-IsAntisymmetric, slice_cmp-IsAntisymmetric}
use Rattle.std.specs.Ordering.{match_ordering, nat_cmp}
use Rattle.std.proofs.lemmas.Bool.{and_from, and_parts, false≢true, or_left, or_right, true≢false}
use Rattle.std.proofs.lemmas.Cmp.{nat_list_cmp_total, tied_itself}
use Rattle.std.proofs.lemmas.Option.{IfSome_then}
use Rattle.std.proofs.lemmas.Slice.Eq.{bytes_eq-Decides}
use Rattle.vrl_value.specs.Laws.{MembersAreMaps}
use Rattle.vrl_value.specs.Look.{Step, field, place, there, found_behind, found_if, item_at, part_at, raw_at, tag_found}
use Rattle.vrl_value.specs.Regexes.{items_regexes_below, members_regexes_below, regexes_below}
use Rattle.vrl_value.specs.Tag.{tag_of}
use Rattle.vrl_value.specs.Tree.{Tree, string, integer, null, array as items, object as members, Items, no_items, item, Members, no_members, member, find, put, IsBefore, ItemsAreOrdered, MembersAreOrdered}
use Rattle.vrl_value.specs.View.{items_of_trees}
use Rattle.vrl_value.specs.declared.value.Tag.{Tag}
use Rattle.vrl_value.specs.declared.value.Tag.TheVariants as tag
use Rattle.vrl_syntax.specs.Calls.{for_names, is_closure_form}
use Rattle.vrl_syntax.specs.Tree.{Exprs}
use Rattle.vrl_syntax.specs.declared.call_form.CallForm.{CallForm}
use Rattle.vrl_syntax.specs.declared.call_form.CallForm.TheVariants as form
use Rattle.vrl_kind.specs.KindTree.{KindTree, kind}
use Rattle.vrl_kind.specs.Kinds.{is_absence, or_absent, root_tags, tags_at, Inhabits}
use Rattle.vrl_kind.specs.PartSets.{parts_at}
use Rattle.vrl_kind.specs.Sets.{IsAllowed, Sets}
use Rattle.vrl_kind.specs.Tags.{Tags, only, same_tag}
use Rattle.vrl_place.specs.Sets.{is_alone}
use Rattle.vrl_state.specs.States.{IsCutOf}
use Rattle.vrl_state.specs.Stores.{AreOfKinds, FitsKnown, Store}
use Rattle.vrl_builtin.specs.Containers.{object_of}
use Rattle.vrl_builtin.specs.PartKinds.{arrays_alone}
use Rattle.vrl_builtin.specs.TagSets.{allows}
use Rattle.vrl_binding.specs.Binding.{collections}
use Rattle.vrl_store.specs.Operators.{is_true}
use Rattle.vrl_store.specs.WellFormed.{AreWellFormed, IsWellFormed}
use Rattle.vrl_judge.specs.Closures.{call_at, filtered_at, is_possible, is_wrong_body, key_tags, mapped_at, mapped_part}
use Rattle.vrl_judge.specs.Rules.{Judgement, scalars_at, some_tag}
use Rattle.vrl_check.specs.Judgement.{body_of}
use Rattle.vrl_resolve.specs.Calls.{made_of, renamed_or_else}
use Rattle.vrl_resolve.specs.Iteration.{filtered, given_by, kept_items, kept_members, new_members, parts_by_name, parts_from, parts_in, renamed, with_values}
use Rattle.vrl_compile.specs.Sound.{IsSoundOutcome}
use Rattle.vrl_compile.specs.SoundLaws.{Laws}
use Rattle.vrl_compile.proofs.SoundCalls.{within_is_sound}
use Rattle.vrl_compile.proofs.SoundRuns.{AreResults, AreRunWith, IsResult}
use Rattle.vrl_compile.proofs.SoundTags.{not_alone, some_tag-intro, tag_there}
use Rattle.vrl_compile.proofs.SoundValues.{of_scalars, HasNoPart}

-- ---- what is found at a name

-- nothing, at one that is before all others
found_nowhere : (k : List ℕ) (ms : Members) → IsBefore k ms → find k ms ≡ None
found_nowhere k no_members before = refl
found_nowhere k (member l u ms) before = ap (λ o. match_ordering o (find k ms) (Some u) (find k ms)) before.0 ∙ found_nowhere k ms before.1

found_first : (l : List ℕ) (u : Tree) (ms : Members) → find l (member l u ms) ≡ Some u
found_first l u ms = ap (λ o. match_ordering o (find l ms) (Some u) (find l ms)) (tied_itself nat_list_cmp_total l)

-- and what stands behind the first of them
found_later : (l : List ℕ) (u : Tree) (ms : Members) (k : List ℕ) (w : Tree) → IsBefore l ms → find k ms ≡ Some w → find k (member l u ms) ≡ Some w
found_later l u ms k w before found = by (slice_cmp nat_cmp k l) refl where
  by : (o : Ordering) → slice_cmp nat_cmp k l ≡ o → match_ordering o (find k ms) (Some u) (find k ms) ≡ Some w
  by Less is = found
  by Greater is = found
  by Equal is =
      let same : k ≡ l = slice_cmp-IsAntisymmetric nat_cmp-IsAntisymmetric k l is in
      let wrong : None ≡ Some w = sym (found_nowhere l ms before) ∙ ap (λ x. find x ms) (sym same) ∙ found in
      absurd cc

-- ---- each part, with its key

abbrev EachPart : (Tree → Tree → Type 0) → List (Tree × Tree) → Type 0
EachPart P [] = ⊤
EachPart P (p ∷ ps) = P p.0 p.1 × EachPart P ps

record IsPartOf (count : ℕ) (v u : Tree) : Type 0 where
  step : Step
  found : part_at v step ≡ there u
  well : IsWellFormed count u

-- what holds of each part with its place
each_item : (count : ℕ) (P : Tree → Tree → Type 0) (all : Items) (n : ℕ) (ts : Items) → ((k : ℕ) → item_at (n + k) all ≡ item_at k ts) → ItemsAreOrdered ts → IsTrue (items_regexes_below count ts) → ((i : ℕ) (u : Tree) → IsPartOf count (items all) u → P (integer (pos i)) u)
    → EachPart P (parts_from n ts)
each_item count P all n no_items rest ordered below holds = tt
each_item count P all n (item u ts) rest ordered below holds =
    let parts = and_parts (regexes_below count u) (items_regexes_below count ts) below in
    let here : item_at n all ≡ Some u = ap (λ i. item_at i all) (sym (add-zero n)) ∙ rest zero in (
      holds n u (record { step = place n; found = ap found_if here; well = record { ordered = ordered.0; below = parts.0 } }),
      each_item count P all (suc n) ts (λ k. let same : suc n + k ≡ n + suc k = omega arith in ap (λ i. item_at i all) same ∙ rest (suc k)) ordered.1 parts.1 holds,
    )

-- and of each with its name
each_member : (count : ℕ) (P : Tree → Tree → Type 0) (all ms : Members) → MembersAreOrdered ms → IsTrue (members_regexes_below count ms) → ((k : List ℕ) (u : Tree) → find k ms ≡ Some u → find k all ≡ Some u)
    → ((k : List ℕ) (u : Tree) → IsPartOf count (members all) u → P (string k) u) → EachPart P (parts_by_name ms)
each_member count P all no_members ordered below within holds = tt
each_member count P all (member l u ms) ordered below within holds =
    let parts = and_parts (regexes_below count u) (members_regexes_below count ms) below in (
      holds l u (record { step = field l; found = ap found_if (within l u (found_first l u ms)); well = record { ordered = ordered.1; below = parts.0 } }),
      each_member count P all ms ordered.2 parts.1 (λ k w found. within k w (found_later l u ms k w ordered.0 found)) holds,
    )

-- ---- what the names stand for

record IsGivenPart (count : ℕ) (K V : KindTree) (key u : Tree) : Type 0 where
  key_kind : Inhabits key K
  part_kind : Inhabits u V
  key_well : IsWellFormed count key
  well : IsWellFormed count u

place_key : (C : KindTree) → IsTrue (root_tags C tag.List) → IsTrue (key_tags C tag.Int)
place_key C list = or_right (root_tags C tag.Object && false) (root_tags C tag.List && true) (and_from (root_tags C tag.List) true list refl)

name_key : (C : KindTree) → IsTrue (root_tags C tag.Object) → IsTrue (key_tags C tag.Text)
name_key C object = or_left (root_tags C tag.Object && true) (root_tags C tag.List && false) (and_from (root_tags C tag.Object) true object refl)

module _ (laws : Laws) (count : ℕ) (C K V : KindTree) (keys : IsCutOf (scalars_at (key_tags C)) K) (values : IsCutOf (parts_at C) V) where
  given_part : (key v u : Tree) → HasNoPart key → IsTrue (key_tags C (tag_of key)) → IsWellFormed count key → Inhabits v C → IsPartOf count v u → IsGivenPart count K V key u
  given_part key v u none allowed formed of_kind is = record {
    key_kind = of_scalars laws.cuts key (key_tags C) K keys none allowed;
    part_kind = laws.cuts u (parts_at C) V values (laws.parts v u is.step C of_kind is.found);
    key_well = formed;
    well = is.well;
  }

  given_parts : (v : Tree) → Inhabits v C → IsWellFormed count v → EachPart (IsGivenPart count K V) (parts_in v)
  given_parts (items ts) of_kind well =
      each_item count (IsGivenPart count K V) ts 0 ts (λ k. let same : 0 + k ≡ k = omega arith in ap (λ i. item_at i ts) same) well.ordered well.below
      (λ i u is. given_part (integer (pos i)) (items ts) u (λ s. refl) (place_key C (of_kind [])) (record { ordered = tt; below = refl }) of_kind is)
  given_parts (members ms) of_kind well =
      each_member count (IsGivenPart count K V) ms ms well.ordered well.below (λ k u found. found)
      (λ k u is. given_part (string k) (members ms) u (λ s. refl) (name_key C (of_kind [])) (record { ordered = tt; below = refl }) of_kind is)
  given_parts v of_kind well = tt

-- where there is a part, some tag is possible
part_possible : (V : KindTree) (u : Tree) → Inhabits u V → is_possible V ≡ true
unfolding some_tag
part_possible V u of_kind = some_tag-intro (λ t. root_tags V t && true) (tag_of u) (and_from (root_tags V (tag_of u)) true (of_kind []) refl)

given_names : (count : ℕ) (f : CallForm) (K V : KindTree) (key u : Tree) → IsGivenPart count K V key u → AreOfKinds (for_names f key u) (for_names f K V) × AreWellFormed count (for_names f key u)
given_names count form.ForEach K V key u is = ((is.key_kind, (is.part_kind, tt)), (is.key_well, (is.well, tt)))
given_names count form.Filter K V key u is = ((is.key_kind, (is.part_kind, tt)), (is.key_well, (is.well, tt)))
given_names count form.MapValues K V key u is = ((is.part_kind, tt), (is.well, tt))
given_names count form.MapKeys K V key u is = ((is.key_kind, tt), (is.key_well, tt))
given_names count f K V key u is = (tt, tt)

all_given : (count : ℕ) (f : CallForm) (names : List (List ℕ)) (es : Exprs) (K V : KindTree) (ps : List (Tree × Tree)) → EachPart (IsGivenPart count K V) ps → AreRunWith count (body_of f names es K V) (map (λ p. for_names f p.0 p.1) ps)
all_given count f names es K V [] are = tt
all_given count f names es K V (p ∷ ps) are =
    let given = given_names count f K V p.0 p.1 are.0 in
    (record { possible = part_possible V p.1 are.0.part_kind; kinds = given.0; well = given.1 }, all_given count f names es K V ps are.1)

-- the body is run with values of the kinds of its names
pub collection_given : Laws → (count : ℕ) (f : CallForm) (names : List (List ℕ)) (es : Exprs) (C K V : KindTree) (v : Tree) → IsCutOf (scalars_at (key_tags C)) K → IsCutOf (parts_at C) V → Inhabits v C → IsWellFormed count v
    → AreRunWith count (body_of f names es K V) (given_by f v)
collection_given laws count f names es C K V v keys values of_kind well = all_given count f names es K V (parts_in v) (given_parts laws count C K V keys values v of_kind well)

-- ---- sets at steps

-- a value without parts is allowed where its tag is
alone_allowed : (v : Tree) (A : Sets) → HasNoPart v → IsTrue (A [] (tag_of v)) → IsAllowed v A
alone_allowed v A none root [] = root
alone_allowed v A none root (s ∷ p) = rw (none s) tt

in_container : (root : Bool) (found : Option Tag) (T : Tags) → root ≡ true → IfSome found (λ t. IsTrue (T t)) → IfSome found (λ t. IsTrue (root && T t))
in_container root found T is allowed = IfSome_then found allowed (λ t h. and_from root (T t) is h)

or_absent_more : (p : List Step) (T : Tags) (t : Tag) → IsTrue (T t) → IsTrue (or_absent p T t)
or_absent_more [] T t is = or_left (T t) (only tag.Absent t) is
or_absent_more (s ∷ p) T t is = is

-- a part that may be absent, and what stands behind it
may_be_absent : (found : Option Tree) (p : List Step) (A : Sets) → IfSome found (λ u. IsAllowed u A) → IfSome (tag_found (found_behind (found_if found) p (λ u. raw_at u p))) (λ t. IsTrue (or_absent p (A p) t))
may_be_absent None [] A allowed = or_right (A [] tag.Absent) true refl
may_be_absent None (s ∷ p) A allowed = tt
may_be_absent (Some u) p A allowed = IfSome_then (tag_found (raw_at u p)) (allowed p) (λ t h. or_absent_more p (A p) t h)

where_found : (found : Option Tree) (P : Tree → Type 0) → ((u : Tree) → found ≡ Some u → P u) → IfSome found P
where_found None P holds = tt
where_found (Some u) P holds = holds u refl

-- ---- what a filter keeps

array_alone : (ts : Items) (C : KindTree) → Inhabits (items ts) C → Inhabits (items ts) (arrays_alone C)
array_alone ts (kind s l o) of_kind [] = of_kind []
array_alone ts (kind s l o) of_kind (place i ∷ p) = of_kind (place i ∷ p)
array_alone ts (kind s l o) of_kind (field n ∷ p) = tt

abbrev IsAmong : Tree → Items → Type 0
IsAmong u ts = (k : ℕ) × (item_at k ts ≡ Some u)

kept_or_not : (b : Bool) (v u : Tree) (ts kept : Items) → ((i : ℕ) → item_at i kept ≡ Some u → IsAmong u ts) → (i : ℕ) → item_at i (if b then item v kept else kept) ≡ Some u → IsAmong u (item v ts)
kept_or_not true v u ts kept later zero is = (zero, is)
kept_or_not true v u ts kept later (suc i) is = let among = later i is in (suc among.0, among.1)
kept_or_not false v u ts kept later i is = let among = later i is in (suc among.0, among.1)

kept_item : (ts : Items) (rs : List Tree) (u : Tree) (i : ℕ) → item_at i (kept_items ts rs) ≡ Some u → IsAmong u ts
kept_item no_items rs u i is = absurd cc
kept_item (item v ts) [] u i is = absurd cc
kept_item (item v ts) (r ∷ rs) u i is = kept_or_not (is_true r) v u ts (kept_items ts rs) (λ k found. kept_item ts rs u k found) i is

array_filtered : Laws → (ts : Items) (rs : List Tree) (C : KindTree) → Inhabits (items ts) C → IsAllowed (items (kept_items ts rs)) (filtered_at C)
array_filtered laws ts rs C of_kind [] = of_kind []
array_filtered laws ts rs C of_kind (place i ∷ p) =
    let found = item_at i (kept_items ts rs) in
    let A = parts_at (arrays_alone C) in
    in_container (root_tags C tag.List) (tag_found (found_behind (found_if found) p (λ u. raw_at u p))) (or_absent p (A p)) (of_kind [])
    (may_be_absent found p A (where_found found (λ u. IsAllowed u A) (λ u is.
    let among = kept_item ts rs u i is in
    laws.parts (items ts) u (place among.0) (arrays_alone C) (array_alone ts C of_kind) (ap found_if among.1))))
array_filtered laws ts rs C of_kind (field n ∷ p) = tt

kept_by : (b : Bool) (k : List ℕ) (v : Tree) (ms kept : Members) (n : List ℕ) (u : Tree) → IsBefore k ms → (find n kept ≡ Some u → find n ms ≡ Some u) → find n (if b then member k v kept else kept) ≡ Some u → find n (member k v ms) ≡ Some u
kept_by true k v ms kept n u before later is = by (slice_cmp nat_cmp n k) is where
  by : (o : Ordering) → match_ordering o (find n kept) (Some v) (find n kept) ≡ Some u → match_ordering o (find n ms) (Some v) (find n ms) ≡ Some u
  by Less found = later found
  by Equal found = found
  by Greater found = later found
kept_by false k v ms kept n u before later is = found_later k v ms n u before (later is)

kept_member : (ms : Members) (rs : List Tree) → MembersAreOrdered ms → (n : List ℕ) (u : Tree) → find n (kept_members ms rs) ≡ Some u → find n ms ≡ Some u
kept_member no_members rs ordered n u is = absurd cc
kept_member (member k v ms) [] ordered n u is = absurd cc
kept_member (member k v ms) (r ∷ rs) ordered n u is = kept_by (is_true r) k v ms (kept_members ms rs) n u ordered.0 (λ found. kept_member ms rs ordered.2 n u found) is

behind_field : (C : KindTree) (n : List ℕ) (ms : Members) (u : Tree) → Inhabits (members ms) C → find n ms ≡ Some u → IsAllowed u (λ p. tags_at C (field n ∷ p))
behind_field C n ms u of_kind is p = subst (λ found. IfSome (tag_found (found_behind (found_if found) p (λ w. raw_at w p))) (λ t. IsTrue (tags_at C (field n ∷ p) t))) is (of_kind (field n ∷ p))

object_filtered : (ms : Members) (rs : List Tree) (C : KindTree) → MembersAreOrdered ms → Inhabits (members ms) C → IsAllowed (members (kept_members ms rs)) (filtered_at C)
object_filtered ms rs C ordered of_kind [] = of_kind []
object_filtered ms rs C ordered of_kind (field n ∷ p) =
    let found = find n (kept_members ms rs) in
    let A : Sets = λ q. tags_at C (field n ∷ q) in
    in_container (root_tags C tag.Object) (tag_found (found_behind (found_if found) p (λ u. raw_at u p))) (or_absent p (A p)) (of_kind [])
    (may_be_absent found p A (where_found found (λ u. IsAllowed u A) (λ u is. behind_field C n ms u of_kind (kept_member ms rs ordered n u is))))
object_filtered ms rs C ordered of_kind (place i ∷ p) = tt

filter_allowed : Laws → (count : ℕ) (v : Tree) (rs : List Tree) (C : KindTree) → IsWellFormed count v → Inhabits v C → IsAllowed (filtered v rs) (filtered_at C)
filter_allowed laws count (items ts) rs C well of_kind = array_filtered laws ts rs C of_kind
filter_allowed laws count (members ms) rs C well of_kind = object_filtered ms rs C well.ordered of_kind
filter_allowed laws count v rs C well of_kind = alone_allowed v (filtered_at C) (λ s. refl) (of_kind [])

-- ---- new values

-- what stands in the place of what stood there
abbrev IsMapped : Judgement → Option Tree → Option Tree → Type 0
IsMapped j None None = ⊤
IsMapped j (Some u) (Some r) = IsResult j r
IsMapped j old new = ⊥

mapped_items : (j : Judgement) (g : Tree × Tree → List Tree) (n : ℕ) (ts : Items) (rs : List Tree) → AreResults j (map g (parts_from n ts)) rs → (i : ℕ) → IsMapped j (item_at i ts) (item_at i (items_of_trees rs))
mapped_items j g n no_items [] are i = tt
mapped_items j g n no_items (r ∷ rs) are i = absurd are
mapped_items j g n (item u ts) [] are i = absurd are
mapped_items j g n (item u ts) (r ∷ rs) are zero = are.0
mapped_items j g n (item u ts) (r ∷ rs) are (suc i) = mapped_items j g (suc n) ts rs are.1 i

mapped_first : (o : Ordering) (j : Judgement) (u r : Tree) (old new : Option Tree) → IsResult j r → IsMapped j old new → IsMapped j (match_ordering o old (Some u) old) (match_ordering o new (Some r) new)
mapped_first Less j u r old new here later = later
mapped_first Equal j u r old new here later = here
mapped_first Greater j u r old new here later = later

mapped_members : (j : Judgement) (g : Tree × Tree → List Tree) (ms : Members) (rs : List Tree) → AreResults j (map g (parts_by_name ms)) rs → (n : List ℕ) → IsMapped j (find n ms) (find n (new_members ms rs))
mapped_members j g no_members [] are n = tt
mapped_members j g no_members (r ∷ rs) are n = absurd are
mapped_members j g (member k u ms) [] are n = absurd are
mapped_members j g (member k u ms) (r ∷ rs) are n = mapped_first (slice_cmp nat_cmp n k) j u r (find n ms) (find n (new_members ms rs)) are.0 (mapped_members j g ms rs are.1 n)

never_absent : (v : Tree) → same_tag (tag_of v) tag.Absent ≡ false
never_absent null = refl
never_absent v = refl

absence_stays : (alone : Bool) (T : Tags) (K : KindTree) → IsTrue (T tag.Absent) → IsTrue (if alone then true else (root_tags K tag.Absent || (T tag.Absent && true)))
absence_stays true T K absent = refl
absence_stays false T K absent = or_right (root_tags K tag.Absent) (T tag.Absent && true) (and_from (T tag.Absent) true absent refl)

new_value : (alone : Bool) (T : Tags) (K : KindTree) (p : List Step) (t : Tag) → alone ≡ false → IsTrue (tags_at K p t) → IsTrue (if alone then is_absence p t else (tags_at K p t || (T tag.Absent && is_absence p t)))
new_value true T K p t other allowed = absurd (true≢false other)
new_value false T K p t other allowed = or_left (tags_at K p t) (T tag.Absent && is_absence p t) allowed

mapped_allowed : (j : Judgement) (T : Tags) (old new : Option Tree) (p : List Step) → IsMapped j old new → IfSome (tag_found (found_behind {S = Step} (found_if old) [] (λ u. raw_at u []))) (λ t. IsTrue (T t))
    → IfSome (tag_found (found_behind (found_if new) p (λ u. raw_at u p))) (λ t. IsTrue (mapped_part T j.kind p t))
mapped_allowed j T None None [] is allowed = absence_stays (is_alone T tag.Absent) T j.kind allowed
mapped_allowed j T None None (s ∷ p) is allowed = tt
mapped_allowed j T None (Some r) p is allowed = absurd is
mapped_allowed j T (Some u) None p is allowed = absurd is
mapped_allowed j T (Some u) (Some r) p is allowed = IfSome_then (tag_found (raw_at r p)) (is.1.0 p) (λ t h. new_value (is_alone T tag.Absent) T j.kind p t (not_alone T tag.Absent (tag_of u) allowed (never_absent u)) h)

array_mapped : (j : Judgement) (g : Tree × Tree → List Tree) (ts : Items) (rs : List Tree) (C : KindTree) → Inhabits (items ts) C → AreResults j (map g (parts_from 0 ts)) rs → IsAllowed (items (items_of_trees rs)) (mapped_at C j.kind)
array_mapped j g ts rs C of_kind are [] = of_kind []
array_mapped j g ts rs C of_kind are (place i ∷ p) =
    let T = tags_at C (place i ∷ []) in
    let new = item_at i (items_of_trees rs) in
    in_container (root_tags C tag.List) (tag_found (found_behind (found_if new) p (λ u. raw_at u p))) (mapped_part T j.kind p) (of_kind []) (mapped_allowed j T (item_at i ts) new p (mapped_items j g 0 ts rs are i) (of_kind (place i ∷ [])))
array_mapped j g ts rs C of_kind are (field n ∷ p) = tt

object_mapped : (j : Judgement) (g : Tree × Tree → List Tree) (ms : Members) (rs : List Tree) (C : KindTree) → Inhabits (members ms) C → AreResults j (map g (parts_by_name ms)) rs → IsAllowed (members (new_members ms rs)) (mapped_at C j.kind)
object_mapped j g ms rs C of_kind are [] = of_kind []
object_mapped j g ms rs C of_kind are (field n ∷ p) =
    let T = tags_at C (field n ∷ []) in
    let new = find n (new_members ms rs) in
    in_container (root_tags C tag.Object) (tag_found (found_behind (found_if new) p (λ u. raw_at u p))) (mapped_part T j.kind p) (of_kind []) (mapped_allowed j T (find n ms) new p (mapped_members j g ms rs are n) (of_kind (field n ∷ [])))
object_mapped j g ms rs C of_kind are (place i ∷ p) = tt

values_allowed : (f : CallForm) (j : Judgement) (v : Tree) (rs : List Tree) (C : KindTree) → Inhabits v C → AreResults j (given_by f v) rs → IsAllowed (with_values v rs) (mapped_at C j.kind)
values_allowed f j (items ts) rs C of_kind are = array_mapped j (λ p. for_names f p.0 p.1) ts rs C of_kind are
values_allowed f j (members ms) rs C of_kind are = object_mapped j (λ p. for_names f p.0 p.1) ms rs C of_kind are
values_allowed f j v rs C of_kind are = alone_allowed v (mapped_at C j.kind) (λ s. refl) (of_kind [])

-- ---- new names

abbrev AreAll : (Tree → Type 0) → Members → Type 0
AreAll P ms = (n : List ℕ) → IfSome (find n ms) P

put_among : MembersAreMaps → (P : Tree → Type 0) (k : List ℕ) (u : Tree) (ms : Members) → P u → AreAll P ms → AreAll P (put k u ms)
put_among maps P k u ms holds all n = by (bytes_eq k n) (bytes_eq-Decides k n) where
  by : (same : Bool) → Decides same (k ≡ n) → IfSome (find n (put k u ms)) P
  by true decides = subst (λ found. IfSome found P) (sym (ap (λ m. find m (put k u ms)) (sym (decides.0 refl)) ∙ maps.find_put k u ms)) holds
  by false decides = subst (λ found. IfSome found P) (sym (maps.find_put_other n k u ms (λ same. false≢true (decides.1 (sym same))))) (all n)

-- what holds of texts holds of each value with their tag
of_text : (P : Tree → Type 0) (v : Tree) → tag_of v ≡ tag.Text → ((s : List ℕ) → P (string s)) → P v
of_text P (string s) is holds = holds s
of_text P v is holds = absurd (cc)

record IsRenamed (P : Tree → Type 0) (made : Option Members) : Type 0 where
  done : Members
  is : made ≡ Some done
  all : AreAll P done

-- where each new name is a text, none fails, and what stands under the new names stood among the parts
all_renamed : MembersAreMaps → (P : Tree → Type 0) (j : Judgement) (g : Tree × Tree → List Tree) → ((r : Tree) → IsResult j r → tag_of r ≡ tag.Text) → (ms : Members) (rs : List Tree) (done : Members) → EachPart (λ key u. P u) (parts_by_name ms)
    → AreResults j (map g (parts_by_name ms)) rs → AreAll P done → IsRenamed P (renamed ms rs done)
all_renamed maps P j g texts no_members [] done each are all = record { done = done; is = refl; all = all }
all_renamed maps P j g texts no_members (r ∷ rs) done each are all = absurd are
all_renamed maps P j g texts (member k u ms) [] done each are all = absurd are
all_renamed maps P j g texts (member k u ms) (r ∷ rs) done each are all =
    of_text (λ w. IsRenamed P (renamed (member k u ms) (w ∷ rs) done)) r (texts r are.0) (λ s. all_renamed maps P j g texts ms rs (put s u done) each.1 are.1 (put_among maps P s u done each.0 all))

object_allowed : (ms : Members) (A : Sets) → AreAll (λ u. IsAllowed u A) ms → IsAllowed (members ms) (object_of A)
object_allowed ms A all [] = refl
object_allowed ms A all (field n ∷ p) = may_be_absent (find n ms) p A (all n)
object_allowed ms A all (place i ∷ p) = tt

-- ---- what comes of the call

module _ (laws : Laws) (count : ℕ) (C : KindTree) (j whole : Judgement) (clean : j.poisoned ≡ false) (rs : List Tree) (store : Store) (fits : FitsKnown store whole.ok) where
  renamed_is_sound : (v : Tree) → IsWellFormed count v → Inhabits v C → allows (collections form.MapKeys) (tag_of v) ≡ true → is_wrong_body form.MapKeys j ≡ false → IsCutOf (object_of (parts_at C)) whole.kind → AreResults j (given_by form.MapKeys v) rs
      → IsSoundOutcome whole (made_of form.MapKeys v rs) store
  renamed_is_sound (members ms) well of_kind allowed right cut are =
      let P : Tree → Type 0 = λ u. IsAllowed u (parts_at C) in
      let each : EachPart (λ key u. P u) (parts_by_name ms) = each_member count (λ key u. P u) ms ms well.ordered well.below (λ k u found. found) (λ k u is. laws.parts (members ms) u is.step C of_kind is.found) in
      let made : IsRenamed P (renamed ms rs no_members) =
      all_renamed laws.members P j (λ p. for_names form.MapKeys p.0 p.1) (λ r is. tag_there tag.Text j r is.0 clean is.1.1 right is.1.0) ms rs no_members each are (λ n. tt) in
      subst (λ o. IsSoundOutcome whole (renamed_or_else (option_map (λ done. members done) o)) store) (sym made.is)
      (within_is_sound whole (members made.done) store (laws.cuts (members made.done) (object_of (parts_at C)) whole.kind cut (object_allowed made.done (parts_at C) made.all), fits))
  renamed_is_sound v well of_kind allowed right cut are = absurd (false≢true allowed)

  -- what each function makes is of the kind of its call
  pub made_is_sound : (f : CallForm) (v : Tree) → is_closure_form (Some f) ≡ true → IsWellFormed count v → Inhabits v C → allows (collections f) (tag_of v) ≡ true → is_wrong_body f j ≡ false → IsCutOf (call_at f C j.kind) whole.kind → AreResults j (given_by f v) rs
      → IsSoundOutcome whole (made_of f v rs) store
  made_is_sound form.ForEach v closed well of_kind allowed right cut are = (of_scalars laws.cuts null (only tag.Null) whole.kind cut (λ s. refl) refl, fits)
  made_is_sound form.Filter v closed well of_kind allowed right cut are =
      within_is_sound whole (filtered v rs) store (laws.cuts (filtered v rs) (filtered_at C) whole.kind cut (filter_allowed laws count v rs C well of_kind), fits)
  made_is_sound form.MapValues v closed well of_kind allowed right cut are =
      within_is_sound whole (with_values v rs) store (laws.cuts (with_values v rs) (mapped_at C j.kind) whole.kind cut (values_allowed form.MapValues j v rs C of_kind are), fits)
  made_is_sound form.MapKeys v closed well of_kind allowed right cut are = renamed_is_sound v well of_kind allowed right cut are
  made_is_sound f v closed well of_kind allowed right cut are = absurd (false≢true closed)
