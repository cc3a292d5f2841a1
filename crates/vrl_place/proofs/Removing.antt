-- The kind that a removal makes has the tags that a removal leaves.
use Rattle.std.proofs.Common.{◌≡◌, inl, inr, ℕ, ℤ, pos, negsuc, suc, ◌+◌, ◌*◌, ◌<◌, ◌≤◌, Bool, true, false, ◌||◌, ◌&&◌, not, List, [], ◌∷◌, length, Option, Some, None, MatchOption, Ordering, Less, Equal, Greater, refl, sym, ap, ◌∙◌, subst, arith}
use Rattle.std.proofs.lemmas.Bool.{true≢false}
use Rattle.std.specs.Cmp.Lexicographic.{slice_cmp}
use Rattle.std.specs.Ordering.{nat_cmp, match_ordering}
use Rattle.vrl_value.specs.Look.{Step, field, place}
use Rattle.vrl_value.specs.declared.value.Tag.{Tag}
use Rattle.vrl_value.specs.declared.value.Tag.TheVariants as tag
use Rattle.vrl_path.specs.Read.{place_of}
use Rattle.vrl_path.specs.declared.path.Step.{Step as CodeStep}
use Rattle.vrl_path.specs.declared.path.Step.TheVariants.{Field, Place}
use Rattle.vrl_kind.specs.KindTree.{KindTree, kind, no_list, list_part, no_object, object_part, RestTree}
use Rattle.vrl_kind.specs.Kinds.{IsJoin, only_at, places_at, rest_at, tags_at, is_absence}
use Rattle.vrl_kind.specs.Make.{named_view}
use Rattle.vrl_kind.specs.Sets.{Sets, SameSets}
use Rattle.vrl_kind.specs.Tags.{Tags, same_tag}
use Rattle.vrl_kind.specs.View.{places_view}
use Rattle.vrl_place.specs.FromEnd.{AreSomePlaces, spread}
use Rattle.vrl_place.specs.Inner.{ArePlaces, FieldsAre, FieldsAreOf, PlacesAreOf, changed_place, moved_place, fields_sets, from_start, places_sets, sets_with_list, sets_with_object, spot_sets}
use Rattle.vrl_place.specs.Remove.{IsLeftSomewhere, IsRemoval, IsTakenAt, IsTakenFromEnd, IsTakenSomewhere, gone, moved, with_part, without_part}
use Rattle.vrl_place.specs.Sets.{or_absent_if, part}
use Rattle.vrl_place.specs.declared.fields.Fields.{Fields}
use Rattle.vrl_place.specs.declared.places.Places.{Places}
use Rattle.vrl_place.proofs.Changed.{behind_changed, behind_moved, places_all}
use Rattle.vrl_place.proofs.Orders.{cases_at, equal, one_name, some_is}
use Rattle.vrl_place.proofs.Same.{absent_already, not_absent, one_sets, or_false, or_true}
use Rattle.vrl_place.proofs.Tags.{absent_sym}
use Rattle.vrl_place.proofs.Views.{fields_cong}

-- a tag that stands there already
pub list_already : (T : Tags) (t : Tag) → T tag.List ≡ true → (T t || same_tag t tag.List) ≡ T t
list_already T tag.Text is = or_false _
list_already T tag.Int is = or_false _
list_already T tag.Bool is = or_false _
list_already T tag.Null is = or_false _
list_already T tag.Time is = or_false _
list_already T tag.Pattern is = or_false _
list_already T tag.List is = or_true _ ∙ sym is
list_already T tag.Object is = or_false _
list_already T tag.Absent is = or_false _

pub object_already : (T : Tags) (t : Tag) → T tag.Object ≡ true → (T t || same_tag t tag.Object) ≡ T t
object_already T tag.Text is = or_false _
object_already T tag.Int is = or_false _
object_already T tag.Bool is = or_false _
object_already T tag.Null is = or_false _
object_already T tag.Time is = or_false _
object_already T tag.Pattern is = or_false _
object_already T tag.List is = or_false _
object_already T tag.Object is = or_true _ ∙ sym is
object_already T tag.Absent is = or_false _

-- what is absent alone
pub is_gone : (T : Tags) → T tag.Object ≡ true → SameSets (only_at tag.Absent) (gone T)
is_gone T is [] t = absent_sym t ∙ ap (λ b. b && same_tag t tag.Absent) (sym is)
is_gone T is (field n ∷ p) t = ap (λ b. b && false) (sym is)
is_gone T is (place i ∷ p) t = ap (λ b. b && false) (sym is)

changed_field : (A : Sets) (k : List ℕ) (fs : Fields) (inner : KindTree) (named : List (List ℕ × KindTree)) (rest : RestTree) (K : KindTree)
    → A [] tag.Object ≡ true → FieldsAreOf A fs → FieldsAre fs k (tags_at inner) false named
    → SameSets (rest_at rest) (or_absent_if true (spot_sets fs.behind)) → SameSets (tags_at K) (sets_with_object A (named_view named) rest)
    → SameSets (tags_at K) (with_part A (field k) (tags_at inner))
changed_field A k fs inner named rest K is of are rests made [] t = made [] t ∙ object_already (A []) t is
changed_field A k fs inner named rest K is of are rests made (place i ∷ q) t = made (place i ∷ q) t
changed_field A k fs inner named rest K is of are rests made (field n ∷ q) t =
    made (field n ∷ q) t
    ∙ fields_cong (named_view named) n q (rest_at rest q) (or_absent_if false (spot_sets fs.behind) q) t (rests q t ∙ absent_already fs.behind false (λ none. of.absent is) q t)
    ∙ are.at n q t
    ∙ cases_at (slice_cmp nat_cmp n k) _ _ _ _ _ _ q t (stays q t) refl (stays q t)
  where
    stays : (p : List Step) (u : Tag) → or_absent_if false (fields_sets fs n) p u ≡ A (field n ∷ p) u
    stays p u = not_absent (fields_sets fs n) p u ∙ sym (of.at n p u)

changed_list : (A : Sets) (k : ℕ) (ps : Places) (inner : KindTree) (ks : List KindTree) (rest : RestTree) (K : KindTree)
    → A [] tag.List ≡ true → PlacesAreOf A ps → ArePlaces ks (changed_place ps k (tags_at inner) false false) → k < length ks → length {A = KindTree} ps.known.now ≤ length ks
    → SameSets (rest_at rest) (or_absent_if true (spot_sets ps.behind)) → SameSets (tags_at K) (sets_with_list A (places_view ks) rest)
    → SameSets (tags_at K) (with_part A (place k) (tags_at inner))
changed_list A k ps inner ks rest K is of are at known rests made [] t = made [] t ∙ list_already (A []) t is
changed_list A k ps inner ks rest K is of are at known rests made (field n ∷ q) t = made (field n ∷ q) t
changed_list A k ps inner ks rest K is of are at known rests made (place j ∷ q) t =
    made (place j ∷ q) t
    ∙ places_all ks (changed_place ps k (tags_at inner) false false) rest are
    (behind_changed ps k (length ks) (tags_at inner) false false rest (λ none. of.absent is) rests at known) j q t
    ∙ cases_at (nat_cmp j k) _ _ _ _ _ _ q t (stays q t) refl (stays q t)
  where
    stays : (p : List Step) (u : Tag) → or_absent_if false (places_sets ps j) p u ≡ A (place j ∷ p) u
    stays p u = not_absent (places_sets ps j) p u ∙ sym (of.at j p u)

pub part_as : (A I J : Sets) (s : Step) → SameSets I J → SameSets (with_part A s I) (with_part A s J)
part_as A I J s same p t = ap (λ X. with_part A s X p t) (one_sets I J same)

-- a removal behind a step changes that part alone
pub part_taken : (A W B : Sets) (s : Step) (r : List CodeStep) (Behind : Sets → Sets → Type 0) → 0 < length r → Behind (part A s) W → SameSets B (with_part A s W) → IsTakenAt A s r Behind B
part_taken A W B s [] Behind some behind same = absurd (omega arith)
part_taken A W B s (u ∷ r) Behind some behind same = (W, behind, same)

pub field_gone : (A : Sets) (k : List ℕ) → SameSets (with_part A (field k) (gone (A []))) (without_part A (field k))
field_gone A k [] t = refl
field_gone A k (x ∷ q) t = refl

pub removed_last_field : (A : Sets) (k : List ℕ) (fs : Fields) (inner : KindTree) (named : List (List ℕ × KindTree)) (rest : RestTree) (K : KindTree)
    → A [] tag.Object ≡ true → FieldsAreOf A fs → ((p : List Step) → tags_at inner p ≡ only_at tag.Absent p) → FieldsAre fs k (tags_at inner) false named
    → SameSets (rest_at rest) (or_absent_if true (spot_sets fs.behind)) → SameSets (tags_at K) (sets_with_object A (named_view named) rest)
    → SameSets (tags_at K) (without_part A (field k))
removed_last_field A k fs inner named rest K is of inners are rests made p t =
    changed_field A k fs inner named rest K is of are rests made p t
    ∙ part_as A (tags_at inner) (gone (A [])) (field k) (λ q u. ap (λ T. T u) (inners q) ∙ is_gone (A []) is q u) p t
    ∙ field_gone A k p t

pub removed_in_field : (A : Sets) (k : List ℕ) (r : List CodeStep) (Behind : Sets → Sets → Type 0) (fs : Fields) (z : Sets) (inner : KindTree) (named : List (List ℕ × KindTree)) (rest : RestTree) (K : KindTree)
    → 0 < length r → A [] tag.Object ≡ true → FieldsAreOf A fs → SameSets z (fields_sets fs k) → Behind z (tags_at inner) → FieldsAre fs k (tags_at inner) false named
    → SameSets (rest_at rest) (or_absent_if true (spot_sets fs.behind)) → SameSets (tags_at K) (sets_with_object A (named_view named) rest)
    → IsTakenAt A (field k) r Behind (tags_at K)
removed_in_field A k r Behind fs z inner named rest K some is of zs behind are rests made =
    part_taken A (tags_at inner) (tags_at K) (field k) r Behind some
    (subst (λ C. Behind C (tags_at inner)) (one_sets z (part A (field k)) (λ x w. zs x w ∙ sym (of.at k x w))) behind)
    (changed_field A k fs inner named rest K is of are rests made)

pub removed_in_list : (A : Sets) (k : ℕ) (r : List CodeStep) (Behind : Sets → Sets → Type 0) (ps : Places) (z : Sets) (inner : KindTree) (ks : List KindTree) (rest : RestTree) (K : KindTree)
    → 0 < length r → A [] tag.List ≡ true → PlacesAreOf A ps → SameSets z (places_sets ps k) → Behind z (tags_at inner)
    → ArePlaces ks (changed_place ps k (tags_at inner) false false) → k < length ks → length {A = KindTree} ps.known.now ≤ length ks
    → SameSets (rest_at rest) (or_absent_if true (spot_sets ps.behind)) → SameSets (tags_at K) (sets_with_list A (places_view ks) rest)
    → IsTakenAt A (place k) r Behind (tags_at K)
removed_in_list A k r Behind ps z inner ks rest K some is of zs behind are at known rests made =
    part_taken A (tags_at inner) (tags_at K) (place k) r Behind some
    (subst (λ C. Behind C (tags_at inner)) (one_sets z (part A (place k)) (λ x w. zs x w ∙ sym (of.at k x w))) behind)
    (changed_list A k ps inner ks rest K is of are at known rests made)

pub removed_last_place : (A : Sets) (k : ℕ) (b : Bool) (ps : Places) (z : Sets) (ks : List KindTree) (rest : RestTree) (K : KindTree)
    → A [] tag.List ≡ true → PlacesAreOf A ps → SameSets z (places_sets ps k) → b ≡ z [] tag.Absent → ArePlaces ks (moved_place ps k b) → length ks ≡ length {A = KindTree} ps.known.now
    → SameSets (rest_at rest) (or_absent_if true (spot_sets ps.behind)) → SameSets (tags_at K) (sets_with_list A (places_view ks) rest)
    → SameSets (tags_at K) (without_part A (place k))
removed_last_place A k b ps z ks rest K is of zs absent are known rests made [] t = made [] t ∙ list_already (A []) t is
removed_last_place A k b ps z ks rest K is of zs absent are known rests made (field n ∷ q) t = made (field n ∷ q) t
removed_last_place A k b ps z ks rest K is of zs absent are known rests made (place j ∷ q) t =
    made (place j ∷ q) t
    ∙ places_all ks (moved_place ps k b) rest are (behind_moved ps k (length ks) b rest (of.absent is) rests known) j q t
    ∙ cases_at (nat_cmp j k) _ _ _ _ _ _ q t (sym (of.at j q t)) (moves q t) (moves q t)
  where
    moves : (p : List Step) (u : Tag) → or_absent_if b (places_sets ps (suc j)) p u ≡ moved A k (place j) p u
    moves p u =
        ap (λ c. or_absent_if c (places_sets ps (suc j)) p u) (absent ∙ zs [] tag.Absent ∙ sym (of.at k [] tag.Absent))
        ∙ ap (λ B. or_absent_if (A (place k ∷ []) tag.Absent) B p u) (one_sets (places_sets ps (suc j)) (part A (place (suc j))) (λ x w. sym (of.at (suc j) x w)))

-- where a path ends, its last step is taken, and else not
pub taken_last : (A B : Sets) (s : Step) (r : List CodeStep) (Behind : Sets → Sets → Type 0) → length r ≡ 0 → SameSets B (without_part A s) → IsTakenAt A s r Behind B
taken_last A B s [] Behind none same = same
taken_last A B s (u ∷ r) Behind none same = absurd (omega arith)

-- ---- a place that isn't known

pub left_places : (P : KindTree) (r : List CodeStep) (Behind : Sets → Sets → Type 0) → length r ≡ 0 → IsLeftSomewhere (tags_at P) r Behind (tags_at P)
left_places P [] Behind none = λ p t. refl
left_places P (u ∷ r) Behind none = absurd (omega arith)

pub left_in_places : (P V W : KindTree) (g : Sets) (r : List CodeStep) (Behind : Sets → Sets → Type 0) → 0 < length r → SameSets g (tags_at P) → Behind g (tags_at V) → IsJoin P V W → IsLeftSomewhere (tags_at P) r Behind (tags_at W)
left_in_places P V W g [] Behind some same behind join = absurd (omega arith)
left_in_places P V W g (u ∷ r) Behind some same behind join = (tags_at V, subst (λ C. Behind C (tags_at V)) (one_sets g (tags_at P) same) behind, join)

spread_over : (A W : Sets) (rest : RestTree) (K : KindTree) (none : List KindTree) → A [] tag.List ≡ true → none ≡ [] → SameSets (rest_at rest) (or_absent_if true W) → SameSets (tags_at K) (sets_with_list A (places_view none) rest) → SameSets (tags_at K) (spread A W)
spread_over A W rest K none is empty rests made [] t = made [] t ∙ list_already (A []) t is
spread_over A W rest K none is empty rests made (field n ∷ q) t = made (field n ∷ q) t
spread_over A W rest K none is empty rests made (place i ∷ q) t =
    made (place i ∷ q) t ∙ ap (λ ks. places_at (places_view ks) i q (rest_at rest q) t) empty ∙ rests q t

pub removed_somewhere : (A : Sets) (P W K : KindTree) (r : List CodeStep) (Behind : Sets → Sets → Type 0) (none : List KindTree) (rest : RestTree) → A [] tag.List ≡ true → AreSomePlaces A (tags_at P) → IsLeftSomewhere (tags_at P) r Behind (tags_at W) → none ≡ [] → SameSets (rest_at rest) (or_absent_if true (tags_at W))
    → SameSets (tags_at K) (sets_with_list A (places_view none) rest) → IsTakenSomewhere A r Behind (tags_at K)
removed_somewhere A P W K r Behind none rest is are behind empty rests made =
    record { places = tags_at P; are = are; left = tags_at W; behind = behind; same = spread_over A (tags_at W) rest K none is empty rests made }

-- ---- without such a container nothing is removed

no_object_at : (K : KindTree) → tags_at K [] tag.Object ≡ false → (n : List ℕ) (p : List Step) (t : Tag) → tags_at K (field n ∷ p) t ≡ false
no_object_at (kind s l no_object) none n p t = refl
no_object_at (kind s l (object_part fs r)) none n p t = absurd (true≢false none)

pub no_list_at : (K : KindTree) → tags_at K [] tag.List ≡ false → (i : ℕ) (p : List Step) (t : Tag) → tags_at K (place i ∷ p) t ≡ false
no_list_at (kind s no_list o) none i p t = refl
no_list_at (kind s (list_part ps r) o) none i p t = absurd (true≢false none)

cases_none : (o : Ordering) (X I Y : Tags) (a : Bool) (t : Tag) → X t ≡ a → I t ≡ a → Y t ≡ a → match_ordering o X I Y t ≡ a
cases_none Less X I Y a t x i y = x
cases_none Equal X I Y a t x i y = i
cases_none Greater X I Y a t x i y = y

absent_none : (b : Bool) (A : Sets) → b ≡ false → ((p : List Step) (t : Tag) → A p t ≡ false) → (p : List Step) (t : Tag) → or_absent_if b A p t ≡ false
absent_none b A not none [] t = rw (not, none [] t) refl
absent_none b A not none (s ∷ p) t = none (s ∷ p) t

-- nothing is taken at a field where there is no object, and at a place where there is no array
no_field : (A : Sets) (k : List ℕ) → A [] tag.Object ≡ false → ((n : List ℕ) (p : List Step) (t : Tag) → A (field n ∷ p) t ≡ false) → SameSets A (without_part A (field k))
no_field A k not none [] t = refl
no_field A k not none (place j ∷ q) t = refl
no_field A k not none (field n ∷ q) t = none n q t ∙ sym (cases_none (slice_cmp nat_cmp n k) _ _ _ false t (none n q t) (ap (λ b. b && is_absence q t) not) (none n q t))

no_place_there : (A : Sets) (k : ℕ) → ((i : ℕ) (p : List Step) (t : Tag) → A (place i ∷ p) t ≡ false) → SameSets A (without_part A (place k))
no_place_there A k none [] t = refl
no_place_there A k none (field n ∷ q) t = refl
no_place_there A k none (place j ∷ q) t =
    let moves = absent_none (A (place k ∷ []) tag.Absent) (part A (place (suc j))) (none k [] tag.Absent) (none (suc j)) q t in
    none j q t ∙ sym (cases_none (nat_cmp j k) _ _ _ false t (none j q t) moves moves)

-- a part that stays as it was
stays_at : (o : Ordering) (X I : Tags) (t : Tag) → (o ≡ Equal → I t ≡ X t) → match_ordering o X I X t ≡ X t
stays_at Less X I t same = refl
stays_at Equal X I t same = same refl
stays_at Greater X I t same = refl

part_stays : (A : Sets) (s : Step) → SameSets A (with_part A s (part A s))
part_stays A s [] t = refl
part_stays A (field k) (place j ∷ q) t = refl
part_stays A (place i) (field n ∷ q) t = refl
part_stays A (field k) (field n ∷ q) t = sym (stays_at (slice_cmp nat_cmp n k) (A (field n ∷ q)) (A (field k ∷ q)) t (λ o. ap (λ m. A (field m ∷ q) t) (sym (one_name n k o))))
part_stays A (place i) (place j ∷ q) t = sym (stays_at (nat_cmp j i) (A (place j ∷ q)) (A (place i ∷ q)) t (λ o. ap (λ m. A (place m ∷ q) t) (sym (equal j i o))))

-- nothing is left where nothing was
nothing_left : (r : List CodeStep) (A : Sets) → ((p : List Step) (t : Tag) → A p t ≡ false) → IsRemoval A r A
nothing_left [] A none = λ p t. refl
nothing_left (Field k ∷ []) A none = no_field A k (none [] tag.Object) (λ n p t. none (field n ∷ p) t)
nothing_left (Place (pos i) ∷ []) A none = no_place_there A i (λ j p t. none (place j ∷ p) t)
nothing_left (Field k ∷ u ∷ r) A none = (part A (field k), nothing_left (u ∷ r) (part A (field k)) (λ p t. none (field k ∷ p) t), part_stays A (field k))
nothing_left (Place (pos i) ∷ u ∷ r) A none = (part A (place i), nothing_left (u ∷ r) (part A (place i)) (λ p t. none (place i ∷ p) t), part_stays A (place i))
nothing_left (Place (negsuc i) ∷ r) A none = inl (none [] tag.List, λ p t. refl)

-- what is removed behind a step that leads nowhere
pub kept_part : (A : Sets) (s : Step) (r : List CodeStep) → SameSets A (without_part A s) → ((p : List Step) (t : Tag) → A (s ∷ p) t ≡ false) → IsTakenAt A s r (λ C W. IsRemoval C r W) A
kept_part A s [] same none = same
kept_part A s (u ∷ r) same none = (part A s, nothing_left (u ∷ r) (part A s) none, part_stays A s)

pub kept_field : (A : Sets) (k : List ℕ) (r : List CodeStep) (K : KindTree) → A [] tag.Object ≡ false → SameSets (tags_at K) A → IsRemoval A (Field k ∷ r) (tags_at K)
kept_field A k r K not same =
    let none : (n : List ℕ) (q : List Step) (u : Tag) → A (field n ∷ q) u ≡ false = λ n q u. sym (same (field n ∷ q) u) ∙ no_object_at K (same [] tag.Object ∙ not) n q u in
    subst (IsRemoval A (Field k ∷ r)) (sym (one_sets (tags_at K) A same)) (kept_part A (field k) r (no_field A k not none) (none k))

pub kept_list : (A : Sets) (k : ℕ) (r : List CodeStep) (K : KindTree) → A [] tag.List ≡ false → SameSets (tags_at K) A → IsTakenAt A (place k) r (λ C W. IsRemoval C r W) (tags_at K)
kept_list A k r K not same =
    let none : (i : ℕ) (q : List Step) (u : Tag) → A (place i ∷ q) u ≡ false = λ i q u. sym (same (place i ∷ q) u) ∙ no_list_at K (same [] tag.List ∙ not) i q u in
    subst (IsTakenAt A (place k) r (λ C W. IsRemoval C r W)) (sym (one_sets (tags_at K) A same)) (kept_part A (place k) r (no_place_there A k none) (none k))

-- a place that counts from the start, or from the end
pub place_removed : (A K : Sets) (at : ℤ) (j : ℕ) (r : List CodeStep) → from_start at ≡ Some j → IsTakenAt A (place j) r (λ C W. IsRemoval C r W) K → IsRemoval A (Place at ∷ r) K
place_removed A K (pos i) j r is taken = subst (λ x. IsTakenAt A (place x) r (λ C W. IsRemoval C r W) K) (sym (some_is i j is)) taken
place_removed A K (negsuc i) j r is taken = cc

pub end_removed : (A K : Sets) (at : ℤ) (r : List CodeStep) → from_start at ≡ None → IsTakenFromEnd A at r (λ C W. IsRemoval C r W) K → IsRemoval A (Place at ∷ r) K
end_removed A K (pos i) r is taken = cc
end_removed A K (negsuc i) r is taken = taken

-- ---- the root stays

root_at : (A B : Sets) (s : Step) (r : List CodeStep) (Behind : Sets → Sets → Type 0) (t : Tag) → IsTakenAt A s r Behind B → B [] t ≡ A [] t
root_at A B s [] Behind t same = same [] t
root_at A B s (u ∷ r) Behind t is = is.2 [] t

root_if : (A B : Sets) (o : Option ℕ) (r : List CodeStep) (Behind : Sets → Sets → Type 0) (t : Tag) → MatchOption o (SameSets B A) (λ j. IsTakenAt A (place j) r Behind B) → B [] t ≡ A [] t
root_if A B None r Behind t same = same [] t
root_if A B (Some j) r Behind t is = root_at A B (place j) r Behind t is

pub removed_root : (A B : Sets) (p : List CodeStep) (t : Tag) → IsRemoval A p B → B [] t ≡ A [] t
removed_root A B [] t is = is [] t
removed_root A B (Field k ∷ r) t is = root_at A B (field k) r (λ C W. IsRemoval C r W) t is
removed_root A B (Place (pos i) ∷ r) t is = root_at A B (place i) r (λ C W. IsRemoval C r W) t is
removed_root A B (Place (negsuc i) ∷ r) t (inl is) = is.1 [] t
removed_root A B (Place (negsuc i) ∷ r) t (inr (inl is)) = root_if A B (place_of is.0 (negsuc i)) r (λ C W. IsRemoval C r W) t is.2
removed_root A B (Place (negsuc i) ∷ r) t (inr (inr is)) = is.1.same [] t

-- a path of the code that is empty, and one behind its first step
pub no_steps : (r : List CodeStep) → length r ≡ 0 → r ≡ []
no_steps [] none = refl
no_steps (s ∷ r) none = absurd (omega arith)

pub rest_shorter : (s : CodeStep) (r steps : List CodeStep) (t : ℕ) → steps ≡ s ∷ r → 6 * length steps ≡ t → 6 * length r + 5 < t
rest_shorter s r steps t is at = omega (arith, ap length is)

-- the same of a path that is the same
pub remove_along : (A K : Sets) (p q : List CodeStep) → p ≡ q → IsRemoval A p K → IsRemoval A q K
remove_along A K p q e is = subst (λ r. IsRemoval A r K) e is
