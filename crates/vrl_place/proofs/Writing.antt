-- The kind that a write makes has the tags that a write gives.
use Rattle.std.proofs.Common.{◌≡◌, inl, inr, ℕ, ℤ, pos, negsuc, ◌<◌, ◌≤◌, Bool, true, false, ◌||◌, not, List, [], ◌∷◌, length, Some, None, refl, sym, ap, ◌∙◌, subst}
use Rattle.std.specs.Cmp.Lexicographic.{slice_cmp}
use Rattle.std.specs.Ordering.{nat_cmp}
use Rattle.vrl_value.specs.Look.{Step, field, place}
use Rattle.vrl_value.specs.declared.value.Tag.{Tag}
use Rattle.vrl_value.specs.declared.value.Tag.TheVariants as tag
use Rattle.vrl_path.specs.declared.path.Step.{Step as CodeStep}
use Rattle.vrl_path.specs.declared.path.Step.TheVariants.{Field, Place}
use Rattle.vrl_kind.specs.KindTree.{KindTree, RestTree, Places as KnownPlaces, KnownFields}
use Rattle.vrl_kind.specs.Change.{null_for_absent}
use Rattle.vrl_kind.specs.Kinds.{IsJoin, SameTags, only_at, places_at, rest_at, step_tag, tags_at}
use Rattle.vrl_kind.specs.Make.{array_kind, object_kind, named_view}
use Rattle.vrl_kind.specs.Parts.{either_at}
use Rattle.vrl_kind.specs.Sets.{Sets, SameSets}
use Rattle.vrl_kind.specs.Tags.{Tags, only}
use Rattle.vrl_kind.specs.View.{places_view}
use Rattle.vrl_place.specs.FromEnd.{AreSomePlaces, spread}
use Rattle.vrl_place.specs.Inner.{ArePlaces, FieldsAre, FieldsAreOf, PlacesAreOf, changed_place, fields_sets, from_start, places_sets, spot_sets}
use Rattle.vrl_place.specs.Sets.{has_other, is_alone, or_absent_if, part}
use Rattle.vrl_place.specs.Write.{IsContainerFor, IsPut, IsPutFromEnd, IsPutSomewhere, IsWrite, opened, or_null, put}
use Rattle.vrl_place.specs.declared.fields.Fields.{Fields}
use Rattle.vrl_place.specs.declared.places.Places.{Places}
use Rattle.vrl_place.proofs.Changed.{behind_changed, places_all}
use Rattle.vrl_place.proofs.Orders.{cases_at, some_is}
use Rattle.vrl_place.proofs.Same.{absent_already, alone_first, one_sets}
use Rattle.vrl_place.proofs.Views.{fields_cong}

array_root : (ps : KnownPlaces) (r : RestTree) (t : Tag) → tags_at (array_kind ps r) [] t ≡ only tag.List t
array_root ps r tag.Text = refl
array_root ps r tag.Int = refl
array_root ps r tag.Bool = refl
array_root ps r tag.Null = refl
array_root ps r tag.Time = refl
array_root ps r tag.Pattern = refl
array_root ps r tag.List = refl
array_root ps r tag.Object = refl
array_root ps r tag.Absent = refl

object_root : (fs : KnownFields) (r : RestTree) (t : Tag) → tags_at (object_kind fs r) [] t ≡ only tag.Object t
object_root fs r tag.Text = refl
object_root fs r tag.Int = refl
object_root fs r tag.Bool = refl
object_root fs r tag.Null = refl
object_root fs r tag.Time = refl
object_root fs r tag.Pattern = refl
object_root fs r tag.List = refl
object_root fs r tag.Object = refl
object_root fs r tag.Absent = refl

-- what was read of a part that is opened is what the part allows once it is opened
is_opened : (A : Sets) (s : Step) (b : Bool) (z g : Sets) → b ≡ not (is_alone (A []) (step_tag s)) → SameSets z (part A s) → SameSets g (or_absent_if b z) → g ≡ opened A s
is_opened A s b z g alone behind is = one_sets g (or_absent_if b z) is ∙ ap (or_absent_if b) (one_sets z (part A s) behind) ∙ ap (λ c. or_absent_if c (part A s)) alone

opened_is : (A : Sets) (s : Step) (b : Bool) (Z : Sets) → b ≡ not (is_alone (A []) (step_tag s)) → SameSets Z (part A s) → (q : List Step) (t : Tag) → or_absent_if b Z q t ≡ opened A s q t
opened_is A s b Z alone behind q t = ap (λ B. B q t) (is_opened A s b Z (or_absent_if b Z) alone behind (λ p u. refl))

may_be : (T : Tags) (t : Tag) (b : Bool) (a : Bool) → b ≡ not (is_alone T t) → (T t ≡ true → a ≡ true) → b ≡ false → a ≡ true
may_be T t b a alone may is = may (alone_first (T t) (not (has_other T t)) (sym alone ∙ is))

-- what is written behind a step of what was opened
put_behind : (A : Sets) (s : Step) (Behind : Sets → Sets → Type 0) (b : Bool) (z g W K : Sets) → b ≡ not (is_alone (A []) (step_tag s)) → SameSets z (part A s) → SameSets g (or_absent_if b z) → Behind g W → SameSets K (put A s W) → IsPut A s Behind K
put_behind A s Behind b z g W K alone zs gs behind same = (W, subst (λ C. Behind C W) (is_opened A s b z g alone zs gs) behind, same)

pub written_field : (A : Sets) (Behind : Sets → Sets → Type 0) (k : List ℕ) (b : Bool) (fs : Fields) (z g : Sets) (inner : KindTree) (named : List (List ℕ × KindTree)) (rest : RestTree) (K : KindTree)
    → b ≡ not (is_alone (A []) tag.Object) → FieldsAreOf A fs → SameSets z (fields_sets fs k) → SameSets g (or_absent_if b z) → Behind g (tags_at inner)
    → FieldsAre fs k (tags_at inner) b named → SameSets (rest_at rest) (or_absent_if true (spot_sets fs.behind)) → SameTags K (object_kind (named_view named) rest)
    → IsPut A (field k) Behind (tags_at K)
written_field A Behind k b fs z g inner named rest K alone of zs gs behind are rests made =
    put_behind A (field k) Behind b z g (tags_at inner) (tags_at K) alone (λ p u. zs p u ∙ sym (of.at k p u)) gs behind same
  where
    same : SameSets (tags_at K) (put A (field k) (tags_at inner))
    same [] t = made [] t ∙ object_root (named_view named) rest t
    same (place i ∷ q) t = made (place i ∷ q) t
    same (field n ∷ q) t =
        made (field n ∷ q) t
        ∙ fields_cong (named_view named) n q (rest_at rest q) (or_absent_if b (spot_sets fs.behind) q) t (rests q t ∙ absent_already fs.behind b (may_be (A []) tag.Object b fs.behind.absent alone of.absent) q t)
        ∙ are.at n q t
        ∙ cases_at (slice_cmp nat_cmp n k) _ _ _ _ _ _ q t
        (opened_is A (field n) b (fields_sets fs n) alone (λ p u. sym (of.at n p u)) q t)
        refl
        (opened_is A (field n) b (fields_sets fs n) alone (λ p u. sym (of.at n p u)) q t)

pub written_place : (A : Sets) (Behind : Sets → Sets → Type 0) (k : ℕ) (b : Bool) (ps : Places) (z g : Sets) (inner : KindTree) (ks : List KindTree) (rest : RestTree) (K : KindTree)
    → b ≡ not (is_alone (A []) tag.List) → PlacesAreOf A ps → SameSets z (places_sets ps k) → SameSets g (or_absent_if b z) → Behind g (tags_at inner)
    → ArePlaces ks (changed_place ps k (tags_at inner) b true) → k < length ks → length {A = KindTree} ps.known.now ≤ length ks
    → SameSets (rest_at rest) (or_absent_if true (spot_sets ps.behind)) → SameTags K (array_kind (places_view ks) rest)
    → IsPut A (place k) Behind (tags_at K)
written_place A Behind k b ps z g inner ks rest K alone of zs gs behind are at known rests made =
    put_behind A (place k) Behind b z g (tags_at inner) (tags_at K) alone (λ p u. zs p u ∙ sym (of.at k p u)) gs behind same
  where
    same : SameSets (tags_at K) (put A (place k) (tags_at inner))
    same [] t = made [] t ∙ array_root (places_view ks) rest t
    same (field n ∷ q) t = made (field n ∷ q) t
    same (place j ∷ q) t =
        made (place j ∷ q) t
        ∙ places_all ks (changed_place ps k (tags_at inner) b true) rest are
        (behind_changed ps k (length ks) (tags_at inner) b true rest (may_be (A []) tag.List b ps.behind.absent alone of.absent) rests at known) j q t
        ∙ cases_at (nat_cmp j k) _ _ _ _ _ _ q t
        (ap (λ B. null_for_absent B q t) (one_sets (or_absent_if b (places_sets ps j)) (opened A (place j)) (opened_is A (place j) b (places_sets ps j) alone (λ p u. sym (of.at j p u)))))
        refl
        (opened_is A (place j) b (places_sets ps j) alone (λ p u. sym (of.at j p u)) q t)

-- ---- a place that isn't known

array_rest : (S : Sets) (rest : RestTree) (K : KindTree) (none : List KindTree) → none ≡ [] → SameTags K (array_kind (places_view none) rest) → SameSets (rest_at rest) (or_absent_if true S) → SameSets (tags_at K) (spread (only_at tag.List) S)
array_rest S rest K none empty made rests [] t = made [] t ∙ array_root (places_view none) rest t
array_rest S rest K none empty made rests (field n ∷ q) t = made (field n ∷ q) t
array_rest S rest K none empty made rests (place i ∷ q) t =
    made (place i ∷ q) t ∙ ap (λ ks. places_at (places_view ks) i q (rest_at rest q) t) empty ∙ rests q t

pub written_somewhere : (A : Sets) (Behind : Sets → Sets → Type 0) (P N O W M K : KindTree) (g : Sets) (none : List KindTree) (rest : RestTree) → AreSomePlaces A (tags_at P) → ((p : List Step) → tags_at N p ≡ only_at tag.Null p) → IsJoin P N O → SameSets g (tags_at O) → Behind g (tags_at W) → IsJoin O W M → none ≡ [] → SameSets (rest_at rest) (or_absent_if true (tags_at M))
    → SameTags K (array_kind (places_view none) rest) → IsPutSomewhere A Behind (tags_at K)
written_somewhere A Behind P N O W M K g none rest are null old gs behind each empty rests made =
    let olds : tags_at O ≡ or_null (tags_at P) = one_sets (tags_at O) (or_null (tags_at P)) (λ p t. old p t ∙ ap (λ T. tags_at P p t || T t) (null p)) in
    record {
      places = tags_at P;
      are = are;
      written = tags_at W;
      behind = subst (λ C. Behind C (tags_at W)) (one_sets g (tags_at O) gs ∙ olds) behind;
      same = array_rest (either_at (or_null (tags_at P)) (tags_at W)) rest K none empty made
          (λ p t. rests p t ∙ ap (λ C. or_absent_if true C p t) (one_sets (tags_at M) (either_at (or_null (tags_at P)) (tags_at W)) (λ q u. each q u ∙ ap (λ C. C q u || tags_at W q u) olds)));
    }

-- a place that counts from the start, or from the end
pub place_written : (A N K : Sets) (at : ℤ) (j : ℕ) (r : List CodeStep) → from_start at ≡ Some j → IsPut A (place j) (λ C W. IsWrite C r N W) K → IsWrite A (Place at ∷ r) N K
place_written A N K (pos i) j r is put = subst (λ x. IsPut A (place x) (λ C W. IsWrite C r N W) K) (sym (some_is i j is)) put
place_written A N K (negsuc i) j r is put = cc

pub end_written : (A N K : Sets) (at : ℤ) (r : List CodeStep) → from_start at ≡ None → IsPutFromEnd A at (λ C W. IsWrite C r N W) K → IsWrite A (Place at ∷ r) N K
end_written A N K (pos i) r is put = cc
end_written A N K (negsuc i) r is put = put

-- the root of what is written
pub written_root : (A N : Sets) (p : List CodeStep) (K : KindTree) → IsWrite A p N (tags_at K) → IsContainerFor p (tags_at K [])
written_root A N [] K is = tt
written_root A N (Field k ∷ r) K is = ap (λ B. B []) (one_sets (tags_at K) (put A (field k) is.0) is.2)
written_root A N (Place (pos i) ∷ r) K is = ap (λ B. B []) (one_sets (tags_at K) (put A (place i) is.0) is.2)
written_root A N (Place (negsuc i) ∷ r) K (inl is) = ap (λ B. B []) (one_sets (tags_at K) (put A (place is.0) is.2.0) is.2.2)
written_root A N (Place (negsuc i) ∷ r) K (inr is) = ap (λ B. B []) (one_sets (tags_at K) (spread (only_at tag.List) (either_at (or_null is.1.places) is.1.written)) is.1.same)

pub written_present : (A N B : Sets) (p : List CodeStep) → IsWrite A p N B → N [] tag.Absent ≡ false → B [] tag.Absent ≡ false
written_present A N B [] is present = is [] tag.Absent ∙ present
written_present A N B (Field k ∷ r) is present = is.2 [] tag.Absent
written_present A N B (Place (pos i) ∷ r) is present = is.2 [] tag.Absent
written_present A N B (Place (negsuc i) ∷ r) (inl is) present = is.2.2 [] tag.Absent
written_present A N B (Place (negsuc i) ∷ r) (inr is) present = is.1.same [] tag.Absent

-- the same of sets that are the same, and of a path
pub write_from : (A B N K : Sets) (p : List CodeStep) → SameSets A B → IsWrite A p N K → IsWrite B p N K
write_from A B N K p same is = subst (λ C. IsWrite C p N K) (one_sets A B same) is

pub write_along : (A N K : Sets) (p q : List CodeStep) → p ≡ q → IsWrite A p N K → IsWrite A q N K
write_along A N K p q e is = subst (λ r. IsWrite A r N K) e is
