-- One field among those in order: where it stands, and what the fields say once it is put there, changed or left out.
use Rattle.std.proofs.Common.{◌≡◌, ◌≢◌, ◌↔◌, ℕ, zero, suc, ◌<◌, ◌≤◌, inl, inr, Bool, true, false, IsTrue, List, [], ◌∷◌, ◌++◌, length, take, drop, get_or, set, Option, Some, None, MatchOption, Ok, Err, IfErr, IfOk, Result, Ordering, Less, Equal, Greater, nat_cmp, refl, sym, ap, ◌∙◌, subst, arith}
use Rattle.std.proofs.lemmas.Bool.{cases_lt, true≢false}
use Rattle.std.proofs.lemmas.Cmp.{nat_list_cmp_total, tied_itself}
use Rattle.std.proofs.lemmas.List.{set_split, set-get_or, take-append-drop}
use Rattle.std.proofs.lemmas.List.Sorted.{IsNonDecreasingBy-from_default}
use Rattle.std.specs.Cmp.Lexicographic.{slice_cmp}
use Rattle.std.specs.List.{insert, remove}
use Rattle.std.specs.List.Sorted.{IsSearchInRange, IsBinarySearchResult, IsNonDecreasingBy}
use Rattle.std.specs.Ordering.{match_ordering, ordering_index, ordering_reverse}
use Rattle.vrl_value.specs.Look.{Step, field, place}
use Rattle.vrl_value.specs.declared.value.Tag.{Tag}
use Rattle.vrl_value.specs.declared.value.Tag.TheVariants as tag
use Rattle.vrl_kind.specs.KindTree.{KindTree, kind, ListTree, ObjectTree, no_object, object_part, RestTree, KnownFields, no_fields, known_field}
use Rattle.vrl_kind.specs.Canonical.{FieldsAreCanonical, IsBeforeFields, IsCanonical, NoFieldIs, ObjectIsCanonical, allows_absent, bare_rest, field_or, list_tree, never_kind, object_tree, rest_kind, scalars_of, with_absent}
use Rattle.vrl_kind.specs.Fields.{AreBefore, AreTaken, IsFieldAt, IsGapAt, IsLeftOut, IsObjectPut, IsPut, IsTaken, knows_field, knows_name, put_at}
use Rattle.vrl_kind.specs.Kinds.{never_at, tags_at}
use Rattle.vrl_kind.specs.Merge.{FieldsAreSorted}
use Rattle.vrl_kind.specs.Sets.{Sets, SameSets}
use Rattle.vrl_kind.specs.View.{fields_view}
use Rattle.vrl_kind.specs.declared.kind.KindField.{KindField}
use Rattle.vrl_kind.specs.declared.scalars.Scalars.{Scalars}
use Rattle.vrl_kind.proofs.Ahead.{greater, passed_over, unknown}
use Rattle.vrl_kind.proofs.Known.{never_tags, object_field}
use Rattle.vrl_kind.proofs.Merging.{one_name}
use Rattle.vrl_kind.proofs.Naming.{behind_field, not_both, swapped, twice}
use Rattle.vrl_kind.proofs.Shapes.{same_root}

lesser : (m n : List ℕ) → slice_cmp nat_cmp m n ≡ Greater → slice_cmp nat_cmp n m ≡ Less
lesser m n above = nat_list_cmp_total.antisymm n m ∙ ap ordering_reverse above

-- ---- what the fields say of a name, where one stands between others

put_between : (f : KindField) (own : KindTree) (m : List ℕ) (ls rs : List KindField) → AreBefore f.name ls
    → field_or (fields_view (ls ++ f ∷ rs)) own m ≡ match_ordering (slice_cmp nat_cmp m f.name) (field_or (fields_view (ls ++ rs)) own m) f.kind (field_or (fields_view (ls ++ rs)) own m)
put_between f own m [] rs before = refl
put_between f own m (a ∷ ls) rs before =
    behind_field (slice_cmp nat_cmp m a.name) a.kind _ _ (put_between f own m ls rs before.1)
    ∙ swapped (slice_cmp nat_cmp m a.name) (slice_cmp nat_cmp m f.name) (field_or (fields_view (ls ++ rs)) own m) f.kind a.kind (not_both m f.name a.name (greater a.name f.name before.0))

unknown_between : (n : List ℕ) (own : KindTree) (ls rs : List KindField) → AreBefore n ls → IsBeforeFields n (fields_view rs) → field_or (fields_view (ls ++ rs)) own n ≡ own
unknown_between n own [] rs before behind = unknown own n (fields_view rs) behind
unknown_between n own (a ∷ ls) rs before behind = passed_over own a.kind a.name n (fields_view (ls ++ rs)) (greater a.name n before.0) ∙ unknown_between n own ls rs before.1 behind

unless_same : (o : Ordering) (f own : KindTree) → (o ≡ Equal → f ≡ own) → f ≡ match_ordering o f own f
unless_same Less f own h = refl
unless_same Equal f own h = h refl
unless_same Greater f own h = refl

-- nothing is known of a name that none has
unchanged_between : (n : List ℕ) (own : KindTree) (m : List ℕ) (ls rs : List KindField) → AreBefore n ls → IsBeforeFields n (fields_view rs)
    → field_or (fields_view (ls ++ rs)) own m ≡ match_ordering (slice_cmp nat_cmp m n) (field_or (fields_view (ls ++ rs)) own m) own (field_or (fields_view (ls ++ rs)) own m)
unchanged_between n own m ls rs before behind =
    unless_same (slice_cmp nat_cmp m n) (field_or (fields_view (ls ++ rs)) own m) own
    (λ same. ap (field_or (fields_view (ls ++ rs)) own) (one_name m n same) ∙ unknown_between n own ls rs before behind)

-- what the fields without one say, told by those with it
with_one : (f : KindField) (n : List ℕ) (own : KindTree) (m : List ℕ) (ls rs : List KindField) → f.name ≡ n → AreBefore n ls
    → field_or (fields_view (ls ++ f ∷ rs)) own m ≡ match_ordering (slice_cmp nat_cmp m n) (field_or (fields_view (ls ++ rs)) own m) f.kind (field_or (fields_view (ls ++ rs)) own m)
with_one f n own m ls rs is before =
    put_between f own m ls rs (subst (λ x. AreBefore x ls) (sym is) before)
    ∙ ap (λ x. match_ordering (slice_cmp nat_cmp m x) (field_or (fields_view (ls ++ rs)) own m) f.kind (field_or (fields_view (ls ++ rs)) own m)) is

over_one : (f : KindField) (n : List ℕ) (K own : KindTree) (m : List ℕ) (ls rs : List KindField) → f.name ≡ n → AreBefore n ls
    → match_ordering (slice_cmp nat_cmp m n) (field_or (fields_view (ls ++ rs)) own m) K (field_or (fields_view (ls ++ rs)) own m)
    ≡ match_ordering (slice_cmp nat_cmp m n) (field_or (fields_view (ls ++ f ∷ rs)) own m) K (field_or (fields_view (ls ++ f ∷ rs)) own m)
over_one f n K own m ls rs is before =
    twice (slice_cmp nat_cmp m n) (field_or (fields_view (ls ++ rs)) own m) K f.kind
    ∙ ap (λ k. match_ordering (slice_cmp nat_cmp m n) k K k) (sym (with_one f n own m ls rs is before))

-- ---- the one form

before_between : (a : List ℕ) (f : KindField) (ls rs : List KindField) → slice_cmp nat_cmp a f.name ≡ Less → IsBeforeFields a (fields_view (ls ++ rs)) → IsBeforeFields a (fields_view (ls ++ f ∷ rs))
before_between a f [] rs less all = (less, all)
before_between a f (x ∷ ls) rs less all = (all.0, before_between a f ls rs less all.1)

canonical_between : (f : KindField) (ls rs : List KindField) → AreBefore f.name ls → IsBeforeFields f.name (fields_view rs) → IsCanonical f.kind → FieldsAreCanonical (fields_view (ls ++ rs)) → FieldsAreCanonical (fields_view (ls ++ f ∷ rs))
canonical_between f [] rs before behind one all = (behind, one, all)
canonical_between f (x ∷ ls) rs before behind one all = (before_between x.name f ls rs before.0 all.0, all.1, canonical_between f ls rs before.1 behind one all.2)

before_without : (a : List ℕ) (f : KindField) (ls rs : List KindField) → IsBeforeFields a (fields_view (ls ++ f ∷ rs)) → IsBeforeFields a (fields_view (ls ++ rs))
before_without a f [] rs all = all.1
before_without a f (x ∷ ls) rs all = (all.0, before_without a f ls rs all.1)

canonical_without : (f : KindField) (ls rs : List KindField) → FieldsAreCanonical (fields_view (ls ++ f ∷ rs)) → FieldsAreCanonical (fields_view (ls ++ rs))
canonical_without f [] rs all = all.2
canonical_without f (x ∷ ls) rs all = (before_without x.name f ls rs all.0, all.1, canonical_without f ls rs all.2)

none_between : (own : KindTree) (f : KindField) (ls rs : List KindField) → f.kind ≢ own → NoFieldIs own (fields_view (ls ++ rs)) → NoFieldIs own (fields_view (ls ++ f ∷ rs))
none_between own f [] rs other all = (other, all)
none_between own f (x ∷ ls) rs other all = (all.0, none_between own f ls rs other all.1)

none_without : (own : KindTree) (f : KindField) (ls rs : List KindField) → NoFieldIs own (fields_view (ls ++ f ∷ rs)) → NoFieldIs own (fields_view (ls ++ rs))
none_without own f [] rs all = all.1
none_without own f (x ∷ ls) rs all = (all.0, none_without own f ls rs all.1)

-- ---- one field is put between others, in place of another, or left out

put_new : (g : KindField) (ls rs : List KindField) → AreBefore g.name ls → IsBeforeFields g.name (fields_view rs) → IsCanonical g.kind → FieldsAreCanonical (fields_view (ls ++ rs)) → IsPut g.name g.kind (fields_view (ls ++ rs)) (fields_view (ls ++ g ∷ rs))
put_new g ls rs before behind one all = record {
  at = λ own m. put_between g own m ls rs before;
  canonical = canonical_between g ls rs before behind one all;
  others = λ own other none. none_between own g ls rs other none;
}

put_over : (f g : KindField) (ls rs : List KindField) → f.name ≡ g.name → AreBefore g.name ls → IsBeforeFields g.name (fields_view rs) → IsCanonical g.kind → FieldsAreCanonical (fields_view (ls ++ f ∷ rs))
    → IsPut g.name g.kind (fields_view (ls ++ f ∷ rs)) (fields_view (ls ++ g ∷ rs))
put_over f g ls rs is before behind one all = record {
  at = λ own m. put_between g own m ls rs before ∙ over_one f g.name g.kind own m ls rs is before;
  canonical = canonical_between g ls rs before behind one (canonical_without f ls rs all);
  others = λ own other none. none_between own g ls rs other (none_without own f ls rs none);
}

taken_from : (f : KindField) (n : List ℕ) (ls rs : List KindField) → f.name ≡ n → AreBefore n ls → IsBeforeFields n (fields_view rs) → FieldsAreCanonical (fields_view (ls ++ f ∷ rs)) → IsLeftOut n (fields_view (ls ++ f ∷ rs)) (fields_view (ls ++ rs))
taken_from f n ls rs is before behind all = record {
  at = λ own m. unchanged_between n own m ls rs before behind ∙ over_one f n own own m ls rs is before;
  canonical = canonical_without f ls rs all;
  others = λ own none. none_without own f ls rs none;
}

never_there : (n : List ℕ) (ls rs : List KindField) → AreBefore n ls → IsBeforeFields n (fields_view rs) → FieldsAreCanonical (fields_view (ls ++ rs)) → IsLeftOut n (fields_view (ls ++ rs)) (fields_view (ls ++ rs))
never_there n ls rs before behind all = record {
  at = λ own m. unchanged_between n own m ls rs before behind;
  canonical = all;
  others = λ own none. none;
}

-- ---- whether a name is known

known_behind : (o : Ordering) (b : Bool) → b ≡ true → match_ordering o b true b ≡ true
known_behind Less b is = is
known_behind Equal b is = refl
known_behind Greater b is = is

known_here : (n : List ℕ) (k : KindTree) (fs : KnownFields) → knows_name n (known_field n k fs) ≡ true
known_here n k fs = rw (tied_itself nat_list_cmp_total n) refl

known_past : (m n : List ℕ) (k : KindTree) (fs : KnownFields) → slice_cmp nat_cmp n m ≡ Greater → knows_name n (known_field m k fs) ≡ knows_name n fs
known_past m n k fs is = rw is refl

known_between : (f : KindField) (ls rs : List KindField) → knows_name f.name (fields_view (ls ++ f ∷ rs)) ≡ true
known_between f [] rs = known_here f.name f.kind (fields_view rs)
known_between f (x ∷ ls) rs = known_behind (slice_cmp nat_cmp f.name x.name) _ (known_between f ls rs)

not_known : (n : List ℕ) (fs : KnownFields) → IsBeforeFields n fs → knows_name n fs ≡ false
not_known n no_fields before = refl
not_known n (known_field m k fs) before = rw (before.0) (not_known n fs before.1)

not_known_between : (n : List ℕ) (ls rs : List KindField) → AreBefore n ls → IsBeforeFields n (fields_view rs) → knows_name n (fields_view (ls ++ rs)) ≡ false
not_known_between n [] rs before behind = not_known n (fields_view rs) behind
not_known_between n (a ∷ ls) rs before behind = known_past a.name n a.kind (fields_view (ls ++ rs)) (greater a.name n before.0) ∙ not_known_between n ls rs before.1 behind

found_between : (f : KindField) (own : KindTree) (ls rs : List KindField) → AreBefore f.name ls → field_or (fields_view (ls ++ f ∷ rs)) own f.name ≡ f.kind
found_between f own ls rs before =
    put_between f own f.name ls rs before
    ∙ ap (λ o. match_ordering o (field_or (fields_view (ls ++ rs)) own f.name) f.kind (field_or (fields_view (ls ++ rs)) own f.name)) (tied_itself nat_list_cmp_total f.name)

-- ---- by the place in memory

-- what stands at a place, and what stands before and behind it
whole_at : (fs : List KindField) (i : ℕ) (f : KindField) → i < length fs → f ≡ get_or fs i f → fs ≡ take i fs ++ f ∷ drop (suc i) fs
whole_at fs i f inside at = sym (ap (set fs i) at ∙ set-get_or fs i f) ∙ set_split fs i f inside

named_at : (fs : List KindField) (i : ℕ) (f : KindField) (n : List ℕ) → f ≡ get_or fs i f → IsFieldAt n fs i → f.name ≡ n
named_at fs i f n at is = ap (λ x. x.name) at ∙ is.named f

pub set_at : (n : List ℕ) (K : KindTree) (fs gs : List KindField) (i : ℕ) (f g : KindField) → FieldsAreCanonical (fields_view fs) → IsCanonical K → IsFieldAt n fs i → f ≡ get_or fs i f → gs ≡ set fs i g → g.name ≡ f.name → g.kind ≡ K
    → IsPut n K (fields_view fs) (fields_view gs)
set_at n K fs gs i f g all one is at e names kinds =
    let here : f.name ≡ n = named_at fs i f n at is in
    let there : g.name ≡ n = names ∙ here in
    let whole : fs ≡ take i fs ++ f ∷ drop (suc i) fs = whole_at fs i f is.inside at in
    let new : gs ≡ take i fs ++ g ∷ drop (suc i) fs = e ∙ set_split fs i g is.inside in
    let put : IsPut g.name g.kind (fields_view (take i fs ++ f ∷ drop (suc i) fs)) (fields_view (take i fs ++ g ∷ drop (suc i) fs)) =
    put_over f g (take i fs) (drop (suc i) fs) (sym names) (subst (λ x. AreBefore x (take i fs)) (sym there) is.before) (subst (λ x. IsBeforeFields x (fields_view (drop (suc i) fs))) (sym there) is.behind)
    (subst IsCanonical (sym kinds) one) (subst (λ xs. FieldsAreCanonical (fields_view xs)) whole all) in
    subst (λ x. IsPut x K (fields_view fs) (fields_view gs)) there
    (subst (λ k. IsPut g.name k (fields_view fs) (fields_view gs)) kinds
    (subst (λ xs. IsPut g.name g.kind (fields_view xs) (fields_view gs)) (sym whole)
    (subst (λ ys. IsPut g.name g.kind (fields_view (take i fs ++ f ∷ drop (suc i) fs)) (fields_view ys)) (sym new) put)))

pub insert_at : (n : List ℕ) (fs gs : List KindField) (i : ℕ) (g : KindField) → FieldsAreCanonical (fields_view fs) → IsCanonical g.kind → IsGapAt n fs i → gs ≡ insert fs i g → g.name ≡ n
    → IsPut n g.kind (fields_view fs) (fields_view gs)
insert_at n fs gs i g all one is e named =
    let whole : fs ≡ take i fs ++ drop i fs = sym (take-append-drop i fs) in
    let put : IsPut g.name g.kind (fields_view (take i fs ++ drop i fs)) (fields_view (take i fs ++ g ∷ drop i fs)) =
    put_new g (take i fs) (drop i fs) (subst (λ x. AreBefore x (take i fs)) (sym named) is.before) (subst (λ x. IsBeforeFields x (fields_view (drop i fs))) (sym named) is.behind)
    one (subst (λ xs. FieldsAreCanonical (fields_view xs)) whole all) in
    subst (λ x. IsPut x g.kind (fields_view fs) (fields_view gs)) named
    (subst (λ xs. IsPut g.name g.kind (fields_view xs) (fields_view gs)) (sym whole)
    (subst (λ ys. IsPut g.name g.kind (fields_view (take i fs ++ drop i fs)) (fields_view ys)) (sym e) put))

pub remove_at : (n : List ℕ) (fs gs : List KindField) (i : ℕ) (f : KindField) → FieldsAreCanonical (fields_view fs) → IsFieldAt n fs i → f ≡ get_or fs i f → gs ≡ remove fs i → IsLeftOut n (fields_view fs) (fields_view gs)
remove_at n fs gs i f all is at e =
    let whole : fs ≡ take i fs ++ f ∷ drop (suc i) fs = whole_at fs i f is.inside at in
    let left : IsLeftOut n (fields_view (take i fs ++ f ∷ drop (suc i) fs)) (fields_view (take i fs ++ drop (suc i) fs)) =
    taken_from f n (take i fs) (drop (suc i) fs) (named_at fs i f n at is) is.before is.behind (subst (λ xs. FieldsAreCanonical (fields_view xs)) whole all) in
    subst (λ xs. IsLeftOut n (fields_view xs) (fields_view gs)) (sym whole)
    (subst (λ ys. IsLeftOut n (fields_view (take i fs ++ f ∷ drop (suc i) fs)) (fields_view ys)) (sym e) left)

pub gap_left : (n : List ℕ) (fs gs : List KindField) (i : ℕ) → FieldsAreCanonical (fields_view fs) → IsGapAt n fs i → gs ≡ fs → IsLeftOut n (fields_view fs) (fields_view gs)
gap_left n fs gs i all is e =
    let whole : fs ≡ take i fs ++ drop i fs = sym (take-append-drop i fs) in
    let left : IsLeftOut n (fields_view (take i fs ++ drop i fs)) (fields_view (take i fs ++ drop i fs)) =
    never_there n (take i fs) (drop i fs) is.before is.behind (subst (λ xs. FieldsAreCanonical (fields_view xs)) whole all) in
    subst (λ ys. IsLeftOut n (fields_view fs) (fields_view ys)) (sym e) (subst (λ xs. IsLeftOut n (fields_view xs) (fields_view xs)) (sym whole) left)

pub gap_unknown : (n : List ℕ) (fs : List KindField) (i : ℕ) → IsGapAt n fs i → knows_name n (fields_view fs) ≡ false
gap_unknown n fs i is = subst (λ xs. knows_name n (fields_view xs) ≡ false) (take-append-drop i fs) (not_known_between n (take i fs) (drop i fs) is.before is.behind)

pub take_at : (n : List ℕ) (fs gs : List KindField) (i : ℕ) (f g : KindField) (K : KindTree) → FieldsAreCanonical (fields_view fs) → IsFieldAt n fs i → f ≡ get_or fs i f → gs ≡ set fs i g → g.name ≡ f.name → g.kind ≡ never_kind → K ≡ f.kind
    → AreTaken n (fields_view fs) (fields_view gs) K
take_at n fs gs i f g K all is at e names kinds given =
    let here : f.name ≡ n = named_at fs i f n at is in
    let there : g.name ≡ n = names ∙ here in
    let whole : fs ≡ take i fs ++ f ∷ drop (suc i) fs = whole_at fs i f is.inside at in
    let new : gs ≡ take i fs ++ g ∷ drop (suc i) fs = e ∙ set_split fs i g is.inside in
    let known : knows_name g.name (fields_view gs) ≡ true = subst (λ ys. knows_name g.name (fields_view ys) ≡ true) (sym new) (known_between g (take i fs) (drop (suc i) fs)) in
    record {
      known = subst (λ x. knows_name x (fields_view gs) ≡ true) there known;
      taken = λ own. ap (λ xs. field_or (fields_view xs) own n) whole
          ∙ ap (field_or (fields_view (take i fs ++ f ∷ drop (suc i) fs)) own) (sym here)
          ∙ found_between f own (take i fs) (drop (suc i) fs) (subst (λ x. AreBefore x (take i fs)) (sym here) is.before)
          ∙ sym given;
      put = set_at n never_kind fs gs i f g all (tt, tt) is at e names kinds;
    }

-- ---- the search

before_from : (n : List ℕ) (fs : List KindField) (i : ℕ) → ((j : ℕ) (d : KindField) → 0 ≤ j → j < i → slice_cmp nat_cmp (get_or fs j d).name n ≡ Less) → i ≤ length fs → AreBefore n (take i fs)
before_from n [] zero all inside = tt
before_from n [] (suc i) all inside = absurd (omega arith)
before_from n (f ∷ fs) zero all inside = tt
before_from n (f ∷ fs) (suc i) all inside = (all 0 f (omega arith) (omega arith), before_from n fs i (λ j d z below. all (suc j) d (omega arith) (omega (arith, below))) (omega arith))

behind_all : (n : List ℕ) (fs : List KindField) → ((j : ℕ) (d : KindField) → j < length fs → slice_cmp nat_cmp (get_or fs j d).name n ≡ Greater) → IsBeforeFields n (fields_view fs)
behind_all n [] all = tt
behind_all n (f ∷ fs) all = (lesser f.name n (all 0 f (omega arith)), behind_all n fs (λ j d below. all (suc j) d (omega (arith, below))))

behind_from : (n : List ℕ) (fs : List KindField) (i : ℕ) → ((j : ℕ) (d : KindField) → i ≤ j → j < length fs → slice_cmp nat_cmp (get_or fs j d).name n ≡ Greater) → IsBeforeFields n (fields_view (drop i fs))
behind_from n [] zero all = tt
behind_from n [] (suc i) all = tt
behind_from n (f ∷ fs) zero all = behind_all n (f ∷ fs) (λ j d below. all j d (omega arith) below)
behind_from n (f ∷ fs) (suc i) all = behind_from n fs i (λ j d above below. all (suc j) d (omega (arith, above)) (omega (arith, below)))

before_at : (a : List ℕ) (fs : List KindField) (i : ℕ) (d : KindField) → IsBeforeFields a (fields_view fs) → i < length fs → slice_cmp nat_cmp a (get_or fs i d).name ≡ Less
before_at a [] i d all inside = absurd (omega arith)
before_at a (f ∷ fs) zero d all inside = all.0
before_at a (f ∷ fs) (suc i) d all inside = before_at a fs i d all.1 (omega arith)

sorted_at : (fs : List KindField) (i j : ℕ) (d : KindField) → FieldsAreSorted (fields_view fs) → i < j → j < length fs → slice_cmp nat_cmp (get_or fs i d).name (get_or fs j d).name ≡ Less
sorted_at [] i j d sorted less inside = absurd (omega arith)
sorted_at (f ∷ fs) i zero d sorted less inside = absurd (omega arith)
sorted_at (f ∷ fs) zero (suc j) d sorted less inside = before_at f.name fs j d sorted.0 (omega arith)
sorted_at (f ∷ fs) (suc i) (suc j) d sorted less inside = sorted_at fs i j d sorted.1 (omega arith) (omega arith)

found_before : (n : List ℕ) (fs : List KindField) (i : ℕ) (d : KindField) → FieldsAreSorted (fields_view fs) → i < length fs → (get_or fs i d).name ≡ n → AreBefore n (take i fs)
found_before n [] i d sorted inside is = absurd (omega arith)
found_before n (f ∷ fs) zero d sorted inside is = tt
found_before n (f ∷ fs) (suc i) d sorted inside is = (ap (slice_cmp nat_cmp f.name) (sym is) ∙ before_at f.name fs i d sorted.0 (omega arith), found_before n fs i d sorted.1 (omega arith) is)

found_behind : (n : List ℕ) (fs : List KindField) (i : ℕ) (d : KindField) → FieldsAreSorted (fields_view fs) → i < length fs → (get_or fs i d).name ≡ n → IsBeforeFields n (fields_view (drop (suc i) fs))
found_behind n [] i d sorted inside is = absurd (omega arith)
found_behind n (f ∷ fs) zero d sorted inside is = subst (λ x. IsBeforeFields x (fields_view fs)) is sorted.0
found_behind n (f ∷ fs) (suc i) d sorted inside is = found_behind n fs i d sorted.1 (omega arith) is

-- names that rise compare so with each
rise_from : (o : Ordering) (a b n : List ℕ) → slice_cmp nat_cmp a b ≡ Less → slice_cmp nat_cmp a n ≡ o → ordering_index o ≤ ordering_index (slice_cmp nat_cmp b n)
rise_from Less a b n less is = omega arith
rise_from Equal a b n less is = rw (greater n b (ap (λ x. slice_cmp nat_cmp x b) (sym (one_name a n is)) ∙ less)) (omega arith)
rise_from Greater a b n less is = rw (greater n b (nat_list_cmp_total.trans n a b (lesser a n is) less)) (omega arith)

names_rise : (n : List ℕ) (fs : List KindField) (d : KindField) → FieldsAreSorted (fields_view fs) → (i j : ℕ) → i ≤ j → j < length fs → ordering_index (slice_cmp nat_cmp (get_or fs i d).name n) ≤ ordering_index (slice_cmp nat_cmp (get_or fs j d).name n)
names_rise n fs d sorted i j le inside = elim (cases_lt i j) [
  | inl less ↦ rise_from (slice_cmp nat_cmp (get_or fs i d).name n) (get_or fs i d).name (get_or fs j d).name n (sorted_at fs i j d sorted less inside) refl
  | inr back ↦
      let same : i ≡ j = omega (arith, le, back) in
      subst (λ k. ordering_index (slice_cmp nat_cmp (get_or fs i d).name n) ≤ ordering_index (slice_cmp nat_cmp (get_or fs k d).name n)) same (omega arith)
]

comparisons_rise : (n : List ℕ) (fs : List KindField) → FieldsAreSorted (fields_view fs) → IsNonDecreasingBy (λ f. ordering_index (slice_cmp nat_cmp f.name n)) fs
comparisons_rise n fs sorted = IsNonDecreasingBy-from_default (λ f. ordering_index (slice_cmp nat_cmp f.name n)) fs (record { name = []; kind = never_kind }) (names_rise n fs (record { name = []; kind = never_kind }) sorted)

-- a search by names ends at the field, or where it would stand
pub searched : (n : List ℕ) (fs : List KindField) (r : Result ℕ ℕ) → FieldsAreSorted (fields_view fs) → IsSearchInRange r (length fs) → IsBinarySearchResult (λ f. slice_cmp nat_cmp f.name n) fs r
    → record { found : IfOk r (IsFieldAt n fs); lacking : IfErr r (IsGapAt n fs) }
searched n fs (Ok at) sorted inside equal = record {
  found =
      let named : (d : KindField) → (get_or fs at d).name ≡ n = λ d. one_name (get_or fs at d).name n (equal d) in
      record {
        inside = inside;
        named = named;
        before = found_before n fs at (record { name = n; kind = never_kind }) sorted inside (named (record { name = n; kind = never_kind }));
        behind = found_behind n fs at (record { name = n; kind = never_kind }) sorted inside (named (record { name = n; kind = never_kind }));
      };
  lacking = tt;
}
searched n fs (Err at) sorted inside parted = record {
  found = tt;
  lacking =
      let sides = parted (comparisons_rise n fs sorted) in
      record {
        inside = inside;
        before = before_from n fs at (λ j d low below. sides.0 j d low below) inside;
        behind = behind_from n fs at (λ j d low below. sides.1 j d low below);
      };
}

-- ---- objects and kinds

tags_match : (o : Ordering) (K L : KindTree) (p : List Step) (t : Tag) → tags_at (match_ordering o K L K) p t ≡ match_ordering o (tags_at K p) (tags_at L p) (tags_at K p) t
tags_match Less K L p t = refl
tags_match Equal K L p t = refl
tags_match Greater K L p t = refl

pub object_put : (n : List ℕ) (K : KindTree) (fs gs : KnownFields) (r : RestTree)
    → ((m : List ℕ) → field_or gs (rest_kind r) m ≡ match_ordering (slice_cmp nat_cmp m n) (field_or fs (rest_kind r) m) K (field_or fs (rest_kind r) m)) → IsObjectPut n K (object_part fs r) (object_part gs r)
object_put n K fs gs r at = record {
  there = refl;
  at = λ m p t.
      ap (λ T. T t) (object_field gs r m p)
      ∙ ap (λ k. tags_at k p t) (at m)
      ∙ tags_match (slice_cmp nat_cmp m n) (field_or fs (rest_kind r) m) K p t
      ∙ ap (λ T. match_ordering (slice_cmp nat_cmp m n) T (tags_at K p) T t) (sym (object_field fs r m p));
}

-- one that says no more than the rest is left out
pub object_left : (n : List ℕ) (K : KindTree) (fs gs : KnownFields) (r : RestTree) → K ≡ rest_kind r → IsLeftOut n fs gs → IsObjectPut n K (object_part fs r) (object_part gs r)
object_left n K fs gs r e left =
    object_put n K fs gs r (λ m. subst (λ k. field_or gs (rest_kind r) m ≡ match_ordering (slice_cmp nat_cmp m n) (field_or fs (rest_kind r) m) k (field_or fs (rest_kind r) m)) (sym e) (left.at (rest_kind r) m))

pub canonical_left : (n : List ℕ) (fs gs : KnownFields) (r : RestTree) → IsLeftOut n fs gs → ObjectIsCanonical (object_part fs r) → ObjectIsCanonical (object_part gs r)
canonical_left n fs gs r left all = (left.canonical, all.1, left.others (rest_kind r) all.2)

pub canonical_put : (n : List ℕ) (K : KindTree) (fs gs : KnownFields) (r : RestTree) → (K ≡ rest_kind r → ⊥) → IsPut n K fs gs → ObjectIsCanonical (object_part fs r) → ObjectIsCanonical (object_part gs r)
canonical_put n K fs gs r other put all = (put.canonical, all.1, put.others (rest_kind r) other all.2)

pub kind_put : (n : List ℕ) (K : KindTree) (s : Scalars) (l : ListTree) (o q : ObjectTree) → IsObjectPut n K o q → SameSets (tags_at (kind s l q)) (put_at n (tags_at K) (tags_at (kind s l o)))
kind_put n K s l o q put [] t = same_root s l l q o refl put.there t
kind_put n K s l o q put (place i ∷ p) t = refl
kind_put n K s l o q put (field m ∷ p) t = put.at m p t

put_as : (n : List ℕ) (M N A : Sets) → SameSets M N → SameSets (put_at n M A) (put_at n N A)
put_as n M N A same [] t = refl
put_as n M N A same (place i ∷ p) t = refl
put_as n M N A same (field m ∷ p) t = by_order (slice_cmp nat_cmp m n)
  where
    by_order : (o : Ordering) → match_ordering o (A (field m ∷ p)) (M p) (A (field m ∷ p)) t ≡ match_ordering o (A (field m ∷ p)) (N p) (A (field m ∷ p)) t
    by_order Less = refl
    by_order Equal = same p t
    by_order Greater = refl

-- a field that was known is taken out of a kind
pub kind_taken : (n : List ℕ) (K : KindTree) (s : Scalars) (l : ListTree) (fs gs : KnownFields) (r : RestTree) → AreTaken n fs gs K → IsTaken n (kind s l (object_part fs r)) (kind s l (object_part gs r)) K
kind_taken n K s l fs gs r taken = record {
  known = taken.known;
  taken = λ p t. ap (λ k. tags_at k p t) (sym (taken.taken (rest_kind r))) ∙ ap (λ T. T t) (sym (object_field fs r n p));
  left = λ p t.
      kind_put n never_kind s l (object_part fs r) (object_part gs r) (object_put n never_kind fs gs r (taken.put.at (rest_kind r))) p t
      ∙ put_as n (tags_at never_kind) never_at (tags_at (kind s l (object_part fs r))) (λ q u. ap (λ T. T u) (never_tags q)) p t;
}

absent_there : (K : KindTree) → allows_absent (with_absent true K) ≡ true
absent_there (kind s l o) = refl

-- that nothing may stand there is never what a rest stands for
not_never : (r : RestTree) → never_kind ≢ rest_kind r
not_never r e = true≢false (sym (absent_there (bare_rest r)) ∙ sym (ap allows_absent e))

pub canonical_taken : (n : List ℕ) (K : KindTree) (fs gs : KnownFields) (r : RestTree) → AreTaken n fs gs K → ObjectIsCanonical (object_part fs r) → ObjectIsCanonical (object_part gs r)
canonical_taken n K fs gs r taken all = (taken.put.canonical, all.1, taken.put.others (rest_kind r) (not_never r) all.2)

-- ---- a kind that is read so

one_tree : (s : Scalars) (l : ListTree) (o : ObjectTree) (T : KindTree) → s ≡ scalars_of T → l ≡ list_tree T → o ≡ object_tree T → kind s l o ≡ T
one_tree s l o (kind u m q) a b c = λ i. kind (a i) (b i) (c i)

pub as_seen : (K T : KindTree) (s : Scalars) (l : ListTree) (o : ObjectTree) (b : Bool) → kind s l o ≡ K → s ≡ scalars_of T → l ≡ list_tree T → (IsTrue b ↔ (o ≡ object_tree T)) → IsTrue b ↔ (K ≡ T)
as_seen K T s l o b is a c d = (λ yes. sym is ∙ one_tree s l o T a c (d.0 yes), λ e. d.1 (ap object_tree (is ∙ e)))

-- ---- the objects of a kind in memory

-- what allows an object has some
pub not_objects : (s : Scalars) (l : ListTree) (K : KindTree) (G : Type 0) → kind s l no_object ≡ K → tags_at K [] tag.Object ≡ true → G
not_objects s l K G e is = absurd (true≢false (sym is ∙ ap (λ T. tags_at T [] tag.Object) (sym e)))

pub one_taken : (n : List ℕ) (o : Option KindTree) (s : Scalars) (l : ListTree) (fs gs : List KindField) (r : RestTree)
    → MatchOption o ((gs ≡ fs) × (knows_name n (fields_view fs) ≡ false)) (AreTaken n (fields_view fs) (fields_view gs))
    → MatchOption o ((kind s l (object_part (fields_view gs) r) ≡ kind s l (object_part (fields_view fs) r)) × (knows_field n (kind s l (object_part (fields_view fs) r)) ≡ false))
    (IsTaken n (kind s l (object_part (fields_view fs) r)) (kind s l (object_part (fields_view gs) r)))
one_taken n None s l fs gs r is = (ap (λ es. kind s l (object_part (fields_view es) r)) is.0, is.1)
one_taken n (Some K) s l fs gs r taken = kind_taken n K s l (fields_view fs) (fields_view gs) r taken

pub canonical_one : (n : List ℕ) (o : Option KindTree) (fs gs : List KindField) (r : RestTree)
    → MatchOption o ((gs ≡ fs) × (knows_name n (fields_view fs) ≡ false)) (AreTaken n (fields_view fs) (fields_view gs))
    → ObjectIsCanonical (object_part (fields_view fs) r) → ObjectIsCanonical (object_part (fields_view gs) r)
canonical_one n None fs gs r is all = subst (λ es. ObjectIsCanonical (object_part (fields_view es) r)) (sym is.0) all
canonical_one n (Some K) fs gs r taken all = canonical_taken n K (fields_view fs) (fields_view gs) r taken all
