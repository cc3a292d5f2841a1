-- A value in which another was set is of the kind that a write gives.
use Rattle.std.proofs.Common.{◌≡◌, ◌≢◌, ◌⊎◌, inl, inr, ℕ, ℤ, zero, suc, ◌-◌, ◌<◌, pos, negsuc, unsigned_abs, if◌then◌else◌, nat_lt, Bool, true, false, not, IsTrue, List, [], ◌∷◌, Option, Some, None, is_some, unwrap_or, Ordering, Less, Equal, Greater, refl, sym, ap, ◌∙◌, subst, arith}
use Rattle.std.proofs.lemmas.Bool.{ltb-true, true≢false}
use Rattle.std.proofs.lemmas.Option.{IfSome_then}
use Rattle.std.specs.Cmp.Lexicographic.{slice_cmp}
use Rattle.std.specs.Option.{IfSome}
use Rattle.std.specs.Ordering.{nat_cmp}
use Rattle.vrl_value.specs.Look.{Step, field, place, Found, there, missing, no_place, raw_at, part_at, item_at, found_if, found_behind, tag_found}
use Rattle.vrl_value.specs.Parts.{count_of}
use Rattle.vrl_value.specs.Tag.{tag_of}
use Rattle.vrl_value.specs.Tree.{Tree, string, integer, boolean, null, timestamp, regex, array, object, Items, no_items}
use Rattle.vrl_value.specs.declared.value.Tag.{Tag}
use Rattle.vrl_value.specs.declared.value.Tag.TheVariants as tag
use Rattle.vrl_path.specs.FromEnd.{behind_nulls, front_padded, part_behind, step_in}
use Rattle.vrl_path.specs.Laws.{SetsGoOn}
use Rattle.vrl_path.specs.Parts.{items_in, members_in, part_or_null, tree_or_null}
use Rattle.vrl_path.specs.Read.{place_of}
use Rattle.vrl_path.specs.Write.{Holds, IsPlainSet, IsSet, or_null as found_or_null}
use Rattle.vrl_path.specs.declared.path.Step.{Step as CodeStep}
use Rattle.vrl_path.specs.declared.path.Step.TheVariants.{Field, Place}
use Rattle.vrl_kind.specs.Change.{null_for_absent}
use Rattle.vrl_kind.specs.Kinds.{is_absence, only_at, step_tag}
use Rattle.vrl_kind.specs.Parts.{either_at}
use Rattle.vrl_kind.specs.Sets.{Sets, SameSets}
use Rattle.vrl_kind.specs.Tags.{never, only}
use Rattle.vrl_place.specs.FromEnd.{AreSomePlaces, IsSurePlace, spread}
use Rattle.vrl_place.specs.Read.{allowed}
use Rattle.vrl_place.specs.Sets.{is_alone, or_absent_if, part}
use Rattle.vrl_place.specs.Write.{IsPut, IsPutSomewhere, IsWrite, opened, or_null, put}
use Rattle.vrl_place.proofs.Counts.{has_count, is_array}
use Rattle.vrl_place.proofs.InPlace.{alone_only}
use Rattle.vrl_place.proofs.Orders.{equal, one_name, other_name, over, under}
use Rattle.vrl_place.proofs.Same.{one_sets}
use Rattle.vrl_place.proofs.Tags.{both, left_of, not_alone, not_same, right_of, step_present, value_present}
use Rattle.vrl_place.proofs.Values.{IsIn, by_order, nothing_behind, other_tag, some_tree, still_allowed}

abbrev tag_or_absent : Found → Tag
tag_or_absent (there t) = tag_of t
tag_or_absent missing = tag.Absent
tag_or_absent no_place = tag.Absent

-- what was found, or that there is nothing, is allowed, at each path from there on
record StandsIn (f : Found) (A : Sets) : Type 0 where
  pub here : IsTrue (A [] (tag_or_absent f))
  pub behind : (s : Step) (q : List Step) → IfSome (tag_found (found_behind f (s ∷ q) (λ u. raw_at u (s ∷ q)))) (λ t. IsTrue (A (s ∷ q) t))

-- there is another tag than that of the container of the step, or nothing
abbrev IsOther : Sets → Step → Type 0
IsOther A s = IsTrue (not (is_alone (A []) (step_tag s)))

holder : (s : Step) (f : Found) → Holds s f → IfSome (tag_found f) (λ t. IsTrue (only (step_tag s) t))
holder (field k) f h = subst (λ g. IfSome (tag_found g) (λ t. IsTrue (only tag.Object t))) (sym h) refl
holder (place i) f h = subst (λ g. IfSome (tag_found g) (λ t. IsTrue (only tag.List t))) (sym h) refl

-- beside what was written, where there was no such container
nothing_beside : (A : Sets) (t : Step) (q : List Step) → IsOther A t → IfSome (tag_found (found_behind missing q (λ u. raw_at u q))) (λ u. IsTrue (opened A t q u))
nothing_beside A t [] other = right_of _ _ (both _ _ other refl)
nothing_beside A t (x ∷ q) other = tt

beside_object : (f : Found) (A : Sets) (l : List ℕ) (q : List Step) → StandsIn f A → IfSome (tag_found (raw_at (object (members_in f)) (field l ∷ q))) (λ u. IsTrue (opened A (field l) q u))
beside_object (there (object ms)) A l q st = IfSome_then (tag_found (raw_at (object ms) (field l ∷ q))) (st.behind (field l) q) (λ u h. still_allowed _ (part A (field l)) q u h)
beside_object (there (string x)) A l q st = nothing_beside A (field l) q (not_alone (A []) tag.Object tag.Text st.here (λ e. cc))
beside_object (there (integer x)) A l q st = nothing_beside A (field l) q (not_alone (A []) tag.Object tag.Int st.here (λ e. cc))
beside_object (there (boolean x)) A l q st = nothing_beside A (field l) q (not_alone (A []) tag.Object tag.Bool st.here (λ e. cc))
beside_object (there null) A l q st = nothing_beside A (field l) q (not_alone (A []) tag.Object tag.Null st.here (λ e. cc))
beside_object (there (timestamp x)) A l q st = nothing_beside A (field l) q (not_alone (A []) tag.Object tag.Time st.here (λ e. cc))
beside_object (there (regex x)) A l q st = nothing_beside A (field l) q (not_alone (A []) tag.Object tag.Pattern st.here (λ e. cc))
beside_object (there (array ts)) A l q st = nothing_beside A (field l) q (not_alone (A []) tag.Object tag.List st.here (λ e. cc))
beside_object missing A l q st = nothing_beside A (field l) q (not_alone (A []) tag.Object tag.Absent st.here (λ e. cc))
beside_object no_place A l q st = nothing_beside A (field l) q (not_alone (A []) tag.Object tag.Absent st.here (λ e. cc))

behind_list : (f : Found) (A : Sets) (j : ℕ) (q : List Step) → StandsIn f A → IfSome (tag_found (raw_at (array (items_in f)) (place j ∷ q))) (λ u. IsTrue (opened A (place j) q u))
behind_list (there (array ts)) A j q st = IfSome_then (tag_found (raw_at (array ts) (place j ∷ q))) (st.behind (place j) q) (λ u h. still_allowed _ (part A (place j)) q u h)
behind_list (there (string x)) A j q st = nothing_beside A (place j) q (not_alone (A []) tag.List tag.Text st.here (λ e. cc))
behind_list (there (integer x)) A j q st = nothing_beside A (place j) q (not_alone (A []) tag.List tag.Int st.here (λ e. cc))
behind_list (there (boolean x)) A j q st = nothing_beside A (place j) q (not_alone (A []) tag.List tag.Bool st.here (λ e. cc))
behind_list (there null) A j q st = nothing_beside A (place j) q (not_alone (A []) tag.List tag.Null st.here (λ e. cc))
behind_list (there (timestamp x)) A j q st = nothing_beside A (place j) q (not_alone (A []) tag.List tag.Time st.here (λ e. cc))
behind_list (there (regex x)) A j q st = nothing_beside A (place j) q (not_alone (A []) tag.List tag.Pattern st.here (λ e. cc))
behind_list (there (object ms)) A j q st = nothing_beside A (place j) q (not_alone (A []) tag.List tag.Object st.here (λ e. cc))
behind_list missing A j q st = nothing_beside A (place j) q (not_alone (A []) tag.List tag.Absent st.here (λ e. cc))
behind_list no_place A j q st = nothing_beside A (place j) q (not_alone (A []) tag.List tag.Absent st.here (λ e. cc))

-- a lower place, which is filled up with null
filled_place : (A : Sets) (j : ℕ) (b : List Step) → IsTrue (opened A (place j) [] tag.Absent) → IfSome (tag_found (raw_at null b)) (λ u. IsTrue (null_for_absent (opened A (place j)) b u))
filled_place A j [] absent = right_of _ _ (both _ _ absent refl)
filled_place A j (x ∷ b) absent = nothing_behind (λ u. IsTrue (null_for_absent (opened A (place j)) (x ∷ b) u)) x b

lower_part : (A : Sets) (j : ℕ) (f : Found) → ((q : List Step) → IfSome (tag_found (found_behind f q (λ u. raw_at u q))) (λ t. IsTrue (A (place j ∷ q) t))) → (f ≡ no_place → IsOther A (place j)) → (b : List Step)
    → IfSome (tag_found (found_behind (found_or_null (found_behind {S = Step} f [] (λ u. raw_at u []))) b (λ u. raw_at u b))) (λ u. IsTrue (null_for_absent (opened A (place j)) b u))
lower_part A j (there x) h other [] = left_of _ _ (both _ _ (left_of _ _ (h [])) (not_same (tag_of x) tag.Absent (value_present x)))
lower_part A j (there x) h other (y ∷ b) = h (y ∷ b)
lower_part A j missing h other b = filled_place A j b (left_of _ _ (h []))
lower_part A j no_place h other b = filled_place A j b (right_of _ _ (both _ _ (other refl) refl))

lower_place : (f : Found) (A : Sets) (j : ℕ) (b : List Step) → StandsIn f A → IfSome (tag_found (found_behind (found_or_null (found_behind f (place j ∷ []) (λ u. raw_at u (place j ∷ [])))) b (λ u. raw_at u b))) (λ u. IsTrue (null_for_absent (opened A (place j)) b u))
lower_place (there u) A j b st = lower_part A j (part_at u (place j)) (λ q. st.behind (place j) q) (λ none. not_alone (A []) tag.List (tag_of u) st.here (other_tag u (place j) none)) b
lower_place missing A j b st = filled_place A j b (right_of _ _ (both _ _ (not_alone (A []) tag.List tag.Absent st.here (λ e. cc)) refl))
lower_place no_place A j b st = filled_place A j b (right_of _ _ (both _ _ (not_alone (A []) tag.List tag.Absent st.here (λ e. cc)) refl))

-- ---- one step

-- what a value that stands in some kind is taken for: the value, or that nothing is there
abbrev pub Stands : Tree → Sets → Type 0
Stands v A = IsIn v (allowed A) ⊎ ((v ≡ null) × IsTrue (A [] tag.Absent))

part_stands : (A : Sets) (s : Step) (f : Found) → ((q : List Step) → IfSome (tag_found (found_behind f q (λ u. raw_at u q))) (λ t. IsTrue (A (s ∷ q) t))) → (f ≡ no_place → IsOther A s) → Stands (tree_or_null f) (opened A s)
part_stands A s (there x) h other = inl (λ q. IfSome_then (tag_found (raw_at x q)) (h q) (λ t is. still_allowed _ (part A s) q t is))
part_stands A s missing h other = inr (refl, left_of _ _ (h []))
part_stands A s no_place h other = inr (refl, right_of _ _ (both _ _ (other refl) refl))

next_stands : (v : Tree) (A : Sets) (s : Step) → Stands v A → Stands (part_or_null v s) (opened A s)
next_stands v A s (inl h) = part_stands A s (part_at v s) (λ q. h (s ∷ q)) (λ none. not_alone (A []) (step_tag s) (tag_of v) (h []) (other_tag v s none))
next_stands v A s (inr h) =
    subst (λ u. Stands (part_or_null u s) (opened A s)) (sym h.0) (none_stands A s (not_alone (A []) (step_tag s) tag.Absent h.1 (step_present s)))
  where
    none_stands : (B : Sets) (t : Step) → IsOther B t → Stands (part_or_null null t) (opened B t)
    none_stands B (field k) other = inr (refl, right_of _ _ (both _ _ other refl))
    none_stands B (place i) other = inr (refl, right_of _ _ (both _ _ other refl))

-- what a set of one step takes a tree for
record Looks (v : Tree) (f : Found) : Type 0 where
  pub members : members_in (there v) ≡ members_in f
  pub items : items_in (there v) ≡ items_in f
  pub low : (j : ℕ) → found_or_null (raw_at v (place j ∷ [])) ≡ found_or_null (found_behind f (place j ∷ []) (λ u. raw_at u (place j ∷ [])))

-- a set of one step into what stands there
put_found : (f : Found) (v t w : Tree) (s : Step) (A W : Sets) → Looks v f → StandsIn f A → IsIn t (allowed W) → IsPlainSet v (s ∷ []) t w → IsIn w (allowed (put A s W))
put_found f v t w s A W looks st new is [] = holder s (raw_at w []) (is.above [] s [] refl)
put_found f v t w (field k) A W looks st new is (place j ∷ q) = subst (λ g. IfSome (tag_found g) (λ x. IsTrue (never x))) (sym (is.place_at_field [] k j [] q refl)) tt
put_found f v t w (place i) A W looks st new is (field l ∷ q) = subst (λ g. IfSome (tag_found g) (λ x. IsTrue (never x))) (sym (is.field_at_place [] i l [] q refl)) tt
put_found f v t w (field k) A W looks st new is (field l ∷ q) =
    let beside : l ≢ k → IfSome (tag_found (raw_at w (field l ∷ q))) (λ x. IsTrue (opened A (field l) q x)) =
    λ ne. subst (λ g. IfSome (tag_found g) (λ x. IsTrue (opened A (field l) q x))) (sym (is.beside_field [] k l [] q refl ne ∙ ap (λ ms. raw_at (object ms) (field l ∷ q)) looks.members)) (beside_object f A l q st) in
    by_order (slice_cmp nat_cmp l k) _ _ _ _
    (λ o. beside (other_name Less l k o (λ x. cc)))
    (λ o. subst (λ g. IfSome (tag_found g) (λ x. IsTrue (W q x))) (sym (ap (λ m. raw_at w (field m ∷ q)) (one_name l k o) ∙ is.within q)) (new q))
    (λ o. beside (other_name Greater l k o (λ x. cc)))
put_found f v t w (place i) A W looks st new is (place j ∷ q) =
    by_order (nat_cmp j i) _ _ _ _
    (λ o. subst (λ g. IfSome (tag_found g) (λ x. IsTrue (null_for_absent (opened A (place j)) q x)))
    (sym (is.before_place [] i j [] q refl (under j i o) ∙ ap (λ g. found_behind g q (λ u. raw_at u q)) (looks.low j)))
    (lower_place f A j q st))
    (λ o. subst (λ g. IfSome (tag_found g) (λ x. IsTrue (W q x))) (sym (ap (λ m. raw_at w (place m ∷ q)) (equal j i o) ∙ is.within q)) (new q))
    (λ o. subst (λ g. IfSome (tag_found g) (λ x. IsTrue (opened A (place j) q x))) (sym (is.behind_place [] i j [] q refl (over j i o) ∙ ap (λ ts. raw_at (array ts) (place j ∷ q)) looks.items)) (behind_list f A j q st))

put_in : (v t w : Tree) (s : Step) (A W : Sets) → Stands v A → IsIn t (allowed W) → IsPlainSet v (s ∷ []) t w → IsIn w (allowed (put A s W))
put_in v t w s A W (inl h) new is = put_found (there v) v t w s A W record { members = refl; items = refl; low = λ j. refl } record { here = h []; behind = λ x q. h (x ∷ q) } new is
put_in v t w s A W (inr h) new is =
    put_found missing v t w s A W
    record { members = ap (λ u. members_in (there u)) h.0; items = ap (λ u. items_in (there u)) h.0; low = λ j. ap (λ u. found_or_null (raw_at u (place j ∷ []))) h.0 }
    record { here = h.1; behind = λ x q. tt } new is

-- ---- a place that isn't known

-- each of these items is of the kind
abbrev pub EachIs : Items → Sets → Type 0
EachIs ts E = (l : ℕ) (x : Tree) → item_at l ts ≡ Some x → IsIn x (allowed E)

null_or : (ts : Items) (E : Sets) → EachIs ts E → IsIn null (allowed E) → (l : ℕ) (o : Option Tree) → item_at l ts ≡ o → IsIn (tree_or_null (found_if o)) (allowed E)
null_or ts E each nulls l None is = nulls
null_or ts E each nulls l (Some x) is = each l x is

pub left_in : (E W : Sets) (w : Tree) → IsIn w (allowed E) → IsIn w (allowed (either_at E W))
left_in E W w h q = IfSome_then (tag_found (raw_at w q)) (h q) (λ t is. left_of (E q t) (W q t) is)

pub right_in : (E W : Sets) (w : Tree) → IsIn w (allowed W) → IsIn w (allowed (either_at E W))
right_in E W w h q = IfSome_then (tag_found (raw_at w q)) (h q) (λ t is. right_of (E q t) (W q t) is)

-- an item, or that there is none, where it may be absent
pub item_or_absent : (ts : Items) (E : Sets) → EachIs ts E → (l : ℕ) (q : List Step) (o : Option Tree) → item_at l ts ≡ o → IfSome (tag_found (found_behind (found_if o) q (λ u. raw_at u q))) (λ t. IsTrue (or_absent_if true E q t))
item_or_absent ts E each l [] None is = right_of (E [] tag.Absent) true refl
item_or_absent ts E each l (y ∷ q) None is = tt
item_or_absent ts E each l q (Some x) is = IfSome_then (tag_found (raw_at x q)) (each l x is q) (λ t h. still_allowed true E q t h)

or_null_tree : (f : Found) (q : List Step) → found_behind (found_or_null f) q (λ u. raw_at u q) ≡ raw_at (tree_or_null f) q
or_null_tree (there x) q = refl
or_null_tree missing q = refl
or_null_tree no_place q = refl

found_end : (f : Found) → tree_or_null (found_behind {S = Step} f [] (λ u. raw_at u [])) ≡ tree_or_null f
found_end (there x) = refl
found_end missing = refl
found_end no_place = refl

put_somewhere : (us : Items) (j : ℕ) (t w : Tree) (E W : Sets) → EachIs us E → IsIn null (allowed E) → IsIn t (allowed W) → IsPlainSet (array us) (place j ∷ []) t w → IsIn w (allowed (spread (only_at tag.List) (either_at E W)))
put_somewhere us j t w E W each nulls new is [] = holder (place j) (raw_at w []) (is.above [] (place j) [] refl)
put_somewhere us j t w E W each nulls new is (field l ∷ q) = subst (λ g. IfSome (tag_found g) (λ x. IsTrue (only_at tag.List (field l ∷ q) x))) (sym (is.field_at_place [] j l [] q refl)) tt
put_somewhere us j t w E W each nulls new is (place l ∷ q) = by_place (nat_cmp l j) refl
  where
    Fits : Found → Type 0
    Fits g = IfSome (tag_found g) (λ x. IsTrue (or_absent_if true (either_at E W) q x))

    opened_up : (y : Tree) → IsIn y (allowed (either_at E W)) → IfSome (tag_found (raw_at y q)) (λ x. IsTrue (or_absent_if true (either_at E W) q x))
    opened_up y h = IfSome_then (tag_found (raw_at y q)) (h q) (λ x a. still_allowed true (either_at E W) q x a)

    by_place : (o : Ordering) → nat_cmp l j ≡ o → IfSome (tag_found (raw_at w (place l ∷ q))) (λ x. IsTrue (or_absent_if true (either_at E W) q x))
    by_place Less o =
        subst (λ g. IfSome (tag_found g) (λ x. IsTrue (or_absent_if true (either_at E W) q x)))
        (sym (is.before_place [] j l [] q refl (under l j o) ∙ or_null_tree (raw_at (array us) (place l ∷ [])) q ∙ ap (λ y. raw_at y q) (found_end (found_if (item_at l us)))))
        (opened_up (tree_or_null (found_if (item_at l us))) (left_in E W _ (null_or us E each nulls l (item_at l us) refl)))
    by_place Equal o =
        subst (λ g. IfSome (tag_found g) (λ x. IsTrue (or_absent_if true (either_at E W) q x)))
        (sym (ap (λ m. raw_at w (place m ∷ q)) (equal l j o) ∙ is.within q))
        (opened_up t (right_in E W t new))
    by_place Greater o =
        subst (λ g. IfSome (tag_found g) (λ x. IsTrue (or_absent_if true (either_at E W) q x)))
        (sym (is.behind_place [] j l [] q refl (over l j o)))
        (item_or_absent us (either_at E W) (λ m x found. left_in E W x (each m x found)) l q (item_at l us) refl)

-- ---- nulls in front

padded_each : (n : ℕ) (ts : Items) (E : Sets) → EachIs ts E → IsIn null (allowed E) → EachIs (behind_nulls n ts) E
padded_each zero ts E each nulls l x found = each l x found
padded_each (suc n) ts E each nulls zero x found = subst (λ u. IsIn u (allowed E)) (some_tree null x found) nulls
padded_each (suc n) ts E each nulls (suc l) x found = padded_each n ts E each nulls l x found

-- no place from the end is one of an array that isn't there
no_such_test : (b : Bool) (i : ℕ) → nat_lt i 0 ≡ b → is_some (if b then Some (0 - suc i) else None) ≡ false
no_such_test true i is = let below : i < 0 = ltb-true i 0 is in absurd (omega arith)
no_such_test false i is = refl

no_such_place : (i : ℕ) → is_some (place_of 0 (negsuc i)) ≡ false
no_such_place i = no_such_test (nat_lt i 0) i refl

-- the array that stands there once it is long enough
abbrev IsPadded : Tree → ℕ → Sets → Type 0
IsPadded v i E = (us : Items) × (front_padded v (Place (negsuc i)) ≡ array us) × EachIs us E

either_padded : (b : Bool) (ts us : Items) (E : Sets) → EachIs ts E → EachIs us E → (xs : Items) × ((if b then array ts else array us) ≡ array xs) × EachIs xs E
either_padded true ts us E first second = (ts, refl, first)
either_padded false ts us E first second = (us, refl, second)

bare_padded : (v : Tree) (i : ℕ) (us : Items) (E : Sets) → EachIs us E → (xs : Items) × ((if is_some (place_of 0 (negsuc i)) then v else array us) ≡ array xs) × EachIs xs E
bare_padded v i us E each = (us, ap (λ b. if b then v else array us) (no_such_place i), each)

nulls_each : (n : ℕ) (E : Sets) → IsIn null (allowed E) → EachIs (behind_nulls n no_items) E
nulls_each n E nulls = padded_each n no_items E (λ l x found. cc) nulls

padded_to : (v : Tree) (i : ℕ) (E : Sets) → ((ts : Items) → v ≡ array ts → EachIs ts E) → IsIn null (allowed E) → IsPadded v i E
padded_to (array ts) i E each nulls =
    either_padded (is_some (place_of (count_of ts) (negsuc i))) ts (behind_nulls (unsigned_abs (negsuc i) - count_of ts) ts) E (each ts refl) (padded_each (unsigned_abs (negsuc i) - count_of ts) ts E (each ts refl) nulls)
padded_to (string x) i E each nulls = bare_padded (string x) i (behind_nulls (unsigned_abs (negsuc i) - 0) no_items) E (nulls_each (unsigned_abs (negsuc i) - 0) E nulls)
padded_to (integer x) i E each nulls = bare_padded (integer x) i (behind_nulls (unsigned_abs (negsuc i) - 0) no_items) E (nulls_each (unsigned_abs (negsuc i) - 0) E nulls)
padded_to (boolean x) i E each nulls = bare_padded (boolean x) i (behind_nulls (unsigned_abs (negsuc i) - 0) no_items) E (nulls_each (unsigned_abs (negsuc i) - 0) E nulls)
padded_to null i E each nulls = bare_padded null i (behind_nulls (unsigned_abs (negsuc i) - 0) no_items) E (nulls_each (unsigned_abs (negsuc i) - 0) E nulls)
padded_to (timestamp x) i E each nulls = bare_padded (timestamp x) i (behind_nulls (unsigned_abs (negsuc i) - 0) no_items) E (nulls_each (unsigned_abs (negsuc i) - 0) E nulls)
padded_to (regex x) i E each nulls = bare_padded (regex x) i (behind_nulls (unsigned_abs (negsuc i) - 0) no_items) E (nulls_each (unsigned_abs (negsuc i) - 0) E nulls)
padded_to (object ms) i E each nulls = bare_padded (object ms) i (behind_nulls (unsigned_abs (negsuc i) - 0) no_items) E (nulls_each (unsigned_abs (negsuc i) - 0) E nulls)

-- ---- a place that is known

sure_step : (v : Tree) (A : Sets) (at : ℤ) (j : ℕ) → IsSurePlace A at j → Stands v A → place_of (count_of (items_in (there v))) at ≡ Some j
sure_step v A at j sure (inl h) =
    let list : only tag.List (tag_of v) ≡ true = sym (alone_only (A []) tag.List (tag_of v) sure.alone) ∙ h [] in
    let found = is_array v list in
    subst (λ u. place_of (count_of (items_in (there u))) at ≡ Some j) (sym found.1)
    (ap (λ count. place_of count at) (has_count found.0 A sure.count (subst (λ u. IsIn u (allowed A)) found.1 h) sure.length) ∙ sure.counted)
sure_step v A at j sure (inr h) = absurd (true≢false (sym h.1 ∙ alone_only (A []) tag.List tag.Absent sure.alone))

-- where a place from the end is one from the start, nothing is padded
pub front_stays : (v : Tree) (at : ℤ) (j : ℕ) → place_of (count_of (items_in (there v))) at ≡ Some j → front_padded v (Place at) ≡ v
front_stays v at j is = ap (λ o. if is_some o then v else array (behind_nulls (unsigned_abs at - count_of (items_in (there v))) (items_in (there v)))) is

pub step_is : (v : Tree) (at : ℤ) (j : ℕ) → place_of (count_of (items_in (there v))) at ≡ Some j → step_in v (Place at) ≡ place j
step_is v at j is = ap (λ o. place (unwrap_or o 0)) is

pub part_is : (v : Tree) (at : ℤ) (j : ℕ) → place_of (count_of (items_in (there v))) at ≡ Some j → part_behind v (Place at) ≡ part_or_null v (place j)
part_is v at j is = ap (λ u. part_or_null u (step_in v (Place at))) (front_stays v at j is) ∙ ap (part_or_null v) (step_is v at j is)

-- ---- a path

pub null_in : (P : Sets) → IsIn null (allowed (or_null P))
null_in P [] = right_of (P [] tag.Null) true refl
null_in P (y ∷ q) = nothing_behind (λ t. IsTrue (or_null P (y ∷ q) t)) y q

not_absence : (q : List Step) (x : Tree) → IfSome (tag_found (raw_at x q)) (λ t. IsTrue (not (is_absence q t)))
not_absence [] x = not_same (tag_of x) tag.Absent (value_present x)
not_absence (y ∷ q) x = none (tag_found (raw_at x (y ∷ q)))
  where
    none : (o : Option Tag) → IfSome o (λ t. IsTrue (not false))
    none None = tt
    none (Some t) = refl

both_hold : (o : Option Tag) (P Q R : Tag → Type 0) → ((t : Tag) → P t → Q t → R t) → IfSome o P → IfSome o Q → IfSome o R
both_hold None P Q R so p q = tt
both_hold (Some t) P Q R so p q = so t p q

-- the items of a value are what the kind allows at some place
pub items_are : (v : Tree) (A P : Sets) → AreSomePlaces A P → IsIn v (allowed A) → (ts : Items) → v ≡ array ts → EachIs ts P
items_are v A P are h ts is l x found q =
    let here : IfSome (tag_found (raw_at x q)) (λ t. IsTrue (A (place l ∷ q) t)) =
    subst (λ o. IfSome (tag_found (found_behind (found_if o) q (λ u. raw_at u q))) (λ t. IsTrue (A (place l ∷ q) t))) found
    (subst (λ u. IfSome (tag_found (raw_at u (place l ∷ q))) (λ t. IsTrue (A (place l ∷ q) t))) is (h (place l ∷ q))) in
    both_hold (tag_found (raw_at x q)) (λ t. IsTrue (A (place l ∷ q) t)) (λ t. IsTrue (not (is_absence q t))) (λ t. IsTrue (P q t)) (λ t a b. (are.at q t).1 ((l, a), b)) here (not_absence q x)

stood_are : (v : Tree) (A P : Sets) → AreSomePlaces A P → Stands v A → (ts : Items) → v ≡ array ts → EachIs ts (or_null P)
stood_are v A P are (inl h) ts is l x found = left_in P (only_at tag.Null) x (items_are v A P are h ts is l x found)
stood_are v A P are (inr h) ts is l x found = cc

pub in_sets : (w : Tree) (B C : Sets) → SameSets B C → IsIn w (allowed C) → IsIn w (allowed B)
in_sets w B C same h q = subst (λ D. IfSome (tag_found (raw_at w q)) (λ t. IsTrue (D q t))) (sym (one_sets B C same)) (h q)

-- the rest of the path does what its write says
abbrev Holds_on : List CodeStep → Tree → Sets → Type 0
Holds_on r n N = (v w : Tree) (A B : Sets) → IsWrite A r N B → Stands v A → IsSet v r n w → IsIn w (allowed B)

written_step : (v n w : Tree) (s : Step) (c : CodeStep) (r : List CodeStep) (A N B : Sets) → Holds_on r n N → front_padded v c ≡ v → step_in v c ≡ s → part_behind v c ≡ part_or_null v s
    → ((t : Tree) × IsSet (part_behind v c) r n t × IsPlainSet (front_padded v c) (step_in v c ∷ []) t w) → IsPut A s (λ C W. IsWrite C r N W) B → Stands v A → IsIn w (allowed B)
written_step v n w s c r A N B later front step part on put_is stands =
    in_sets w B (put A s put_is.0) put_is.2
    (put_in v on.0 w s A put_is.0 stands
    (later (part_or_null v s) on.0 (opened A s) put_is.0 put_is.1 (next_stands v A s stands) (subst (λ u. IsSet u r n on.0) part on.1))
    (subst (λ u. IsPlainSet u (s ∷ []) on.0 w) front (subst (λ x. IsPlainSet (front_padded v c) (x ∷ []) on.0 w) step on.2)))

written_end : (v n w : Tree) (i : ℕ) (r : List CodeStep) (A N B : Sets) → Holds_on r n N
    → ((t : Tree) × IsSet (part_behind v (Place (negsuc i))) r n t × IsPlainSet (front_padded v (Place (negsuc i))) (step_in v (Place (negsuc i)) ∷ []) t w) → IsPutSomewhere A (λ C W. IsWrite C r N W) B → Stands v A → IsIn w (allowed B)
written_end v n w i r A N B later on is stands =
    let E = or_null is.places in
    let padded = padded_to v i E (stood_are v A is.places is.are stands) (null_in is.places) in
    let us = padded.0 in
    let j = unwrap_or (place_of (count_of (items_in (there v))) (negsuc i)) 0 in
    let there_is : IsIn (part_behind v (Place (negsuc i))) (allowed E) =
    subst (λ u. IsIn (part_or_null u (place j)) (allowed E)) (sym padded.1) (null_or us E padded.2 (null_in is.places) j (item_at j us) refl) in
    in_sets w B (spread (only_at tag.List) (either_at E is.written)) is.same
    (put_somewhere us j on.0 w E is.written padded.2 (null_in is.places)
    (later (part_behind v (Place (negsuc i))) on.0 E is.written is.behind (inl there_is) on.1)
    (subst (λ u. IsPlainSet u (place j ∷ []) on.0 w) padded.1 on.2))

written_in : SetsGoOn → (r : List CodeStep) (n : Tree) (N : Sets) → IsIn n (allowed N) → Holds_on r n N
written_in go [] n N new v w A B same stands is = λ q.
    subst (λ f. IfSome (tag_found f) (λ t. IsTrue (B q t))) (sym (is.within q)) (in_sets n B N same new q)
written_in go (Field k ∷ r) n N new v w A B put_is stands is =
    written_step v n w (field k) (Field k) r A N B (written_in go r n N new) refl refl refl (go v (Field k) r n w is) put_is stands
written_in go (Place (pos i) ∷ r) n N new v w A B put_is stands is =
    written_step v n w (place i) (Place (pos i)) r A N B (written_in go r n N new) refl refl refl (go v (Place (pos i)) r n w is) put_is stands
written_in go (Place (negsuc i) ∷ r) n N new v w A B (inl put_is) stands is =
    let counts = sure_step v A (negsuc i) put_is.0 put_is.1 stands in
    written_step v n w (place put_is.0) (Place (negsuc i)) r A N B (written_in go r n N new) (front_stays v (negsuc i) put_is.0 counts) (step_is v (negsuc i) put_is.0 counts) (part_is v (negsuc i) put_is.0 counts)
    (go v (Place (negsuc i)) r n w is) put_is.2 stands
written_in go (Place (negsuc i) ∷ r) n N new v w A B (inr put_is) stands is =
    written_end v n w i r A N B (written_in go r n N new) (go v (Place (negsuc i)) r n w is) put_is.1 stands

pub written_inhabits : SetsGoOn → (v n w : Tree) (p : List CodeStep) (A N B : Sets) → IsWrite A p N B → IsIn v (allowed A) → IsIn n (allowed N) → IsSet v p n w → IsIn w (allowed B)
written_inhabits go v n w p A N B write old new is = written_in go p n N new v w A B write (inl old) is
